use mathlib.Core.Path.{ap₂}
use Rattle.spec.specs.Map.Change.{changed, set_replicas}
use Rattle.map_tables.specs.View.{view_shard}
use Rattle.map_shard.proofs.row_change.without_holder.Goals as goal

pub returns : goal.returns
unfolding changed
returns c = (
  ap₂ (set_replicas (view_shard c.args.s)) c.holder_removed-kept.ensures.0 c.synced_removed-left.ensures.0,
  record { held = c.holder_removed-kept.ensures.1; synced = c.synced_removed-left.ensures.1 },
)
