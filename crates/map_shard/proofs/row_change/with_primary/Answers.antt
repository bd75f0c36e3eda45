use mathlib.Core.Path.{refl}
use Rattle.spec.specs.Map.Change.{changed}
use Rattle.map_shard.proofs.row_change.with_primary.Goals as goal

pub returns : goal.returns
unfolding changed
returns c = (
  rw c.deposed-synced.ensures.0 refl,
  record { held = c.requires.0.held; synced = c.deposed-synced.ensures.1 },
)
