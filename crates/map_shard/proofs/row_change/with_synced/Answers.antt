use Rattle.spec.specs.Map.Change.{changed}
use Rattle.map_shard.proofs.row_change.with_synced.Goals as goal

pub returns : goal.returns
unfolding changed
returns c =
    (rw c.synced_added-synced.ensures.0, record { held = c.requires.0.held; synced = c.synced_added-synced.ensures.1 })
