use Rattle.spec.specs.Map.Change.{changed}
use Rattle.map_shard.proofs.row_change.without_synced.Goals as goal

pub returns : goal.returns
unfolding changed
returns c =
    (rw c.synced_removed-synced.ensures.0, record { held = c.requires.held; synced = c.synced_removed-synced.ensures.1 })
