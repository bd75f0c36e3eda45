use Rattle.spec.specs.Map.Create.{new_shard}
use Rattle.image_map_create.proofs.shards.new_shard.Goals as goal

pub listed_holders-replicas-requires : goal.listed_holders-replicas-requires
listed_holders-replicas-requires c = c.requires

pub returns : goal.returns
unfolding new_shard
returns c =
    (rw (c.listed_holders-replicas.ensures.0, c.listed_synced-insync.ensures.0, c.first_of-primary.ensures), record { held = c.listed_holders-replicas.ensures.1; synced = c.listed_synced-insync.ensures.1 })
