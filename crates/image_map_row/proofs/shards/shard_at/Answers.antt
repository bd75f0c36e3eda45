use Rattle.image_map_row.specs.Rows.{shard_at, holders_at, in_sync_at}
use Rattle.image_parts.specs.Parts.{key_at, replicas_at, ids_at}
use Rattle.image_map_row.proofs.shards.shard_at.Goals as goal

pub returns : goal.returns
unfolding shard_at holders_at in_sync_at key_at replicas_at ids_at
returns c =
    rw (c.key_at-key.ensures, c.primary_of-primary.ensures, c.get4.ensures, c.get8.ensures, c.get8-2.ensures, c.holders_at-replicas.ensures, c.in_sync_at-insync.ensures)
