use Rattle.image_map_row.specs.Rows.{shard_bytes}
use Rattle.image_parts.specs.Parts.{key_bytes, replicas_bytes, ids_bytes}
use Rattle.image_parts.specs.Codes.{primary_code, primary_node}
use Rattle.image_parts.proofs.Images.{stored-then, stored-word, stored_as_lem}
use Rattle.image_map_row.proofs.shards.put_shard.Goals as goal

pub returns : goal.returns
unfolding shard_bytes key_bytes replicas_bytes ids_bytes
returns c =
    let r = c.args.r in
    stored-then (stored-then (stored-then (stored-then (stored-then (stored-then (stored-then c.put_key.ensures (stored_as_lem 4 c.primary_code.result (primary_code r.primary) c.primary_code.ensures c.put4.ensures)) (stored_as_lem 8 c.primary_node.result (primary_node r.primary) c.primary_node.ensures c.put8.ensures)) (stored-word 8 r.epoch.0 c.put8-2.ensures)) (stored-word 8 r.replicas.count c.put8-3.ensures)) (stored-word 8 r.insync.count c.put8-4.ensures)) c.put_replicas.ensures) c.put_ids.ensures
