use Rattle.spec.specs.Layout.Parts.{metric_code}
use Rattle.image_map_row.specs.Rows.{collection_bytes}
use Rattle.image_parts.specs.Parts.{name_bytes}
use Rattle.image_parts.proofs.Images.{stored-then, stored-word, stored_as_lem}
use Rattle.image_map_row.proofs.collections.put_collection.Goals as goal

pub returns : goal.returns
unfolding collection_bytes name_bytes
returns c =
    let r = c.args.c in
    stored-then (stored-then (stored-then (stored-then c.put_name.ensures (stored-word 4 r.spec.dimension c.put4.ensures)) (stored_as_lem 4 c.metric_code.result (metric_code r.spec.metric) c.metric_code.ensures c.put4-2.ensures)) (stored-word 4 r.spec.shards c.put4-3.ensures)) (stored-word 4 r.spec.replication c.put4-4.ensures)
