use Rattle.image_map_row.specs.Rows.{node_bytes}
use Rattle.image_parts.specs.Parts.{address_bytes}
use Rattle.image_parts.specs.Codes.{flag_code}
use Rattle.image_parts.proofs.Images.{stored-then, stored-word, stored_as_lem}
use Rattle.image_map_row.proofs.nodes.put_node.Goals as goal

pub returns : goal.returns
unfolding node_bytes address_bytes
returns c =
    let r = c.args.r in
    stored-then (stored-then (stored-then (stored-then (stored-word 8 r.node.0 c.put8.ensures) (stored-word 8 r.incarnation c.put8-2.ensures)) (stored_as_lem 4 c.flag_code.result (flag_code r.alive) c.flag_code.ensures c.put4.ensures)) (stored-word 4 0 c.put4-2.ensures)) c.put_address.ensures
