use Rattle.image_header_row.specs.Rows.{peer_flags, peer_bytes}
use Rattle.image_parts.proofs.Images.{stored-then, stored-word, stored_as_lem}
use Rattle.image_header_row.proofs.peers.put_peer.Goals as goal

pub returns : goal.returns
unfolding peer_bytes
returns c =
    let p = c.args.p in
    stored-then (stored-then (stored-then (stored-then (stored-word 8 p.node.0 c.put8.ensures) (stored-word 8 p.acked.0 c.put8-2.ensures)) (stored-word 8 p.since c.put8-3.ensures)) (stored_as_lem 4 c.peer_flags-flags.result (peer_flags p) c.peer_flags-flags.ensures c.put4.ensures)) (stored-word 4 0 c.put4-2.ensures)
