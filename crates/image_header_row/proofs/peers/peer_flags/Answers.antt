use Rattle.image_header_row.proofs.peers.peer_flags.Goals as goal

pub returns : goal.returns
returns c = rw (c.bit.ensures.0, c.bit-2.ensures.0, c.bit-3.ensures.0, c.bit-4.ensures.0)
