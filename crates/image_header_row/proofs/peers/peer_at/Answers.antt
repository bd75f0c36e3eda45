use Rattle.image_header_row.specs.Rows.{peer_at}
use Rattle.image_header_row.proofs.peers.peer_at.Goals as goal

pub returns : goal.returns
unfolding peer_at
returns c = rw (c.get8.ensures, c.get8-2.ensures, c.get8-since.ensures, c.get4-flags.ensures)
