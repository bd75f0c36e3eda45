use mathlib.Core.Path.{ap}
use mathlib.Core.List.{List}
use lib.ListN.{take}
use Rattle.spec.specs.declared.Peer.{Peer}
use Rattle.image_parts.specs.Canon.{padded}
use Rattle.image_header_row.specs.Rows.{no_peer, peers_at, peers_bytes}
use Rattle.image_header_form.proofs.FrontLaws.{stored_same}
use Rattle.image_header_form.proofs.PeerLaws.{waits-none}
use Rattle.image_header_form.proofs.peers.peers_tidied.Goals as goal

pub peers_waited-requires : goal.peers_waited-requires
peers_waited-requires c = c.requires

pub returns : goal.returns
returns c =
    let a = c.args in
    stored_same (ap (λ (l : List Peer). peers_bytes (padded 32 no_peer l)) (waits-none 0 0 (take a.count (peers_at a.out.now a.at))))
    c.peers_waited.ensures
