use Rattle.calls_show_row.proofs.PeerLaws.{Carried}
use Rattle.calls_show_row.proofs.peers.put_in.Given as goal

abbrev pub invariant-loop-i : goal.invariant-loop-i
invariant-loop-i l =
    Carried l.initial.out l.row l.to l.initial.carry l.out l.i l.carry
