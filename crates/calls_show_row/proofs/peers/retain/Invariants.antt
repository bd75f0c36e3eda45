use Prim.Native.Nat.{◌≤◌}
use lib.ListN.{take}
use Rattle.spec.specs.Node.Shown.{retained}
use Rattle.calls_show_row.proofs.PeerLaws.{Changed}
use Rattle.calls_show_row.proofs.peers.retain.Given as goal

abbrev pub invariant-loop-i : goal.invariant-loop-i
invariant-loop-i l =
    (l.i ≤ l.count) × Changed l.initial.out l.row (retained (take l.holders l.replicas)) l.out l.i
