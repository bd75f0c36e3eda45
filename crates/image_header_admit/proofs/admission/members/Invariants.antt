use mathlib.Core.Path.{◌≡◌}
use Prim.Native.Nat.{◌≤◌}
use lib.ListN.{length, take}
use Rattle.spec.specs.Lists.{filter}
use Rattle.spec.specs.Node.Client.{is_member}
use Rattle.image_header_row.specs.Rows.{peers_at}
use Rattle.image_header_admit.proofs.admission.members.Given as goal

abbrev pub invariant-loop-i : goal.invariant-loop-i
invariant-loop-i l =
    (l.i ≤ l.count) × (l.n ≤ l.i) × (l.n ≡ length (filter is_member (take l.i (peers_at l.s l.at))))
