use mathlib.Core.Path.{◌≡◌}
use Prim.Native.Nat.{◌-◌, ◌≤◌}
use lib.ListN.{take, drop}
use Rattle.spec.specs.Lists.{every}
use Rattle.spec.specs.Node.Client.{has_acked}
use Rattle.image_header_row.specs.Rows.{peers_at}
use Rattle.image_header_form.proofs.peers.all_acked.Given as goal

abbrev pub invariant-loop-i : goal.invariant-loop-i
invariant-loop-i l =
    (l.i ≤ l.count) × (every (has_acked l.offset) (take l.count (peers_at l.s l.at)) ≡ every (has_acked l.offset) (drop l.i (take l.count (peers_at l.s l.at))))
