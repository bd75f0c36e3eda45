use mathlib.Core.Path.{◌≡◌}
use Prim.Native.Nat.{◌-◌, ◌≤◌}
use lib.ListN.{take, drop}
use Rattle.spec.specs.Lists.{every}
use Rattle.spec.specs.Node.WellFormed.{ack_fits}
use Rattle.image_header_row.specs.Rows.{peers_at}
use Rattle.image_header_check.proofs.formed.acks_fit.Given as goal

abbrev pub invariant-loop-i : goal.invariant-loop-i
invariant-loop-i l =
    (l.i ≤ l.count) × (every ack_fits (take l.count (peers_at l.s l.at)) ≡ every ack_fits (drop l.i (take l.count (peers_at l.s l.at))))
