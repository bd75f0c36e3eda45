use mathlib.Core.Path.{◌≡◌}
use Prim.Native.Nat.{◌-◌, ◌≤◌}
use lib.ListN.{take, drop}
use Rattle.spec.specs.Lists.{any}
use Rattle.node_header.specs.Formed.{on_slot}
use Rattle.image_header.specs.Image.{node_at}
use Rattle.image_header_check.proofs.formed.slot_after.Given as goal

abbrev pub invariant-loop-i : goal.invariant-loop-i
invariant-loop-i l =
    (l.i ≤ l.count) × (any (on_slot l.slot) (drop l.from (take l.count (node_at l.s).held)) ≡ any (on_slot l.slot) (drop l.i (take l.count (node_at l.s).held)))
