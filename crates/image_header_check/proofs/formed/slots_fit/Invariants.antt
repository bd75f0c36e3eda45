use mathlib.Core.Path.{◌≡◌}
use Prim.Native.Nat.{◌-◌, ◌≤◌}
use lib.ListN.{take, drop}
use Rattle.node_header.specs.Formed.{slots_fit}
use Rattle.image_header.specs.Image.{node_at}
use Rattle.image_header_check.proofs.formed.slots_fit.Given as goal

abbrev pub invariant-loop-i : goal.invariant-loop-i
invariant-loop-i l =
    (l.i ≤ l.count) × (slots_fit (take l.count (node_at l.s).held) ≡ slots_fit (drop l.i (take l.count (node_at l.s).held)))
