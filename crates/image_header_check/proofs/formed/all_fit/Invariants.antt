use mathlib.Core.Path.{◌≡◌}
use Prim.Native.Nat.{◌-◌, ◌≤◌}
use lib.ListN.{take, drop}
use Rattle.spec.specs.Lists.{every}
use Rattle.node_header.specs.Formed.{held_row_fits}
use Rattle.image_header.specs.Image.{node_at}
use Rattle.image_header_check.proofs.formed.all_fit.Given as goal

abbrev pub invariant-loop-i : goal.invariant-loop-i
invariant-loop-i l =
    (l.i ≤ l.count) × (every held_row_fits (take l.count (node_at l.s).held) ≡ every held_row_fits (drop l.i (take l.count (node_at l.s).held)))
