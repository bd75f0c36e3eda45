use mathlib.Core.Path.{◌≡◌}
use Prim.Native.Nat.{◌-◌, ◌≤◌}
use lib.ListN.{take, drop}
use Rattle.spec.specs.Lists.{rising}
use Rattle.node_header.specs.Formed.{held_row_below}
use Rattle.image_header.specs.Image.{node_at}
use Rattle.image_header_check.proofs.formed.keys_rise.Given as goal

abbrev pub invariant-loop-i : goal.invariant-loop-i
invariant-loop-i l =
    (1 ≤ l.i) × (l.i ≤ l.count) × (rising held_row_below (take l.count (node_at l.s).held) ≡ rising held_row_below (drop (l.i - 1) (take l.count (node_at l.s).held)))
