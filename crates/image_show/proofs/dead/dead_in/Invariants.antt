use mathlib.Core.Path.{◌≡◌}
use Prim.Native.Nat.{◌-◌, ◌≤◌}
use lib.ListN.{take, drop}
use Rattle.spec.specs.Lists.{any}
use Rattle.image_map.specs.Image.{nodes_at}
use Rattle.node_show_row.specs.Rows.{dead_at}
use Rattle.image_show.proofs.dead.dead_in.Given as goal

abbrev pub invariant-loop-i : goal.invariant-loop-i
invariant-loop-i l =
    (l.i ≤ l.count) × (any (dead_at l.id l.incarnation) (take (nodes_at l.map).count (nodes_at l.map).items) ≡ any (dead_at l.id l.incarnation) (drop l.i (take (nodes_at l.map).count (nodes_at l.map).items)))
