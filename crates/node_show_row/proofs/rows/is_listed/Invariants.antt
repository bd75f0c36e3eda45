use Rattle.spec.specs.Lists.{any}
use Rattle.spec.specs.Node.Shown.{listed_as}
use mathlib.Core.Path.{◌≡◌}
use Prim.Native.Nat.{◌≤◌}
use lib.ListN.{take, drop}
use Rattle.node_show_row.proofs.rows.is_listed.Given as goal

abbrev pub invariant-loop-i : goal.invariant-loop-i
invariant-loop-i l =
    (l.i ≤ l.count) × (any (listed_as (l.id) (l.incarnation)) (take l.count l.items) ≡ any (listed_as (l.id) (l.incarnation)) (drop l.i (take l.count l.items)))
