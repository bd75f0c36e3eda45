use mathlib.Core.Path.{◌≡◌}
use mathlib.Core.List.{◌++◌, flatten}
use Prim.Native.Nat.{◌+◌, ◌-◌, ◌≤◌}
use lib.ListN.{length, drop}
use Rattle.spec.specs.Lists.{find}
use Rattle.map_tables.specs.View.{view_list, view_placement}
use Rattle.image_map_create.proofs.ListLaws.{ends}
use Rattle.image_map_create.proofs.lists.walk.Given as goal

abbrev pub invariant-loop-j : goal.invariant-loop-j
invariant-loop-j l =
    (l.j ≤ l.n) × (l.n ≤ 8) × (l.n ≡ length (view_list l.list)) × (find (ends l.map) (flatten (view_placement l.p)) ≡ find (ends l.map) (drop l.j (view_list l.list) ++ flatten (drop (l.i + 1) (view_placement l.p))))

abbrev pub invariant-loop-i : goal.invariant-loop-i
invariant-loop-i l =
    (l.i ≤ l.p.count) × (find (ends l.map) (flatten (view_placement l.p)) ≡ find (ends l.map) (flatten (drop l.i (view_placement l.p))))
