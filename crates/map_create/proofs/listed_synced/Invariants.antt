use mathlib.Core.Path.{◌≡◌}
use mathlib.Core.List.{[]}
use Prim.Native.Nat.{◌≤◌}
use lib.ListN.{length, drop}
use Rattle.spec.specs.Map.Create.{add_all}
use Rattle.map_tables.specs.View.{view_list, view_in_sync}
use Rattle.map_create.proofs.listed_synced.Given as goal

abbrev pub invariant-loop-j : goal.invariant-loop-j
invariant-loop-j l =
    (l.j ≤ l.n) × (l.n ≤ 8) × (l.n ≡ length (view_list l.list)) × (l.out.count ≤ 8) × (length (view_in_sync l.out) ≤ l.j) × (add_all [] (view_list l.list) ≡ add_all (view_in_sync l.out) (drop l.j (view_list l.list)))
