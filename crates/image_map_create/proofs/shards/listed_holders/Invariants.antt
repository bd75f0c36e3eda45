use mathlib.Core.Path.{◌≡◌}
use Prim.Native.Nat.{◌-◌, ◌≤◌}
use lib.ListN.{length, take}
use mathlib.Core.List.{map}
use Rattle.spec.specs.Map.Create.{replica_of}
use Rattle.map_tables.specs.View.{view_list, view_holders}
use Rattle.image_map_put.specs.Rows.{read_as}
use Rattle.image_map_create.proofs.shards.listed_holders.Given as goal

abbrev pub invariant-loop-j : goal.invariant-loop-j
invariant-loop-j l =
    (l.j ≤ l.n) × (l.n ≤ 8) × (l.n ≡ length (view_list l.list)) × (l.out.count ≡ l.j) × (view_holders l.out ≡ map (replica_of (read_as l.map).nodes) (take l.j (view_list l.list)))
