use mathlib.Core.Path.{◌≡◌}
use mathlib.Core.List.{◌++◌, map}
use Prim.Native.Nat.{◌+◌, ◌-◌, ◌*◌, ◌≤◌}
use lib.ListN.{length, take}
use Rattle.spec.specs.Map.Place.{place_shards}
use Rattle.map_tables.specs.View.{view_list}
use Rattle.map_place.specs.Read.{loads_in, Columns, Light}
use Rattle.map_place.proofs.placed.place_lists.Given as goal

abbrev pub invariant-loop-i : goal.invariant-loop-i
invariant-loop-i l =
    (Columns l.ids l.counts l.count) × (l.i ≤ l.shards) × (length l.lists ≡ 16) × Light (512 + 8 * l.i) (loads_in l.ids l.counts l.count) × (map view_list (take l.i l.lists) ++ place_shards (l.shards - l.i) l.replication (loads_in l.ids l.counts l.count) ≡ place_shards l.shards l.replication (loads_in l.ids l.initial.counts l.count))
