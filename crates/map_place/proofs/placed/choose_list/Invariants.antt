use mathlib.Core.Path.{◌≡◌}
use Prim.Native.Nat.{◌+◌, ◌-◌, ◌≤◌}
use Rattle.spec.specs.Map.Place.{choose_nodes}
use Rattle.map_place.specs.Read.{loads_in, Columns, Light, round_in}
use Rattle.map_place.proofs.placed.choose_list.Given as goal

abbrev pub invariant-loop-i : goal.invariant-loop-i
invariant-loop-i l =
    (Columns l.ids l.counts l.count) × (l.i ≤ l.replication) × (l.list.count ≤ l.i) × Light (2048 + l.i) (loads_in l.ids l.counts l.count) × (choose_nodes (l.replication - l.i) (round_in l.ids l.counts l.count l.list) ≡ choose_nodes l.replication (round_in l.ids l.initial.counts l.count l.initial.list))
