use mathlib.Core.Path.{◌≡◌}
use Prim.Native.Nat.{◌+◌, ◌≤◌}
use lib.ListN.{take, drop}
use Rattle.spec_count.specs.Closed.{alive_among}
use Rattle.map_tables.specs.View.{view_map}
use Rattle.image_map.specs.Image.{map_at}
use Rattle.image_map_count.proofs.tests.alive_among.Given as goal

abbrev pub invariant-loop-i : goal.invariant-loop-i
invariant-loop-i l =
    (l.i ≤ l.ids.count) × (l.n ≤ l.i) × (l.n + alive_among (view_map (map_at l.map)).nodes (drop l.i (take l.ids.count l.ids.items)) ≡ alive_among (view_map (map_at l.map)).nodes (take l.ids.count l.ids.items))
