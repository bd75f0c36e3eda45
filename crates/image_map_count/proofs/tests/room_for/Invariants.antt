use mathlib.Core.Path.{◌≡◌}
use Prim.Native.Nat.{◌+◌, ◌-◌, ◌≤◌}
use Rattle.map_tables.specs.Names.{view_name}
use Rattle.map_tables.specs.View.{view_map}
use Rattle.image_map.specs.Image.{map_at}
use Rattle.image_map_count.proofs.Room.{new_from}
use Rattle.image_map_count.proofs.tests.room_for.Given as goal

abbrev pub invariant-loop-i : goal.invariant-loop-i
invariant-loop-i l =
    (l.i ≤ l.shards) × (l.total ≤ l.count + l.i) × (l.total + new_from (view_map (map_at l.map)).shards (view_name l.name) l.i (l.shards - l.i) ≡ l.count + new_from (view_map (map_at l.map)).shards (view_name l.name) 0 l.shards)
