use mathlib.Core.Path.{◌≡◌}
use Prim.Native.Nat.{◌+◌, ◌-◌, ◌≤◌}
use Rattle.spec.specs.Layout.Format.{number_at}
use Rattle.map_tables.specs.Names.{view_name}
use Rattle.image_map_put.specs.Rows.{read_as}
use Rattle.image_map_create.specs.Absent.{absent}
use Rattle.image_map_create.proofs.room.absent_keys.Given as goal

abbrev pub invariant-loop-i : goal.invariant-loop-i
invariant-loop-i l =
    (l.i ≤ l.n) × (l.free ≤ l.i) × (l.used ≡ number_at 8 l.map 24) × (l.free + absent (read_as l.map).shards (view_name l.name) l.i (l.n - l.i) ≡ absent (read_as l.map).shards (view_name l.name) 0 l.n)
