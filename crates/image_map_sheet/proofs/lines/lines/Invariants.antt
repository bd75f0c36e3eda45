use mathlib.Core.Path.{◌≡◌}
use Prim.Native.Nat.{◌-◌, ◌≤◌}
use lib.ListN.{length, take}
use mathlib.Core.List.{map}
use Rattle.spec_sheet.specs.Sheet.{loaded_of}
use Rattle.map_tables.specs.View.{view_nodes, view_shards}
use Rattle.image_map.specs.Image.{nodes_at, shards_at}
use Rattle.image_map_sheet.specs.Answers.{view_load}
use Rattle.image_map_sheet.proofs.lines.lines.Given as goal

abbrev pub invariant-loop-i : goal.invariant-loop-i
invariant-loop-i l =
    (l.i ≤ l.nodes) × (length l.items ≡ 32) × (map view_load (take l.i l.items) ≡ map (loaded_of (view_shards (shards_at l.s))) (take l.i (view_nodes (nodes_at l.s))))
