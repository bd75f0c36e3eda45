use mathlib.Core.Path.{◌≡◌}
use Prim.Native.Nat.{◌+◌, ◌-◌, ◌*◌, ◌≤◌}
use lib.ListN.{drop}
use Rattle.spec_sheet.specs.Sheet.{unknown_in}
use Rattle.map_tables.specs.View.{view_nodes, view_shards}
use Rattle.image_map.specs.Image.{nodes_at, shards_at}
use Rattle.image_map_sheet.proofs.shards.unknown_in.Given as goal

abbrev pub invariant-loop-i : goal.invariant-loop-i
invariant-loop-i l =
    (l.i ≤ l.shards) × (l.n ≤ 8 * l.i) × (unknown_in (view_nodes (nodes_at l.s)) (view_shards (shards_at l.s)) ≡ l.n + unknown_in (view_nodes (nodes_at l.s)) (drop l.i (view_shards (shards_at l.s))))
