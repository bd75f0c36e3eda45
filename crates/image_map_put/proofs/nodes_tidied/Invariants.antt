use Prim.Native.Nat.{◌-◌, ◌≤◌}
use lib.ListN.{length}
use Rattle.map_tables.specs.View.{view_node}
use Rattle.image_map_row.specs.Rows.{node_at, node_bytes}
use Rattle.image_map_form.specs.Canon.{image_node}
use Rattle.image_map.specs.Image.{no_node}
use Rattle.image_map_put.proofs.Tidy.{Done, Tidy}
use Rattle.image_map_put.proofs.nodes_tidied.Given as goal

abbrev pub invariant-loop-i : goal.invariant-loop-i
invariant-loop-i l =
    Done node_bytes 96 40 no_node l.initial.out (Tidy image_node view_node l.count (node_at l.initial.out) 96 40 no_node) l.out l.i × (l.i ≤ l.count) × (l.count ≤ 32) × (26536 ≤ length l.initial.out)
