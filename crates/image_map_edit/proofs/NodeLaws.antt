-- The nodes of a map after a row was put in or put over another. Assumes nothing.
use Prim.Native.Nat.{ℕ, ◌+◌, ◌-◌, ◌*◌, ◌≤◌, ◌<◌}
use mathlib.Core.Path.{◌≡◌, refl, sym, ap, subst, ◌∙◌}
use mathlib.Core.Bool.{true, false}
use mathlib.Core.List.{List, map}
use lib.Dec.{ltb}
use lib.ListN.{length, set, length-set}
use lib.Seq.{sets}
use native.Mathlib.Omega.{arith}
use Rattle.spec.specs.Lists.{put, lead}
use Rattle.spec.specs.Layout.Format.{number_at, bytes_of}
use Rattle.spec.specs.Map.Apply.{node_below}
use Rattle.spec.specs.Map.Tables as tables
use Rattle.spec_laws.proofs.Map.Orders.{numbers}
use Rattle.map_tables.specs.View.{view_node, view_nodes}
use Rattle.map_tables.specs.declared.NodeRow.{NodeRow}
use Rattle.map_tables.proofs.Tables.{map-set, lead-most}
use Rattle.image_parts.specs.Shape.{Stored}
use Rattle.image_map_row.specs.Rows.{node_at, node_bytes}
use Rattle.image_map.specs.Image.{no_node, nodes_at}
use Rattle.image_map.proofs.Back.{NodeFits}
use Rattle.image_map_put.specs.Few.{Few}
use Rattle.image_map_put.specs.Rows.{node_rows, read_as}
use Rattle.image_map_put.proofs.Tidy.{rows-used}
use Rattle.image_map_put.proofs.Whole.{node-same, nodes_long}
use Rattle.image_move.specs.Moved.{Moved}
use Rattle.image_map_edit.specs.Becomes.{NodesBecome, Apart}
use Rattle.image_map_edit.proofs.Put.{over, in_long, in_place}
use Rattle.image_map_edit.proofs.Table.{put_over}
use Rattle.image_map_edit.proofs.Types.{node-back}

pub node-within : (s : List ℕ) → Few s → (node count at : ℕ) → count ≡ number_at 8 s 8
    → at ≡ lead (λ (y : tables.NodeInfo). ltb y.node node) (view_nodes (nodes_at s)) → (at ≤ count) × (count ≤ 32)
node-within s few node count at e f =
    let n : length (read_as s).nodes ≡ number_at 8 s 8 = nodes_long s few in
    let g : at ≡ lead (λ (y : tables.NodeInfo). ltb y.node node) (read_as s).nodes = f ∙ ap (λ (r : List NodeRow). lead (λ (y : tables.NodeInfo). ltb y.node node) (map view_node r)) (rows-used (number_at 8 s 8) (node_at s) 96 40 no_node 32 few.nodes) in
    let k = few.nodes in
    let m = lead-most (λ (y : tables.NodeInfo). ltb y.node node) (read_as s).nodes in
    (omega arith, omega arith)

module _ (s : List ℕ) (few : Few s) (row : NodeRow) (fits : NodeFits row) (room : length (put node_below (view_node row) (read_as s).nodes) ≤ 32)
    (count at : ℕ) (counts : count ≡ number_at 8 s 8) (found : at ≡ lead (λ (y : tables.NodeInfo). ltb y.node row.node.0) (view_nodes (nodes_at s))) where
  node-found : at ≡ lead (λ (y : tables.NodeInfo). ltb y.node row.node.0) (read_as s).nodes
  node-found = found ∙ ap (λ (l : List NodeRow). lead (λ (y : tables.NodeInfo). ltb y.node row.node.0) (map view_node l)) (rows-used (number_at 8 s 8) (node_at s) 96 40 no_node 32 few.nodes)

  pub node_over : (t : List ℕ) → at < count → ltb row.node.0 (view_node (node_at s (40 + 96 * at))).node ≡ false → Stored s t (40 + 96 * at) (node_bytes row) 96
      → NodesBecome s t (put node_below (view_node row) (read_as s).nodes)
  node_over t h level put =
      let f = few.nodes in
      let l = few.long in
      let done = over node_at 96 40 8 no_node (omega arith) node-same view_node node_below s row (λ y. numbers.apart y.node row.node.0) at node-found
      t (node_bytes row) (omega arith) level put (node-back row fits put (omega arith)) in
      record { apart = done.0; view = done.1 }

  module _ (le : at ≤ count) (above : at < count → ltb row.node.0 (view_node (node_at s (40 + 96 * at))).node ≡ true) where
    one_more : number_at 8 s 8 + 1 ≤ 32
    one_more =
        let k = in_long node_at 96 40 8 no_node (omega arith) node-same view_node node_below s row (λ y. numbers.apart y.node row.node.0) at node-found (omega arith) (λ h. above (omega arith)) in
        omega arith

    pub node-room : count + 1 ≤ 32
    node-room = let k = one_more in omega arith

    pub node_in_lem : (m r t : List ℕ) → Moved s m (40 + 96 * at) (40 + 96 * (at + 1)) (8 * (12 * (count - at))) → Stored m r (40 + 96 * at) (node_bytes row) 96
        → t ≡ sets r 8 (bytes_of 8 (count + 1)) → NodesBecome s t (put node_below (view_node row) (read_as s).nodes)
    node_in_lem m r t move put e =
        let l = few.long in
        let k = one_more in
        let n = move.long in
        let q : 8 * (12 * (count - at)) ≡ 96 * (number_at 8 s 8 - at) = omega arith in
        let done = in_place node_at 96 40 8 no_node (omega arith) node-same view_node node_below s row (λ y. numbers.apart y.node row.node.0) at node-found (omega arith) (λ h. above (omega arith))
        m r t (node_bytes row) (subst (Moved s m (40 + 96 * at) (40 + 96 * (at + 1))) q move) put (node-back row fits put (omega arith)) (rw counts at e) (omega arith) (omega arith) in
        record { apart = done.0; view = done.1 }

module _ (s : List ℕ) (few : Few s) (row : NodeRow) (fits : NodeFits row) (at : ℕ) (h : at < number_at 8 s 8) where
  pub node_set_at : (t : List ℕ) → Stored s t (40 + 96 * at) (node_bytes row) 96 → NodesBecome s t (set (read_as s).nodes at (view_node row))
  node_set_at t put =
      let f = few.nodes in
      let l = few.long in
      let done = put_over node_at 96 40 8 no_node (omega arith) node-same s t (number_at 8 s 8) at (node_bytes row) row h put (node-back row fits put (omega arith)) refl in
      let n : length (set (read_as s).nodes at (view_node row)) ≡ number_at 8 s 8 = length-set (read_as s).nodes at (view_node row) ∙ nodes_long s few in
      record {
        apart = subst (λ (i : ℕ). Apart s t 8 40 (40 + 96 * i)) (sym n) done.0;
        view = ap (map view_node) done.1 ∙ map-set view_node (node_rows s) at row;
      }
