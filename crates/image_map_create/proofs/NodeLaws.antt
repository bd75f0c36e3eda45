-- What a map's bytes know of a node, by the place at which it was found. Assumes nothing.
use Prim.Native.Nat.{ℕ, ◌+◌, ◌*◌, ◌≤◌, ◌<◌}
use mathlib.Core.Path.{◌≡◌, refl, sym, ap, ◌∙◌}
use mathlib.Core.Bool.{Bool, false}
use mathlib.Core.List.{List, map}
use mathlib.Core.Option.{Option, none, some}
use lib.ListN.{length}
use native.Mathlib.Omega.{arith}
use Rattle.spec.specs.Layout.Format.{number_at}
use Rattle.spec.specs.Map.Create as model
use Rattle.spec.specs.Map.Create.{is_node, is_alive, incarnation_of}
use Rattle.spec.specs.Map.Tables as tables
use Rattle.map_tables.specs.Find.{first_at}
use Rattle.map_tables.specs.View.{view_node, view_nodes}
use Rattle.map_tables.specs.declared.NodeRow.{NodeRow}
use Rattle.map_tables.proofs.Tables.{found, missed}
use Rattle.image_parts.specs.Codes.{flag_of}
use Rattle.image_map_row.specs.Rows.{node_at}
use Rattle.image_map.specs.Image.{no_node, nodes_at}
use Rattle.image_map_check.proofs.RowLaws.{rows_long, rows_row}
use Rattle.image_map_put.specs.Few.{Few}
use Rattle.image_map_put.specs.Rows.{read_as}
use Rattle.image_map_put.proofs.Tidy.{rows-used}

alive-is : (s : List ℕ) (at : ℕ) → (view_node (node_at s at)).alive ≡ flag_of (number_at 4 s (at + 16))
unfolding node_at
alive-is s at = refl

incarnation_is : (s : List ℕ) (at : ℕ) → (view_node (node_at s at)).incarnation ≡ number_at 8 s (at + 8)
unfolding node_at
incarnation_is s at = refl

module _ (s : List ℕ) (few : Few s) (n count place : ℕ) (counts : count ≡ number_at 8 s 8) (is : place ≡ first_at (is_node n) (view_nodes (nodes_at s))) where
  long : number_at 8 s 8 ≤ length (nodes_at s).items
  long = let f = few.nodes in let q = rows_long 32 96 40 (node_at s) no_node (number_at 8 s 8) f in omega arith

  used : (read_as s).nodes ≡ view_nodes (nodes_at s)
  used = sym (ap (map view_node) (rows-used (number_at 8 s 8) (node_at s) 96 40 no_node 32 few.nodes))

  node-none : count ≤ place → model.node_at (read_as s).nodes n ≡ none
  unfolding model.node_at
  node-none h = ap (λ (l : List tables.NodeInfo). model.node_at l n) used ∙ missed view_node (nodes_at s).items (number_at 8 s 8) long (is_node n) place is (omega arith)

  node_some : place < count → model.node_at (read_as s).nodes n ≡ some (view_node (node_at s (40 + 96 * place)))
  unfolding model.node_at
  node_some h =
      ap (λ (l : List tables.NodeInfo). model.node_at l n) used ∙ found view_node (nodes_at s).items (number_at 8 s 8) long (is_node n) place is no_node (omega arith)
      ∙ ap (λ (r : NodeRow). some (view_node r)) (rows_row 32 96 40 (node_at s) no_node (number_at 8 s 8) few.nodes place no_node (omega arith))

  pub alive-none : count ≤ place → false ≡ is_alive (model.node_at (read_as s).nodes n)
  alive-none h = sym (ap is_alive (node-none h))

  pub alive_some : place < count → (v : ℕ) → v ≡ number_at 4 s (40 + 96 * place + 16) → (b : Bool) → b ≡ flag_of v → b ≡ is_alive (model.node_at (read_as s).nodes n)
  alive_some h v e b f = f ∙ ap flag_of e ∙ sym (ap is_alive (node_some h) ∙ alive-is s (40 + 96 * place))

  pub incarnation_none : count ≤ place → 0 ≡ incarnation_of (model.node_at (read_as s).nodes n)
  incarnation_none h = sym (ap incarnation_of (node-none h))

  pub incarnation_some : place < count → (v : ℕ) → v ≡ number_at 8 s (40 + 96 * place + 8) → v ≡ incarnation_of (model.node_at (read_as s).nodes n)
  incarnation_some h v e = e ∙ sym (ap incarnation_of (node_some h) ∙ incarnation_is s (40 + 96 * place))
