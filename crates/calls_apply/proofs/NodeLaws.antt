-- Register and MarkNodeDead, over the row of the node. Assumes nothing.
use Prim.Native.Nat.{ℕ, ◌+◌, ◌*◌, ◌≤◌, ◌<◌}
use mathlib.Core.Path.{◌≡◌, refl, sym, ap, subst, ◌∙◌}
use mathlib.Core.Bool.{Bool, true, false}
use mathlib.Core.List.{List, []}
use lib.ListN.{length, set, length-set}
use lib.Dec.{leb}
use native.Mathlib.Omega.{arith}
use borrow.Author.Tests.{leb-true, leb-false}
use Rattle.spec.specs.Lists.{put}
use Rattle.spec.specs.Refusals as said
use Rattle.spec.specs.Layout.Format.{number_at}
use Rattle.spec.specs.Layout.Request as request
use Rattle.spec.specs.Map.Tables as tables
use Rattle.spec.specs.Map.Apply as model
use Rattle.spec.specs.Map.Apply.{node_below, dead_answer, commit, set_nodes, update, dead}
use Rattle.spec.specs.Map.Change.{accepts, rejects}
use Rattle.spec.specs.Map.Create.{is_node, node_at}
use Rattle.spec.specs.declared.DataNodeId.{DataNodeId}
use Rattle.spec_laws.proofs.Map.WellFormed.{map-parts, commit-fits}
use Rattle.map_tables.specs.View.{view_command, view_map, view_node, view_nodes}
use Rattle.map_tables.specs.declared.Command.TheVariants.{Register, MarkNodeDead}
use Rattle.map_tables.specs.declared.NodeRow.{NodeRow}
use Rattle.map_tables.specs.declared.Request.{Request}
use Rattle.map_tables.specs.declared.ShardMap.{ShardMap}
use Rattle.image_map_row.specs.Rows as rows
use Rattle.image_map.specs.Image.{no_node, nodes_at, map_at}
use Rattle.image_map_put.specs.Few.{Few}
use Rattle.image_map_put.specs.Rows.{read_as}
use Rattle.image_map_put.proofs.Whole.{read_as_lem, nodes_long}
use Rattle.image_map_edit.specs.Becomes.{NodesBecome}
use Rattle.image_map_edit.proofs.Frames.{edits_nodes}
use Rattle.calls_decide.specs.Decides.{Fresh, NodeStands}
use Rattle.calls_decide.proofs.Places.{node-none}
use Rattle.calls_decide.proofs.CommandLaws.{as_command, decided-by}
use Rattle.calls_apply.specs.Settles.{Accepted, Taken}
use Rattle.calls_apply.proofs.ChangedRow.{set_is}

module _ (s : List ℕ) (q : Request) (fr : Fresh s q) (n : DataNodeId) (i : ℕ) where
  abbrev m : ShardMap
  m = map_at s

  abbrev few : Few s
  few = fr.ready.few

  abbrev nodes : List tables.NodeInfo
  nodes = (read_as s).nodes

  -- ---- Register

  module _ (asks : q.command ≡ Register n i) where
    abbrev new : NodeRow
    new = record { node = n; address = q.address; incarnation = i; alive = true }

    module _ (ok : Accepted s q) where
      pub register_room : length (put node_below (view_node new) nodes) ≤ 32
      unfolding commit
      register_room =
          subst (λ (x : tables.Map). length (put node_below (view_node new) x.nodes) ≤ 32) (read_as_lem s few)
          (subst (λ (c : request.Command). length (commit (view_map m) c).nodes ≤ 32) (as_command q (Register n i) asks [])
          (commit-fits (view_map m) (map-parts (view_map m) fr.ready.settleable.formed) (view_command q []) fr.ready.settleable.within (ok [])).0.0)

      pub register_taken : (t : List ℕ) → NodesBecome s t (put node_below (view_node new) nodes) → Taken s t q
      unfolding commit
      register_taken t b = record {
        map = set_nodes (read_as s) (put node_below (view_node new) nodes);
        edits = edits_nodes s t few (put node_below (view_node new) nodes) register_room b;
        is = λ bs. sym (ap (commit (read_as s)) (as_command q (Register n i) asks bs));
      }

  -- ---- MarkNodeDead

  module _ (asks : q.command ≡ MarkNodeDead n i) (ok : Accepted s q) (count hit : ℕ) (z : NodeStands s count hit n.0) where
    dead-accepts : dead_answer n.0 i (node_at (view_nodes (nodes_at s)) n.0) ≡ accepts
    unfolding map_at model.decide
    dead-accepts = sym (decided-by s q (MarkNodeDead n i) asks []) ∙ ok []

    pub dead_inside : hit < number_at 8 s 8
    unfolding dead_answer
    dead_inside = go (leb count hit) refl
      where
        go : (b : Bool) → leb count hit ≡ b → hit < number_at 8 s 8
        go false f = let l = leb-false count hit f in let e = z.count in omega arith
        go true f =
            let none = node-none s count hit n.0 z (leb-true count hit f) in
            let w : rejects (said.not_at_incarnation n.0 i) ≡ accepts = rw none at dead-accepts in
            let y : ◌≡◌ {A = ℕ} 0 1 = cc in absurd (omega arith)

    module _ (row : NodeRow) (is : view_node row ≡ dead (view_node (rows.node_at s (40 + 96 * hit)))) where
      abbrev marked : List tables.NodeInfo
      marked = set nodes hit (view_node row)

      marked-is : marked ≡ update (is_node n.0) dead nodes
      marked-is = set_is (number_at 8 s 8) (rows.node_at s) 96 40 no_node 32 few.nodes view_node (is_node n.0) hit z.found dead_inside dead (view_node row) is

      pub dead-taken : (t : List ℕ) → NodesBecome s t marked → Taken s t q
      unfolding commit
      dead-taken t b = record {
        map = set_nodes (read_as s) marked;
        edits = edits_nodes s t few marked (let k = length-set nodes hit (view_node row) in let l = nodes_long s few in let f = few.nodes in omega arith) b;
        is = λ bs. ap (set_nodes (read_as s)) marked-is ∙ sym (ap (commit (read_as s)) (as_command q (MarkNodeDead n i) asks bs));
      }
