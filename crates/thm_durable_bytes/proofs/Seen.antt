-- How a cluster is read after a call left other bytes of the map, a header or a node's stores, and after the host's own deeds. Assumes nothing.
use Prim.Native.Nat.{ℕ}
use mathlib.Core.Path.{◌≡◌, refl, sym, ap, fun_ext, ◌∙◌}
use mathlib.Core.List.{List}
use lib.Dec.{eqb}
use borrow.Author.Tests.{eqb-true}
use Rattle.spec_run.specs.State.{State, at, set_map, set_node}
use Rattle.map_tables.specs.View.{view_map}
use Rattle.node_header.proofs.Lists.{by_case}
use Rattle.image_map.specs.Image.{map_at}
use Rattle.image_node.specs.State.{state_at}
use Rattle.thm_durable.proofs.Seen.{Beside, nodes_as}
use Rattle.thm_durable_bytes.specs.Cluster.{Cluster, seen, with_map, with_header, with_node, host}

-- ---- what a call left

pub seen-map : (d : Cluster) (m : List ℕ) → seen (with_map d m) ≡ set_map (seen d) (view_map (map_at m))
unfolding seen with_map set_map
seen-map d m = refl

pub seen-node : (d : Cluster) (n : ℕ) (h s : List ℕ) → seen (with_node d n h s) ≡ set_node (seen d) n (state_at h s)
unfolding seen with_node set_node at
seen-node d n h s = ap (nodes_as (seen d)) (fun_ext (λ m. by_case (eqb m n) (λ e. rw e) (λ e. rw e)))

pub seen-header : (d : Cluster) (n : ℕ) (h : List ℕ) → seen (with_header d n h) ≡ set_node (seen d) n (state_at h (d.stores n))
unfolding seen with_header set_node at
seen-header d n h =
    ap (nodes_as (seen d))
    (fun_ext (λ m. by_case (eqb m n) (λ e. rw e (ap (λ (i : ℕ). state_at h (d.stores i)) (eqb-true m n e))) (λ e. rw e)))

-- ---- and the host's deed after it

pub hosted : (d : Cluster) (deed : State → State) → Beside (seen d) (deed (seen d)) → seen (host d deed) ≡ deed (seen d)
unfolding host seen
hosted d deed b = λ i.
    let s = deed (seen d) in
    record {
      map = sym b.map i;
      nodes = sym b.nodes i;
      clients = sym b.clients i;
      requests = s.requests;
      replies = s.replies;
      offers = s.offers;
      outcomes = s.outcomes;
      accepted = s.accepted;
      acknowledged = s.acknowledged;
    }

module _ (d f : Cluster) (n : ℕ) (deed : State → State) (b : (s : State) → Beside s (deed s)) where
  pub left-header : (h : List ℕ) → f ≡ host (with_header d n h) deed → seen f ≡ deed (set_node (seen d) n (state_at h (d.stores n)))
  left-header h q = ap seen q ∙ hosted (with_header d n h) deed (b (seen (with_header d n h))) ∙ ap deed (seen-header d n h)

  pub left-node : (h s : List ℕ) → f ≡ host (with_node d n h s) deed → seen f ≡ deed (set_node (seen d) n (state_at h s))
  left-node h s q = ap seen q ∙ hosted (with_node d n h s) deed (b (seen (with_node d n h s))) ∙ ap deed (seen-node d n h s)
