-- How an engine is read after a call gave back a map, a header or a store, and after the host's own deeds. Assumes nothing.
use Prim.Native.Nat.{ℕ}
use mathlib.Core.Path.{◌≡◌, refl, sym, ap, fun_ext, ◌∙◌}
use mathlib.Core.Bool.{true}
use lib.Dec.{eqb}
use borrow.Author.Tests.{eqb-true, eq-eqb}
use Rattle.spec.specs.Node.Held as held
use Rattle.spec_run.specs.State.{State, at, set_map, set_node}
use Rattle.map_tables.specs.View.{view_map}
use Rattle.map_tables.specs.declared.ShardMap.{ShardMap}
use Rattle.node_header.specs.declared.Node.{Node}
use Rattle.node_header.specs.View.{view_node}
use Rattle.node_header.proofs.Lists.{by_case}
use Rattle.node_lent.specs.Lend.{LentStore, Lends, Changes}
use Rattle.thm_durable.specs.Engine.{Engine, stores_of, seen, with_map, with_node, with_store, host}

-- ---- one place of a family changed

at_each : {A B C : Type 0} (g : ℕ → A → B → C) (f : ℕ → A) (h : ℕ → B) (n : ℕ) (x : A) (y : B) (m : ℕ)
    → g m (at f n x m) (at h n y m) ≡ at (λ i. g i (f i) (h i)) n (g n x y) m
unfolding at
at_each g f h n x y m = by_case (eqb m n) (λ e. rw e (ap (λ (i : ℕ). g i x y) (eqb-true m n e))) (λ e. rw e)

at_same : {A : Type 0} (f : ℕ → A) (n m : ℕ) → at f n (f n) m ≡ f m
unfolding at
at_same f n m = by_case (eqb m n) (λ e. rw e (ap f (sym (eqb-true m n e)))) (λ e. rw e)

at_own : {A : Type 0} (f : ℕ → A) (n : ℕ) (x : A) → at f n x n ≡ x
unfolding at
at_own f n x = rw (eq-eqb n n refl)

-- ---- what a call gives back

-- the lent columns are back in their slot
pub put_back : (e : Engine) (n : ℕ) (x : Node) (slot : ℕ) (b : LentStore) → (with_store e n x slot b).lent_stores n slot ≡ b
unfolding with_store
put_back e n x slot b = ap (λ (l : ℕ → LentStore). l slot) (at_own e.lent_stores n (at (e.lent_stores n) slot b)) ∙ at_own (e.lent_stores n) slot b

pub seen-map : (e : Engine) (m : ShardMap) → seen (with_map e m) ≡ set_map (seen e) (view_map m)
unfolding seen with_map set_map
seen-map e m = refl

-- a state with other nodes
abbrev pub nodes_as : State → (ℕ → held.Node) → State
nodes_as s f = record {
  map = s.map;
  nodes = f;
  clients = s.clients;
  requests = s.requests;
  replies = s.replies;
  offers = s.offers;
  outcomes = s.outcomes;
  accepted = s.accepted;
  acknowledged = s.acknowledged;
}

pub seen-store : (e : Engine) (n : ℕ) (x : Node) (slot : ℕ) (b : LentStore)
    → seen (with_store e n x slot b) ≡ set_node (seen e) n (view_node (stores_of (at (e.lent_stores n) slot b)) x)
unfolding seen with_store set_node
seen-store e n x slot b =
    ap (nodes_as (seen e)) (fun_ext (λ m. at_each (λ i l y. view_node (stores_of l) y) e.lent_stores e.nodes n (at (e.lent_stores n) slot b) x m))

pub seen-node : (e : Engine) (n : ℕ) (x : Node) → seen (with_node e n x) ≡ set_node (seen e) n (view_node (stores_of (e.lent_stores n)) x)
unfolding seen with_node set_node
seen-node e n x =
    ap (nodes_as (seen e))
    (fun_ext (λ m.
    ap (λ (l : ℕ → LentStore). view_node (stores_of l) (at e.nodes n x m)) (sym (at_same e.lent_stores n m))
    ∙ at_each (λ i l y. view_node (stores_of l) y) e.lent_stores e.nodes n (e.lent_stores n) x m))

-- nothing given back
pub same-node : (s : State) (n : ℕ) → set_node s n (s.nodes n) ≡ s
unfolding set_node
same-node s n = ap (nodes_as s) (fun_ext (at_same s.nodes n))

-- ---- the stores of a node as the contracts speak of them

pub stores_lend : (l : ℕ → LentStore) (slot : ℕ) → Lends (stores_of l) slot (l slot)
unfolding stores_of
stores_lend l slot = record { log = λ last. refl; vectors = λ last stored. refl }

pub stores-change : (l : ℕ → LentStore) (slot : ℕ) (b : LentStore) → Changes (stores_of l) (stores_of (at l slot b)) slot (l slot) b
unfolding stores_of at
stores-change l slot b =
    let q : eqb slot slot ≡ true = eq-eqb slot slot refl in
    record {
      before = record { log = λ last. refl; vectors = λ last stored. refl };
      after = record { log = λ last. rw q; vectors = λ last stored. rw q };
      log = λ i e last. rw e;
      vectors = λ i e last stored. rw e;
    }

-- ---- the host's deeds

-- a deed that leaves the map, the nodes and the client numbers alone
pub record Beside (s t : State) : Type 0 where
  pub map : t.map ≡ s.map
  pub nodes : t.nodes ≡ s.nodes
  pub clients : t.clients ≡ s.clients

pub hosted : (e : Engine) (deed : State → State) → Beside (seen e) (deed (seen e)) → seen (host e deed) ≡ deed (seen e)
unfolding host seen
hosted e deed b = λ i.
    let s = deed (seen e) in
    record {
      map = sym b.map i;
      nodes = sym b.nodes i;
      clients = sym b.clients i;
      requests = s.requests;
      replies = s.replies;
      offers = s.offers;
      outcomes = s.outcomes;
      accepted = s.accepted;
      acknowledged = s.acknowledged;
    }

-- a header that was given back, and the host's deed after it
pub given-node : (e f : Engine) (n : ℕ) (x : Node) (deed : State → State) → ((s : State) → Beside s (deed s)) → f ≡ host (with_node e n x) deed
    → seen f ≡ deed (set_node (seen e) n (view_node (stores_of (e.lent_stores n)) x))
given-node e f n x deed b q = ap seen q ∙ hosted (with_node e n x) deed (b (seen (with_node e n x))) ∙ ap deed (seen-node e n x)

-- a header and a store that were given back, and the host's deed after it
pub given-store : (e f : Engine) (n : ℕ) (x : Node) (slot : ℕ) (b : LentStore) (deed : State → State) → ((s : State) → Beside s (deed s))
    → f ≡ host (with_store e n x slot b) deed → seen f ≡ deed (set_node (seen e) n (view_node (stores_of (at (e.lent_stores n) slot b)) x))
given-store e f n x slot b deed d q =
    ap seen q ∙ hosted (with_store e n x slot b) deed (d (seen (with_store e n x slot b))) ∙ ap deed (seen-store e n x slot b)
