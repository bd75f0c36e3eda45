-- Paper 01, 'Place' (state.rs, place): a placement has a list for each shard, each list as many different live nodes as the replication, and
-- each of them is the lightest that its list lacks, ties broken by the lowest id. There is none only where the live nodes are too few.
-- Assumes nothing.
use Prim.Native.Nat.{ℕ, zero, suc, ◌+◌, ◌<◌, ◌≤◌}
use native.Mathlib.Omega.{arith}
use mathlib.Core.Path.{◌≡◌, refl, sym, ap, ◌∙◌, subst}
use mathlib.Core.Bool.{Bool, true, false, cond, not}
use mathlib.Core.Logic.{inl, inr}
use mathlib.Core.List.{List, [], ◌∷◌, ◌++◌, append_assoc, append-nil}
use mathlib.Core.Option.{Option, none, some}
use lib.ListN.{length, length-append}
use lib.Dec.{eqb, ltb}
use borrow.Author.Tests.{lt-ltb, ltb-true, ltb-false, eqb-true, eq-eqb, ne_eqb, not-true}
use Rattle.spec.specs.Lists.{◌or◌, any, filter, rising, nth}
use Rattle.spec.specs.Limits.{max_lists, max_listed}
use Rattle.spec.specs.Refusals.{no_room}
use Rattle.spec.specs.Map.Tables.{NodeInfo, Map, Spec}
use Rattle.spec.specs.Map.Create.{Placement}
use Rattle.spec.specs.Map.Apply.{node_below, update}
use Rattle.spec.specs.Map.Place.{Load, lightest, Round, is_load, is_listed, raised, chosen_of, choose_node, choose_nodes, place_shards, replicas_of, loads_of, nowhere, placed_on, not_placed, place_on, place}
use Rattle.spec.specs.Map.Lightest.{is_live, times, load_with, NotAfter, Lightest, not_in, Choices, Lists, WellPlaced, Different}
use Rattle.spec.specs.Map.WellFormed.{well_formed_map}
use Rattle.spec_laws.proofs.Lists.{by-test, not_both, none_some, some_same}
use Rattle.spec_laws.proofs.Rising.{rising_tail}
use Rattle.spec_laws.proofs.Map.Orders.{nodes_by_id}
use Rattle.spec_laws.proofs.Map.Sets.{any-filter, any_append, shorter}
use Rattle.spec_laws.proofs.Map.WellFormed.{map-parts}
use Rattle.spec_laws.proofs.Map.Lightest.{Has, has-filter, filter-has, above, has-live, loaded, loads_on, OfNode, on-has, has_on, is-lightest, nobody_may, same-on, raise_on, length-on}

-- ---- how often a node was chosen

times-append : (n : ℕ) (a b : List ℕ) → times n (a ++ b) ≡ times n a + times n b
unfolding times
times-append n [] b = omega arith
times-append n (k ∷ ks) b = omega (arith, times-append n ks b)

module _ (m : Map) where
  -- one more of its own
  once_more : (chosen list : List ℕ) (x : ℕ) → load_with m (chosen ++ (list ++ (x ∷ []))) x ≡ load_with m (chosen ++ list) x + 1
  unfolding times
  once_more chosen list x =
      let c : ◌≡◌ {A = ℕ} (cond (eqb x x) 1 0) 1 = rw (eq-eqb x x refl) in
      omega (
        arith,
        times-append x chosen (list ++ (x ∷ [])),
        times-append x list (x ∷ []),
        times-append x chosen list,
        c,
      )

  -- and none of the others
  no_more : (chosen list : List ℕ) (x k : ℕ) → (k ≡ x → ⊥) → load_with m (chosen ++ (list ++ (x ∷ []))) k ≡ load_with m (chosen ++ list) k
  unfolding times
  no_more chosen list x k ne =
      let c : ◌≡◌ {A = ℕ} (cond (eqb x k) 1 0) 0 = rw (ne_eqb x k (λ e. ne (sym e))) in
      omega (
        arith,
        times-append k chosen (list ++ (x ∷ [])),
        times-append k list (x ∷ []),
        times-append k chosen list,
        c,
      )

-- ---- a list takes no more than the live nodes

-- live nodes that all stand in a list are no more than its nodes
few_listed : (ns : List NodeInfo) → rising node_below ns ≡ true → (list : List ℕ)
    → ((i : NodeInfo) → Has i ns → i.alive ≡ true → any (eqb i.node) list ≡ true) → length (filter (λ (i : NodeInfo). i.alive) ns) ≤ length list
unfolding filter
few_listed [] h list all = omega arith
few_listed (i ∷ is) h list all =
    go i.alive refl
    (few_listed is (rising_tail node_below nodes_by_id i is h) list (λ j t a. all j (inr t) a))
    (few_listed is (rising_tail node_below nodes_by_id i is h) (filter (λ k. not (eqb i.node k)) list)
    (λ j t a. any-filter (λ k. not (eqb i.node k)) (eqb j.node) list
    (λ k e. rw (ne_eqb i.node k (λ q. omega (arith, above i is h j t, q, eqb-true j.node k e))))
    ∙ all j (inr t) a))
  where
    go : (b : Bool) → i.alive ≡ b → length (filter (λ (i : NodeInfo). i.alive) is) ≤ length list
        → length (filter (λ (i : NodeInfo). i.alive) is) ≤ length (filter (λ k. not (eqb i.node k)) list)
        → length (cond b (i ∷ filter (λ (i : NodeInfo). i.alive) is) (filter (λ (i : NodeInfo). i.alive) is)) ≤ length list
    go true e more less = omega (arith, shorter (eqb i.node) list (all i (inl refl) e))
    go false e more less = more

-- ---- the choices of place

module _ (m : Map) (formed : rising node_below m.nodes ≡ true) where
  -- the loads of the live nodes, where those were chosen
  abbrev loads_after : List ℕ → List Load
  loads_after chosen = loads_on (λ i. i.alive) (load_with m chosen) m.nodes

  -- the nodes of a shard so far, after the shards before it
  abbrev round : (chosen list : List ℕ) → Round
  round chosen list = record { loads = loads_after (chosen ++ list); nodes = list }

  -- the loads among which the next is chosen
  abbrev open' : (chosen list : List ℕ) → List Load
  open' chosen list = filter (λ l. not (is_listed list l)) (loads_after (chosen ++ list))

  into : (chosen list : List ℕ) (i : NodeInfo) → Has i m.nodes → i.alive ≡ true → not_in list i.node ≡ true
      → Has (loaded (load_with m (chosen ++ list)) i) (open' chosen list)
  into chosen list i h a u =
      has-filter (λ l. not (is_listed list l)) (loaded (load_with m (chosen ++ list)) i) (loads_after (chosen ++ list)) u
      (on-has (λ i. i.alive) (load_with m (chosen ++ list)) m.nodes i h a)

  from : (chosen list : List ℕ) (v : Load) → Has v (open' chosen list)
      → (i : NodeInfo) × (Has i m.nodes) × (i.alive ≡ true) × (not_in list i.node ≡ true) × (v ≡ loaded (load_with m (chosen ++ list)) i)
  from chosen list v h =
      let r = filter-has (λ l. not (is_listed list l)) v (loads_after (chosen ++ list)) h in
      let s : OfNode (λ i. i.alive) (load_with m (chosen ++ list)) m.nodes v = has_on (λ i. i.alive) (load_with m (chosen ++ list)) m.nodes v r.0 in
      (s.0, s.1, s.2, subst (λ (u : Load). not (is_listed list u) ≡ true) s.3 r.1, s.3)

  raised_as : (chosen list : List ℕ) (n : ℕ)
      → ◌≡◌ {A = Round} (record { loads = update (is_load n) raised (loads_after (chosen ++ list)); nodes = list ++ (n ∷ []) }) (round chosen (list ++ (n ∷ [])))
  raised_as chosen list n =
      ap (λ (l : List Load). record { loads = l; nodes = list ++ (n ∷ []) })
      (raise_on (λ i. i.alive) (load_with m (chosen ++ list)) (load_with m (chosen ++ (list ++ (n ∷ [])))) n (once_more m chosen list n)
      (no_more m chosen list n) m.nodes formed)

  -- one node more, the lightest
  one_more : (chosen list : List ℕ) → length list < length (filter (λ (i : NodeInfo). i.alive) m.nodes)
      → (n : ℕ) × (choose_node (round chosen list) ≡ round chosen (list ++ (n ∷ [])))
      × Lightest m (load_with m (chosen ++ list)) (not_in list) n
  unfolding choose_node chosen_of
  one_more chosen list room = go (lightest (open' chosen list)) refl
    where
      all_listed : lightest (open' chosen list) ≡ none → (i : NodeInfo) → Has i m.nodes → i.alive ≡ true
          → (b : Bool) → any (eqb i.node) list ≡ b → any (eqb i.node) list ≡ true
      all_listed e i h a true q = q
      all_listed e i h a false q =
          absurd
          (nobody_may m formed (load_with m (chosen ++ list)) (not_in list) (open' chosen list) (into chosen list) (from chosen list) e
          i.node (has-live m formed i h a) (rw q))

      go : (o : Option Load) → lightest (open' chosen list) ≡ o
          → (n : ℕ) × (chosen_of (round chosen list) o ≡ round chosen (list ++ (n ∷ []))) × Lightest m (load_with m (chosen ++ list)) (not_in list) n
      go none e =
          absurd (omega (arith, few_listed m.nodes formed list (λ i h a. all_listed e i h a (any (eqb i.node) list) refl)))
      go (some x) e = (
        x.node,
        raised_as chosen list x.node,
        is-lightest m formed (load_with m (chosen ++ list)) (not_in list) (open' chosen list) (into chosen list) (from chosen list) x e,
      )

  -- what is chosen for a shard, and what it has then
  pub record Chosen (chosen list : List ℕ) (n : ℕ) : Type 0 where
    pub rest : List ℕ
    pub then : choose_nodes n (round chosen list) ≡ round chosen (list ++ rest)
    pub many : length rest ≡ n
    pub each : Choices m chosen list rest

  choices : (n : ℕ) (chosen list : List ℕ) → length list + n ≤ length (filter (λ (i : NodeInfo). i.alive) m.nodes) → Chosen chosen list n
  unfolding choose_nodes
  choices zero chosen list room = record { rest = []; then = rw (append-nil list); many = refl; each = tt }
  choices (suc n) chosen list room =
      let one = one_more chosen list (omega arith) in
      let more = choices n chosen (list ++ (one.0 ∷ [])) (omega (arith, length-append list (one.0 ∷ []))) in
      record {
        rest = one.0 ∷ more.rest;
        then = ap (choose_nodes n) one.1 ∙ more.then ∙ ap (round chosen) (append_assoc list (one.0 ∷ []) more.rest);
        many = ap suc more.many;
        each = (one.2, more.each);
      }

  lists : (s n : ℕ) (chosen : List ℕ) → n ≤ length (filter (λ (i : NodeInfo). i.alive) m.nodes)
      → (length (place_shards s n (loads_after chosen)) ≡ s) × Lists m n chosen (place_shards s n (loads_after chosen))
  unfolding place_shards
  lists zero n chosen room = (refl, tt)
  lists (suc s) n chosen room =
      let c = choices n chosen [] (omega arith) in
      let more = lists s n (chosen ++ c.rest) room in
      let start : choose_nodes n (record { loads = loads_after chosen; nodes = [] }) ≡ round chosen c.rest =
      ap (λ (l : List ℕ). choose_nodes n (record { loads = loads_after l; nodes = [] })) (sym (append-nil chosen)) ∙ c.then in
      rw start (ap suc more.0, (c.many, c.each, more.1))

-- nothing chosen yet
no_choices : (m : Map) → loads_of (λ i. i.alive) m ≡ loads_on (λ i. i.alive) (load_with m []) m.nodes
unfolding loads_of times
no_choices m = same-on (λ i. i.alive) (λ n. replicas_of n m.shards) (load_with m []) m.nodes (λ i t. omega arith)

-- 'Place': what it answers is as it has to be
pub placed-well : (m : Map) (spec : Spec) (p : Placement) → well_formed_map m ≡ true → place m spec ≡ placed_on p → WellPlaced m spec p
unfolding place place_on loads_of
placed-well m spec p h e =
    go (ltb (length (loads_of (λ i. i.alive) m)) spec.replication) (ltb max_lists spec.shards or ltb max_listed spec.replication) refl e
  where
    formed : rising node_below m.nodes ≡ true
    formed = (map-parts m h).0.1

    go : (a b : Bool) → ltb (length (loads_of (λ i. i.alive) m)) spec.replication ≡ a
        → cond a nowhere (cond b (not_placed no_room) (placed_on (place_shards spec.shards spec.replication (loads_of (λ i. i.alive) m)))) ≡ placed_on p
        → WellPlaced m spec p
    go true b few e = absurd (let z : ◌≡◌ {A = ℕ} 0 1 = cc in omega arith)
    go false true few e = absurd (let z : ◌≡◌ {A = ℕ} 0 1 = cc in omega arith)
    go false false few e =
        let loads : loads_of (λ i. i.alive) m ≡ loads_after m formed [] = no_choices m in
        let r = lists m formed spec.shards spec.replication []
        (omega (arith, ltb-false (length (loads_of (λ i. i.alive) m)) spec.replication few, length-on (λ (i : NodeInfo). i.alive) (λ n. replicas_of n m.shards) m.nodes)) in
        let w : place_shards spec.shards spec.replication (loads_of (λ i. i.alive) m) ≡ p = cc in
        let q : place_shards spec.shards spec.replication (loads_after m formed []) ≡ p = ap (place_shards spec.shards spec.replication) (sym loads) ∙ w in
        record { shards = rw (← q) r.0; lists = rw (← q) r.1 }

-- 'none if fewer live nodes than replication'
pub nowhere-few : (m : Map) (spec : Spec) → place m spec ≡ nowhere → length (filter (λ (i : NodeInfo). i.alive) m.nodes) < spec.replication
unfolding place place_on loads_of
nowhere-few m spec = go (ltb (length (loads_of (λ i. i.alive) m)) spec.replication) (ltb max_lists spec.shards or ltb max_listed spec.replication) refl
  where
    go : (a b : Bool) → ltb (length (loads_of (λ i. i.alive) m)) spec.replication ≡ a
        → cond a nowhere (cond b (not_placed no_room) (placed_on (place_shards spec.shards spec.replication (loads_of (λ i. i.alive) m)))) ≡ nowhere
        → length (filter (λ (i : NodeInfo). i.alive) m.nodes) < spec.replication
    go true b few e =
        omega (arith, ltb-true (length (loads_of (λ i. i.alive) m)) spec.replication few, length-on (λ (i : NodeInfo). i.alive) (λ n. replicas_of n m.shards) m.nodes)
    go false true few e = absurd (let z : ◌≡◌ {A = ℕ} 0 1 = cc in omega arith)
    go false false few e = absurd (let z : ◌≡◌ {A = ℕ} 0 1 = cc in omega arith)

pub few-nowhere : (m : Map) (spec : Spec) → length (filter (λ (i : NodeInfo). i.alive) m.nodes) < spec.replication → place m spec ≡ nowhere
unfolding place place_on loads_of
few-nowhere m spec h =
    rw (lt-ltb (length (loads_of (λ i. i.alive) m)) spec.replication
    (omega (arith, length-on (λ (i : NodeInfo). i.alive) (λ n. replicas_of n m.shards) m.nodes)))

-- ---- what follows for one list

last : (list : List ℕ) (k n : ℕ) → k ≡ n → any (eqb n) (list ++ (k ∷ [])) ≡ true
unfolding any
last [] k n q = rw (eq-eqb n k (sym q))
last (x ∷ xs) k n q = by-test (λ b. b ≡ true) (eqb n x) (λ e. refl) (λ e. last xs k n q)

module _ (m : Map) (chosen : List ℕ) where
  -- every node of it is alive
  pub live-nodes : (list rest : List ℕ) → Choices m chosen list rest → (i n : ℕ) → nth rest i ≡ some n → is_live m n ≡ true
  unfolding nth
  live-nodes list [] c i n e = none_some e
  live-nodes list (k ∷ ks) c zero n e = rw (← some_same e) c.0.live
  live-nodes list (k ∷ ks) c (suc i) n e = live-nodes (list ++ (k ∷ [])) ks c.1 i n e

  -- a later node is none of those before it
  later : (list rest : List ℕ) → Choices m chosen list rest → (i n : ℕ) → nth rest i ≡ some n → any (eqb n) list ≡ true → ⊥
  unfolding nth
  later list [] c i n e h = none_some e
  later list (k ∷ ks) c zero n e h =
      not_both (any (eqb k) list) (rw (some_same e) h) (not-true (any (eqb k) list) c.0.free)
  later list (k ∷ ks) c (suc i) n e h = later (list ++ (k ∷ [])) ks c.1 i n e (any_append (eqb n) list (k ∷ []) h)

  -- so none stands in it twice
  pub differ : (list rest : List ℕ) → Choices m chosen list rest → Different rest
  unfolding nth
  differ list [] c i j n p q = none_some p
  differ list (k ∷ ks) c zero zero n p q = refl
  differ list (k ∷ ks) c zero (suc j) n p q = absurd (later (list ++ (k ∷ [])) ks c.1 j n q (last list k n (some_same p)))
  differ list (k ∷ ks) c (suc i) zero n p q = absurd (later (list ++ (k ∷ [])) ks c.1 i n p (last list k n (some_same q)))
  differ list (k ∷ ks) c (suc i) (suc j) n p q = ap suc (differ (list ++ (k ∷ [])) ks c.1 i j n p q)

-- ---- no other placement is as it has to be

only-lightest : (m : Map) (load : ℕ → ℕ) (may : ℕ → Bool) (n k : ℕ) → Lightest m load may n → Lightest m load may k → n ≡ k
only-lightest m load may n k a b = go (a.least k b.live b.free) (b.least n a.live a.free)
  where
    go : NotAfter load n k → NotAfter load k n → n ≡ k
    go (inl p) (inl q) = omega arith
    go (inl p) (inr q) = omega arith
    go (inr p) (inl q) = omega arith
    go (inr p) (inr q) = omega arith

only_choices : (m : Map) (chosen list r s : List ℕ) → length r ≡ length s → Choices m chosen list r → Choices m chosen list s → r ≡ s
only_choices m chosen list [] [] e c d = refl
only_choices m chosen list [] (k ∷ ks) e c d = absurd (omega arith)
only_choices m chosen list (n ∷ ns) [] e c d = absurd (omega arith)
only_choices m chosen list (n ∷ ns) (k ∷ ks) e c d =
    let q : n ≡ k = only-lightest m (load_with m (chosen ++ list)) (not_in list) n k c.0 d.0 in
    let more : ns ≡ ks =
    only_choices m chosen (list ++ (n ∷ [])) ns ks (omega arith) c.1
    (subst (λ (j : ℕ). Choices m chosen (list ++ (j ∷ [])) ks) (sym q) d.1) in
    cc

only_lists : (m : Map) (n : ℕ) (chosen : List ℕ) (p q : Placement) → length p ≡ length q → Lists m n chosen p → Lists m n chosen q → p ≡ q
only_lists m n chosen [] [] e a b = refl
only_lists m n chosen [] (k ∷ ks) e a b = absurd (omega arith)
only_lists m n chosen (l ∷ ls) [] e a b = absurd (omega arith)
only_lists m n chosen (l ∷ ls) (k ∷ ks) e a b =
    let q : l ≡ k = only_choices m chosen [] l k (a.0 ∙ sym b.0) a.1 b.1 in
    let more : ls ≡ ks =
    only_lists m n (chosen ++ l) ls ks (omega arith) a.2 (subst (λ (j : List ℕ). Lists m n (chosen ++ j) ks) (sym q) b.2) in
    cc

pub only_placement : (m : Map) (spec : Spec) (p q : Placement) → WellPlaced m spec p → WellPlaced m spec q → p ≡ q
only_placement m spec p q a b = only_lists m spec.replication [] p q (a.shards ∙ sym b.shards) a.lists b.lists
