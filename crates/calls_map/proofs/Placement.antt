-- A placement has as many lists as shards are asked for, each of as many nodes as replicas are: the loads rise by node, and a node that is
-- not listed yet is always left. Assumes nothing.
use Prim.Native.Nat.{ℕ, zero, suc, ◌+◌, ◌*◌, ◌≤◌, ◌<◌}
use mathlib.Core.Path.{◌≡◌, refl, sym, ap, subst, ◌∙◌}
use mathlib.Core.Bool.{Bool, true, false, cond, not}
use mathlib.Core.List.{List, [], ◌∷◌, map}
use native.Mathlib.Omega.{arith}
use lib.ListN.{length, length-append, length-map}
use lib.Dec.{eqb, ltb}
use borrow.Author.Tests.{ltb-true, ltb-false, lt-ltb}
use Rattle.spec.specs.Lists.{◌or◌, any, every, filter, collect, rising}
use Rattle.spec.specs.Limits.{max_lists, max_listed}
use Rattle.spec.specs.Refusals.{no_room}
use Rattle.spec.specs.Map.Tables as tables
use Rattle.spec.specs.Map.Tables.{NodeInfo}
use Rattle.spec.specs.Map.Change.{node_id, id_below, holds}
use Rattle.spec.specs.Map.Apply.{update, node_below}
use Rattle.spec.specs.Map.Place.{Load, Round, is_load, is_listed, raised, lightest_from, lightest, chosen_of, choose_node, choose_nodes, replicas_of, place_shards, Placed, nowhere, placed_on, not_placed, place_on}
use Rattle.spec.specs.Layout.Format.{All}
use Rattle.spec.specs.declared.Replica.{Replica}
use Rattle.spec_laws.proofs.Lists.{not_both, and_true, and_left, and_right}
use Rattle.spec_laws.proofs.Map.Rows.{every_tail, every_cons, every_to}
use Rattle.spec_laws.proofs.Map.Sets.{few_in_sync}
use Rattle.spec_laws.proofs.Nearest.Tests.{eqb_comm}
use Rattle.spec_laws.proofs.Map.Orders.{nodes_by_id}
use Rattle.spec_laws.proofs.Map.WellFormed.{map-parts}
use Rattle.spec_laws.proofs.Rising.{rising_tail}
use Rattle.map_tables.specs.View.{view_map, view_spec, view_nodes, view_shards}
use Rattle.map_tables.specs.declared.ShardMap.{ShardMap}
use Rattle.map_tables.specs.declared.Spec.{Spec}
use Rattle.map_check.specs.Lent.{well_formed_lent}
use Rattle.map_check.proofs.Formed.{lent-formed}
use Rattle.map_place.specs.Read.{may_take, free_loads}
use Rattle.map_place.specs.Answers.{place_lent}
use Rattle.map_place.proofs.Collecting.{every_map, map-collect}
use Rattle.map_place.proofs.Answered.{place_24, place-on}
use Rattle.image_parts.proofs.Back.{length-rows}
use Rattle.calls_map.specs.Places.{list_bytes, Laid}
use Rattle.calls_map.proofs.ListLaws.{length_ids}

-- ---- numbers that rise and are all listed are no more than the list

on : ℕ → Replica
on n = record { node = node_id n; incarnation = 0 }

rising-ids : (ks : List ℕ) → rising ltb ks ≡ true → rising id_below (map node_id ks) ≡ true
unfolding rising
rising-ids [] h = refl
rising-ids (x ∷ []) h = refl
rising-ids (x ∷ y ∷ ys) h =
    and_true (ltb x y) (rising id_below (map node_id (y ∷ ys))) (and_left (ltb x y) (rising ltb (y ∷ ys)) h)
    (rising-ids (y ∷ ys) (and_right (ltb x y) (rising ltb (y ∷ ys)) h))

listed_held : (k : ℕ) (ns : List ℕ) → any (eqb k) ns ≡ holds k (map on ns)
unfolding any holds on
listed_held k [] = refl
listed_held k (n ∷ ns) =
    ap (λ (b : Bool). cond b true (any (eqb k) ns)) (eqb_comm k n) ∙ ap (λ (b : Bool). cond (eqb n k) true b) (listed_held k ns)

few : (ks ns : List ℕ) → rising ltb ks ≡ true → every (λ (k : ℕ). any (eqb k) ns) ks ≡ true → length ks ≤ length ns
few ks ns h q =
    let held : every (λ (k : ℕ). holds k (map on ns)) ks ≡ true =
    every_to (λ (k : ℕ). any (eqb k) ns) (λ (k : ℕ). holds k (map on ns)) (λ k e. sym (listed_held k ns) ∙ e) ks q in
    let a = few_in_sync (map node_id ks) (map on ns) (rising-ids ks h) (every_map node_id (λ d. holds d.0 (map on ns)) ks ∙ held) in
    omega (arith, a, length-map ks node_id, length-map ns on)

-- ---- the nodes of loads

abbrev pub nodes_of : List Load → List ℕ
nodes_of l = map (λ (x : Load). x.node) l

length-nodes : (l : List Load) → length (nodes_of l) ≡ length l
length-nodes l = length-map l (λ (x : Load). x.node)

all_listed : (ns : List ℕ) (l : List Load) → filter (λ (x : Load). not (is_listed ns x)) l ≡ [] → every (λ (k : ℕ). any (eqb k) ns) (nodes_of l) ≡ true
unfolding filter every
all_listed ns [] e = refl
all_listed ns (x ∷ l) e = go (is_listed ns x) refl e (all_listed ns l)
  where
    go : (b : Bool) → is_listed ns x ≡ b
        → cond (not b) (x ∷ filter (λ (y : Load). not (is_listed ns y)) l) (filter (λ (y : Load). not (is_listed ns y)) l) ≡ []
        → (filter (λ (y : Load). not (is_listed ns y)) l ≡ [] → every (λ (k : ℕ). any (eqb k) ns) (nodes_of l) ≡ true)
        → every (λ (k : ℕ). any (eqb k) ns) (nodes_of (x ∷ l)) ≡ true
    go true q f more = every_cons (λ (k : ℕ). any (eqb k) ns) x.node (nodes_of l) q (more f)
    go false q f more = let z : suc (length (filter (λ (y : Load). not (is_listed ns y)) l)) ≡ 0 = ap length f in absurd (omega arith)

update-nodes : (k : ℕ) (l : List Load) → nodes_of (update (is_load k) raised l) ≡ nodes_of l
unfolding update
update-nodes k [] = refl
update-nodes k (x ∷ l) = go (is_load k x) (update-nodes k l)
  where
    go : (b : Bool) → nodes_of (update (is_load k) raised l) ≡ nodes_of l
        → nodes_of (cond b (raised x ∷ l) (x ∷ update (is_load k) raised l)) ≡ nodes_of (x ∷ l)
    go true more = refl
    go false more = ap (λ (ns : List ℕ). x.node ∷ ns) more

-- ---- choosing: each step lists one node more

record Chose (n : ℕ) (r q : Round) : Type 0 where
  same : nodes_of q.loads ≡ nodes_of r.loads
  more : length q.nodes ≡ length r.nodes + n

chose_from : (r : Round) (f : List Load) → rising ltb (nodes_of r.loads) ≡ true → length r.nodes < length r.loads
    → filter (λ (x : Load). not (is_listed r.nodes x)) r.loads ≡ f → Chose 1 r (chosen_of r (lightest f))
unfolding chosen_of lightest
chose_from r [] h k e =
    let z = few (nodes_of r.loads) r.nodes h (all_listed r.nodes r.loads e) in
    let m = length-nodes r.loads in
    absurd (omega arith)
chose_from r (x ∷ xs) h k e = record {
  same = update-nodes (lightest_from x xs).node r.loads;
  more = length-append r.nodes ((lightest_from x xs).node ∷ []);
}

chose : (r : Round) → rising ltb (nodes_of r.loads) ≡ true → length r.nodes < length r.loads → Chose 1 r (choose_node r)
unfolding choose_node
chose r h k = chose_from r (filter (λ (x : Load). not (is_listed r.nodes x)) r.loads) h k refl

same_length : (l m : List Load) → nodes_of l ≡ nodes_of m → length l ≡ length m
same_length l m e = sym (length-nodes l) ∙ ap length e ∙ length-nodes m

choose_all : (n : ℕ) (r : Round) → rising ltb (nodes_of r.loads) ≡ true → length r.nodes + n ≤ length r.loads
    → Chose n r (choose_nodes n r)
unfolding choose_nodes
choose_all zero r h k = record { same = refl; more = omega arith }
choose_all (suc n) r h k =
    let c = chose r h (omega arith) in
    let a = c.more in
    let l = same_length (choose_node r).loads r.loads c.same in
    let d = choose_all n (choose_node r) (ap (rising ltb) c.same ∙ h) (omega arith) in
    let b = d.more in
    record { same = d.same ∙ c.same; more = omega arith }

pub lists_even : (s n : ℕ) (l : List Load) → rising ltb (nodes_of l) ≡ true → n ≤ length l
    → (length (place_shards s n l) ≡ s) × All (λ (ns : List ℕ). length ns ≡ n) (place_shards s n l)
unfolding place_shards
lists_even zero n l h k = (refl, tt)
lists_even (suc s) n l h k =
    let r : Round = record { loads = l; nodes = [] } in
    let c = choose_all n r h (omega arith) in
    let e = same_length (choose_nodes n r).loads l c.same in
    let rest = lists_even s n (choose_nodes n r).loads (ap (rising ltb) c.same ∙ h) (omega arith) in
    let a = c.more in
    (ap (λ (k : ℕ). suc k) rest.0, (omega arith, rest.1))

-- ---- the loads of a well-formed map rise by node

all_above : (i : NodeInfo) (is : List NodeInfo) → rising node_below (i ∷ is) ≡ true → every (node_below i) is ≡ true
unfolding rising every
all_above i [] h = refl
all_above i (j ∷ js) h =
    let low = and_left (node_below i j) (rising node_below (j ∷ js)) h in
    let rest = and_right (node_below i j) (rising node_below (j ∷ js)) h in
    every_cons (node_below i) j js low (every_to (node_below j) (node_below i) (higher low) js (all_above j js rest))
  where
    higher : node_below i j ≡ true → (x : NodeInfo) → node_below j x ≡ true → node_below i x ≡ true
    higher low x q = lt-ltb i.node x.node (omega (arith, ltb-true i.node j.node low, ltb-true j.node x.node q))

rising-from : (k : ℕ) (ks : List ℕ) → every (ltb k) ks ≡ true → rising ltb ks ≡ true → rising ltb (k ∷ ks) ≡ true
unfolding rising
rising-from k [] h r = refl
rising-from k (x ∷ ks) h r = and_true (ltb k x) (rising ltb (x ∷ ks)) (every_tail (ltb k) x ks h).0 r

module _ (p : NodeInfo → Bool) where
  abbrev taken : List NodeInfo → List ℕ
  taken is = collect p (λ (i : NodeInfo). i.node) is

  taken_above : (i : NodeInfo) (is : List NodeInfo) → every (node_below i) is ≡ true → every (ltb i.node) (taken is) ≡ true
  unfolding collect every
  taken_above i [] h = refl
  taken_above i (j ∷ js) h =
      let t = every_tail (node_below i) j js h in
      go (p j) t.0 (taken_above i js t.1)
    where
      go : (b : Bool) → node_below i j ≡ true → every (ltb i.node) (taken js) ≡ true
          → every (ltb i.node) (cond b (j.node ∷ taken js) (taken js)) ≡ true
      go true low more = every_cons (ltb i.node) j.node (taken js) low more
      go false low more = more

  taken-rise : (is : List NodeInfo) → rising node_below is ≡ true → rising ltb (taken is) ≡ true
  unfolding collect rising
  taken-rise [] h = refl
  taken-rise (i ∷ is) h = go (p i) (taken_above i is (all_above i is h)) (taken-rise is (rising_tail node_below nodes_by_id i is h))
    where
      go : (b : Bool) → every (ltb i.node) (taken is) ≡ true → rising ltb (taken is) ≡ true
          → rising ltb (cond b (i.node ∷ taken is) (taken is)) ≡ true
      go true low more = rising-from i.node (taken is) low more
      go false low more = more

loads_rise : (m : ShardMap) → well_formed_lent m ≡ true → rising ltb (nodes_of (free_loads [] (view_shards m.shards) (view_nodes m.nodes))) ≡ true
loads_rise m w =
    let load : NodeInfo → Load = λ i. record { node = i.node; count = replicas_of i.node (view_shards m.shards) } in
    ap (rising ltb) (map-collect (may_take []) load (λ (x : Load). x.node) (view_nodes m.nodes))
    ∙ taken-rise (may_take []) (view_nodes m.nodes) (map-parts (view_map m) (lent-formed m w)).0.1

-- ---- what place answers

is_placed : Placed → Bool
is_placed nowhere = false
is_placed (placed_on ls) = true
is_placed (not_placed why) = false

lists_in : Placed → List (List ℕ)
lists_in nowhere = []
lists_in (placed_on ls) = ls
lists_in (not_placed why) = []

even_laid : (s n : ℕ) (ls : List (List ℕ)) → (length ls ≡ s) × All (λ (ns : List ℕ). length ns ≡ n) ls → Laid s n ls
even_laid s n ls e = record {
  lists = e.0;
  nodes = e.1;
  bytes = length-rows (λ (ns : List ℕ). length ns ≡ n) list_bytes (8 * n) (λ ns q. length_ids ns ∙ ap (λ (k : ℕ). 8 * k) q) ls e.1
      ∙ ap (λ (k : ℕ). k * (8 * n)) e.0;
}

laid_on : (sp : tables.Spec) (l : List Load) (ls : List (List ℕ)) → rising ltb (nodes_of l) ≡ true → place_on sp l ≡ placed_on ls
    → Laid sp.shards sp.replication ls
unfolding place_on is_placed lists_in
laid_on sp l ls h e = go (ltb (length l) sp.replication) refl (ltb max_lists sp.shards or ltb max_listed sp.replication) e
  where
    go : (b : Bool) → ltb (length l) sp.replication ≡ b → (d : Bool)
        → cond b nowhere (cond d (not_placed no_room) (placed_on (place_shards sp.shards sp.replication l))) ≡ placed_on ls
        → Laid sp.shards sp.replication ls
    go true q d f = not_both true refl (sym (ap is_placed f))
    go false q true f = not_both true refl (sym (ap is_placed f))
    go false q false f =
        let even = lists_even sp.shards sp.replication l h (ltb-false (length l) sp.replication q) in
        subst (Laid sp.shards sp.replication) (ap lists_in f) (even_laid sp.shards sp.replication _ even)

pub placed-laid : (m : ShardMap) (sp : Spec) (ls : List (List ℕ)) → place_lent m sp ≡ placed_on ls → Laid sp.shards sp.replication ls
unfolding is_placed
placed-laid m sp ls e = go (well_formed_lent m) refl
  where
    go : (b : Bool) → well_formed_lent m ≡ b → Laid sp.shards sp.replication ls
    go true w = laid_on (view_spec sp) _ ls (loads_rise m w) (sym (place-on m sp w) ∙ e)
    go false w = not_both true refl (sym (ap is_placed (sym (place_24 m sp w) ∙ e)))
