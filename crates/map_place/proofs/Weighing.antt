-- Laws of counting the replicas of a shard, and how many a node can have. Assumes nothing.
use mathlib.Core.Path.{◌≡◌, refl, ◌∙◌}
use mathlib.Core.Bool.{Bool, true, false, cond, not}
use mathlib.Core.List.{List, [], ◌∷◌}
use mathlib.Core.Option.{Option, none, some}
use Prim.Native.Nat.{ℕ, zero, suc, ◌+◌, ◌≤◌, ◌<◌}
use native.Mathlib.Numerals.{add-one}
use native.Mathlib.Omega.{arith}
use lib.ListN.{length, take, drop, get_or, drop_of_length-le}
use lib.Seq.{drop-cons, get_or-take, length-take-le}
use lib.Dec.{leb}
use borrow.Author.Tests.{le-leb, leb-true}
use Rattle.spec.specs.Lists.{every, filter}
use Rattle.spec.specs.Map.Change.{is_on}
use Rattle.spec.specs.Map.Apply.{update}
use Rattle.spec.specs.Map.Place.{Load, on_node, is_load, is_listed, raised, Round, chosen_of, choose_node, choose_nodes, lightest}
use Rattle.spec.specs.declared.Replica.{Replica}
use Rattle.spec_laws.proofs.Lists.{by-test}
use Rattle.spec_laws.proofs.Map.Rows.{every_tail, every_cons, every_to}
use Rattle.map_place.specs.Read.{Light}

-- ---- the replicas of one shard

module _ (k : ℕ) where
  one_more : (r : Replica) (rs : List Replica) → on_node k (r ∷ rs) ≡ cond (is_on k r) (suc (on_node k rs)) (on_node k rs)
  unfolding on_node filter
  one_more r rs = go (is_on k r)
    where
      go : (b : Bool) → length (cond b (r ∷ filter (is_on k) rs) (filter (is_on k) rs)) ≡ cond b (suc (length (filter (is_on k) rs))) (length (filter (is_on k) rs))
      go true = refl
      go false = refl

  module _ (xs : List Replica) (n : ℕ) (le : n ≤ length xs) (t m i : ℕ) (inv : t ≡ m + on_node k (drop i (take n xs))) where
    open_on : (d : Replica) → i < n
        → on_node k (drop i (take n xs)) ≡ cond (is_on k (get_or xs i d)) (suc (on_node k (drop (i + 1) (take n xs)))) (on_node k (drop (i + 1) (take n xs)))
    open_on d h =
        rw (drop-cons (take n xs) i d (rw (length-take-le n xs le) h), get_or-take n xs i d h, add-one) (one_more (get_or xs i d) (drop (suc i) (take n xs)))

    pub count-on : (d : Replica) → i < n → is_on k (get_or xs i d) ≡ true → t ≡ (m + 1) + on_node k (drop (i + 1) (take n xs))
    count-on d h e =
        let q : on_node k (drop i (take n xs)) ≡ suc (on_node k (drop (i + 1) (take n xs))) = open_on d h ∙ rw e in
        omega arith

    pub count_past : (d : Replica) → i < n → is_on k (get_or xs i d) ≡ false → t ≡ m + on_node k (drop (i + 1) (take n xs))
    count_past d h e =
        let q : on_node k (drop i (take n xs)) ≡ on_node k (drop (i + 1) (take n xs)) = open_on d h ∙ rw e in
        omega arith

    pub count-end : n ≤ i → m ≡ t
    unfolding on_node filter
    count-end h =
        let q : on_node k (drop i (take n xs)) ≡ 0 = rw (drop_of_length-le (take n xs) {i = i} (rw (length-take-le n xs le) h)) in
        omega arith

-- ---- how many there can be

pub light_to : (k j : ℕ) (l : List Load) → k ≤ j → Light k l → Light j l
light_to k j l h =
    every_to (λ (x : Load). leb x.count k) (λ (x : Load). leb x.count j)
    (λ x e. le-leb x.count j (omega (arith, leb-true x.count k e))) l

light_raised : (k n : ℕ) (l : List Load) → Light k l → Light (k + 1) (update (is_load n) raised l)
unfolding update every
light_raised k n [] e = refl
light_raised k n (y ∷ ys) e =
    let t = every_tail (λ (x : Load). leb x.count k) y ys e in
    by-test (λ (v : List Load). Light (k + 1) v) (is_load n y)
    (λ q. every_cons (λ (x : Load). leb x.count (k + 1)) (raised y) ys
    (le-leb (y.count + 1) (k + 1) (omega (arith, leb-true y.count k t.0))) (light_to k (k + 1) ys (omega arith) t.1))
    (λ q. every_cons (λ (x : Load). leb x.count (k + 1)) y (update (is_load n) raised ys)
    (le-leb y.count (k + 1) (omega (arith, leb-true y.count k t.0))) (light_raised k n ys t.1))

-- one node chosen more
pub light_choose : (k : ℕ) (r : Round) → Light k r.loads → Light (k + 1) (choose_node r).loads
unfolding choose_node chosen_of
light_choose k r h = go (lightest (filter (λ l. not (is_listed r.nodes l)) r.loads))
  where
    go : (o : Option Load) → Light (k + 1) (chosen_of r o).loads
    go none = light_to k (k + 1) r.loads (omega arith) h
    go (some l) = light_raised k l.node r.loads h

pub light_chooses : (n k : ℕ) (r : Round) → Light k r.loads → Light (k + n) (choose_nodes n r).loads
unfolding choose_nodes
light_chooses zero k r h = light_to k (k + 0) r.loads (omega arith) h
light_chooses (suc n) k r h =
    light_to (k + 1 + n) (k + suc n) (choose_nodes n (choose_node r)).loads (omega arith) (light_chooses n (k + 1) (choose_node r) (light_choose k r h))
