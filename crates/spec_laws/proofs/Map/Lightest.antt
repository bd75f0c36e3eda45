-- The lightest of some loads, and the loads of a map's live nodes: what Placements and Replacements share. Assumes nothing.
use Prim.Native.Nat.{ℕ, suc, ◌+◌, ◌<◌, ◌≤◌}
use native.Mathlib.Omega.{arith}
use mathlib.Core.Path.{◌≡◌, refl, sym, ap, ◌∙◌, subst}
use mathlib.Core.Bool.{Bool, true, false, cond}
use mathlib.Core.Logic.{◌⊎◌, inl, inr}
use mathlib.Core.List.{List, [], ◌∷◌}
use mathlib.Core.Option.{Option, none, some}
use lib.ListN.{length}
use lib.Dec.{eqb, ltb}
use borrow.Author.Tests.{ltb-true, ltb-false, eqb-true, eqb-false, eq-eqb, ne_eqb}
use Rattle.spec.specs.Lists.{◌and◌, ◌or◌, find, filter, collect, rising}
use Rattle.spec.specs.Map.Tables.{NodeInfo, Map}
use Rattle.spec.specs.Map.Create.{is_node, node_at, is_alive}
use Rattle.spec.specs.Map.Apply.{node_below, update}
use Rattle.spec.specs.Map.Place.{Load, lighter, lightest_from, lightest, is_load, raised}
use Rattle.spec.specs.Map.Lightest.{is_live, NotAfter, Lightest}
use Rattle.spec_laws.proofs.Lists.{by-test, not_both, none_some, some_same}
use Rattle.spec_laws.proofs.Rising.{rising-head, rising_tail}
use Rattle.spec_laws.proofs.Map.Orders.{nodes_by_id}

-- ---- an element of a list

abbrev pub Has : {A : Type 0} → A → List A → Type 0
Has x [] = ⊥
Has x (y ∷ ys) = (x ≡ y) ⊎ Has x ys

module _ {A : Type 0} where
  pub has-filter : (p : A → Bool) (x : A) (l : List A) → p x ≡ true → Has x l → Has x (filter p l)
  unfolding filter
  has-filter p x (y ∷ ys) e (inl q) = rw (← q, e) (inl refl)
  has-filter p x (y ∷ ys) e (inr h) =
      by-test (Has x) (p y) (λ t. inr (has-filter p x ys e h)) (λ t. has-filter p x ys e h)
  has-filter p x [] e x3 = elim x3 [ ]

  pub filter-has : (p : A → Bool) (x : A) (l : List A) → Has x (filter p l) → Has x l × (p x ≡ true)
  unfolding filter
  filter-has p x [] = λ h. absurd h
  filter-has p x (y ∷ ys) =
      by-test (λ (v : List A). Has x v → Has x (y ∷ ys) × (p x ≡ true)) (p y)
      (λ t h. kept t (filter-has p x ys) h)
      (λ t h. let r = filter-has p x ys h in (inr r.0, r.1))
    where
      kept : p y ≡ true → (Has x (filter p ys) → Has x ys × (p x ≡ true)) → Has x (y ∷ filter p ys) → Has x (y ∷ ys) × (p x ≡ true)
      kept t more (inl q) = (inl q, ap p q ∙ t)
      kept t more (inr h) = let r = more h in (inr r.0, r.1)

  pub find-has : (p : A → Bool) (l : List A) (x : A) → find p l ≡ some x → Has x l × (p x ≡ true)
  unfolding find
  find-has p [] x = λ e. none_some e
  find-has p (y ∷ ys) x =
      by-test (λ (o : Option A). o ≡ some x → Has x (y ∷ ys) × (p x ≡ true)) (p y)
      (λ t e. (inl (sym (some_same e)), ap p (sym (some_same e)) ∙ t))
      (λ t e. let r = find-has p ys x e in (inr r.0, r.1))

-- ---- the lightest

-- fewer replicas, or as many and no higher id
abbrev pub AtMost : Load → Load → Type 0
AtMost x y = (x.count < y.count) ⊎ ((x.count ≡ y.count) × (x.node ≤ y.node))

at_most_trans : (x y z : Load) → AtMost x y → AtMost y z → AtMost x z
at_most_trans x y z (inl a) (inl b) = inl (omega arith)
at_most_trans x y z (inl a) (inr b) = inl (omega arith)
at_most_trans x y z (inr a) (inl b) = inl (omega arith)
at_most_trans x y z (inr a) (inr b) = inr (omega arith, omega arith)

is-lighter : (y x : Load) → lighter y x ≡ true → AtMost y x
unfolding lighter ◌or◌ ◌and◌
is-lighter y x e = go (ltb y.count x.count) (eqb y.count x.count) (ltb y.node x.node) refl refl refl e
  where
    go : (a b c : Bool) → ltb y.count x.count ≡ a → eqb y.count x.count ≡ b → ltb y.node x.node ≡ c → a or (b and c) ≡ true
        → AtMost y x
    go true b c p q r e = inl (ltb-true y.count x.count p)
    go false true true p q r e = inr (eqb-true y.count x.count q, omega (arith, ltb-true y.node x.node r))
    go false true false p q r e = not_both false e refl
    go false false c p q r e = not_both false e refl

not_lighter : (y x : Load) → lighter y x ≡ false → AtMost x y
unfolding lighter ◌or◌ ◌and◌
not_lighter y x e = go (ltb y.count x.count) (eqb y.count x.count) (ltb y.node x.node) refl refl refl e
  where
    go : (a b c : Bool) → ltb y.count x.count ≡ a → eqb y.count x.count ≡ b → ltb y.node x.node ≡ c → a or (b and c) ≡ false
        → AtMost x y
    go true b c p q r e = not_both true refl e
    go false true true p q r e = not_both true refl e
    go false true false p q r e = inr (sym (eqb-true y.count x.count q), ltb-false y.node x.node r)
    go false false c p q r e = inl (omega (arith, ltb-false y.count x.count p, eqb-false y.count x.count q))

from-has : (x : Load) (l : List Load) → Has (lightest_from x l) (x ∷ l)
unfolding lightest_from
from-has x [] = inl refl
from-has x (y ∷ ys) =
    by-test (λ (w : Load). Has (lightest_from w ys) (x ∷ y ∷ ys)) (lighter y x) (λ e. inr (from-has y ys)) (λ e. over (from-has x ys))
  where
    over : Has (lightest_from x ys) (x ∷ ys) → Has (lightest_from x ys) (x ∷ y ∷ ys)
    over (inl q) = inl q
    over (inr h) = inr (inr h)

from_least : (x : Load) (l : List Load) (v : Load) → Has v (x ∷ l) → AtMost (lightest_from x l) v
unfolding lightest_from
from_least x [] v = λ h. alone h
  where
    alone : Has v (x ∷ []) → AtMost x v
    alone (inl q) = subst (λ (u : Load). AtMost x u) (sym q) (inr (refl, omega arith))
    alone (inr x3) = elim x3 [ ]
from_least x (y ∷ ys) v =
    by-test (λ (w : Load). Has v (x ∷ y ∷ ys) → AtMost (lightest_from w ys) v) (lighter y x)
    (λ e h. taken e (from_least y ys) h)
    (λ e h. kept e (from_least x ys) h)
  where
    taken : lighter y x ≡ true → ((u : Load) → Has u (y ∷ ys) → AtMost (lightest_from y ys) u) → Has v (x ∷ y ∷ ys)
        → AtMost (lightest_from y ys) v
    taken e more (inl q) =
        subst (λ (u : Load). AtMost (lightest_from y ys) u) (sym q)
        (at_most_trans (lightest_from y ys) y x (more y (inl refl)) (is-lighter y x e))
    taken e more (inr h) = more v h

    kept : lighter y x ≡ false → ((u : Load) → Has u (x ∷ ys) → AtMost (lightest_from x ys) u) → Has v (x ∷ y ∷ ys)
        → AtMost (lightest_from x ys) v
    kept e more (inl q) = more v (inl q)
    kept e more (inr (inl q)) =
        subst (λ (u : Load). AtMost (lightest_from x ys) u) (sym q)
        (at_most_trans (lightest_from x ys) x y (more x (inl refl)) (not_lighter y x e))
    kept e more (inr (inr h)) = more v (inr h)

-- it is one of them, and none stands before it
pub lightest_some : (l : List Load) (x : Load) → lightest l ≡ some x → Has x l × ((v : Load) → Has v l → AtMost x v)
unfolding lightest
lightest_some [] x e = none_some e
lightest_some (y ∷ ys) x e =
    subst (λ (u : Load). Has u (y ∷ ys) × ((v : Load) → Has v (y ∷ ys) → AtMost u v)) (some_same e) (from-has y ys, from_least y ys)

-- there is none only of none
pub lightest-none : (l : List Load) → lightest l ≡ none → (v : Load) → Has v l → ⊥
unfolding lightest
lightest-none (y ∷ ys) e v h = none_some (sym e)
lightest-none [] e v h = elim h [ ]

-- ---- the live nodes of a map

pub above : (i : NodeInfo) (is : List NodeInfo) → rising node_below (i ∷ is) ≡ true → (j : NodeInfo) → Has j is → i.node < j.node
above i (k ∷ ks) h j (inl q) = rw q (ltb-true i.node k.node (rising-head node_below nodes_by_id i (k ∷ ks) h))
above i (k ∷ ks) h j (inr t) =
    omega (
      arith,
      ltb-true i.node k.node (rising-head node_below nodes_by_id i (k ∷ ks) h),
      above k ks (rising_tail node_below nodes_by_id i (k ∷ ks) h) j t,
    )
above i [] h j x'' = elim x'' [ ]

find-own : (ns : List NodeInfo) → rising node_below ns ≡ true → (i : NodeInfo) → Has i ns → find (is_node i.node) ns ≡ some i
unfolding find
find-own (j ∷ js) h i (inl q) =
    subst (λ (u : NodeInfo). find (is_node u.node) (j ∷ js) ≡ some u) (sym q) (rw (eq-eqb j.node j.node refl))
find-own (j ∷ js) h i (inr t) =
    rw (ne_eqb j.node i.node (λ q. omega (arith, above j js h i t, q))) (find-own js (rising_tail node_below nodes_by_id j js h) i t)
find-own [] h i x'' = elim x'' [ ]

module _ (m : Map) (formed : rising node_below m.nodes ≡ true) where
  pub has-live : (i : NodeInfo) → Has i m.nodes → i.alive ≡ true → is_live m i.node ≡ true
  unfolding node_at
  has-live i h a = rw (find-own m.nodes formed i h) a

  pub live-has : (n : ℕ) → is_live m n ≡ true → (i : NodeInfo) × (Has i m.nodes) × (i.alive ≡ true) × (i.node ≡ n)
  unfolding node_at
  live-has n = go (find (is_node n) m.nodes) refl
    where
      go : (o : Option NodeInfo) → find (is_node n) m.nodes ≡ o → is_alive o ≡ true
          → (i : NodeInfo) × (Has i m.nodes) × (i.alive ≡ true) × (i.node ≡ n)
      go none e a = not_both false a refl
      go (some i) e a = let r = find-has (is_node n) m.nodes i e in (i, r.0, a, eqb-true i.node n r.1)

-- a node with the load that it has
abbrev pub loaded : (ℕ → ℕ) → NodeInfo → Load
loaded f i = record { node = i.node; count = f i.node }

-- the nodes that pass, with their loads
abbrev pub loads_on : (NodeInfo → Bool) → (ℕ → ℕ) → List NodeInfo → List Load
loads_on p f ns = collect p (loaded f) ns

pub on-has : (p : NodeInfo → Bool) (f : ℕ → ℕ) (ns : List NodeInfo) (i : NodeInfo) → Has i ns → p i ≡ true → Has (loaded f i) (loads_on p f ns)
unfolding collect
on-has p f (j ∷ js) i (inl q) a = rw (← q, a) (inl refl)
on-has p f (j ∷ js) i (inr h) a =
    by-test (Has (loaded f i)) (p j) (λ t. inr (on-has p f js i h a)) (λ t. on-has p f js i h a)
on-has p f [] i x'' a = elim x'' [ ]

-- a load that one of the nodes has, which passes
abbrev pub OfNode : (NodeInfo → Bool) → (ℕ → ℕ) → List NodeInfo → Load → Type 0
OfNode p f ns v = (i : NodeInfo) × (Has i ns) × (p i ≡ true) × (v ≡ loaded f i)

pub has_on : (p : NodeInfo → Bool) (f : ℕ → ℕ) (ns : List NodeInfo) (v : Load) → Has v (loads_on p f ns)
    → OfNode p f ns v
unfolding collect
has_on p f [] v = λ h. absurd h
has_on p f (j ∷ js) v =
    by-test (λ (l : List Load). Has v l → OfNode p f (j ∷ js) v) (p j)
    (λ t h. kept t (has_on p f js v) h)
    (λ t h. later (has_on p f js v h))
  where
    later : OfNode p f js v → OfNode p f (j ∷ js) v
    later r = (r.0, inr r.1, r.2, r.3)

    kept : p j ≡ true → (Has v (loads_on p f js) → OfNode p f js v) → Has v (loaded f j ∷ loads_on p f js) → OfNode p f (j ∷ js) v
    kept t more (inl q) = (j, inl refl, t, q)
    kept t more (inr h) = later (more h)

-- the lightest of some loads is the lightest of the nodes that may be chosen, where the loads are just theirs
module _ (m : Map) (formed : rising node_below m.nodes ≡ true) (load : ℕ → ℕ) (may : ℕ → Bool) (l : List Load)
    (into : (i : NodeInfo) → Has i m.nodes → i.alive ≡ true → may i.node ≡ true → Has (loaded load i) l)
    (from : (v : Load) → Has v l → (i : NodeInfo) × (Has i m.nodes) × (i.alive ≡ true) × (may i.node ≡ true) × (v ≡ loaded load i)) where
  pub is-lightest : (x : Load) → lightest l ≡ some x → Lightest m load may x.node
  is-lightest x e =
      let s = lightest_some l x e in
      let t = from x s.0 in
      let here : x.node ≡ t.0.node = ap (λ (v : Load). v.node) t.4 in
      record {
        live = rw here (has-live m formed t.0 t.1 t.2);
        free = rw here t.3;
        least = λ k a b. stands k (live-has m formed k a) b s.1 (ap (λ (v : Load). v.count) t.4) here;
      }
    where
      stands : (k : ℕ) → ((i : NodeInfo) × (Has i m.nodes) × (i.alive ≡ true) × (i.node ≡ k)) → may k ≡ true
          → ((v : Load) → Has v l → AtMost x v) → {n : ℕ} → x.count ≡ load n → x.node ≡ n → NotAfter load x.node k
      stands k r b least c q =
          let a : AtMost x (loaded load r.0) = least (loaded load r.0) (into r.0 r.1 r.2 (ap may r.3 ∙ b)) in
          subst (λ (j : ℕ). NotAfter load x.node j) r.3
          (subst (λ (y : ℕ). (y < load r.0.node) ⊎ ((y ≡ load r.0.node) × (x.node ≤ r.0.node))) (c ∙ ap load (sym q)) a)

  pub nobody_may : lightest l ≡ none → (k : ℕ) → is_live m k ≡ true → may k ≡ true → ⊥
  nobody_may e k a b =
      let r = live-has m formed k a in
      lightest-none l e (loaded load r.0) (into r.0 r.1 r.2 (ap may r.3 ∙ b))

-- ---- one node's load raised

pub same-on : (p : NodeInfo → Bool) (f g : ℕ → ℕ) (ns : List NodeInfo) → ((i : NodeInfo) → Has i ns → f i.node ≡ g i.node)
    → loads_on p f ns ≡ loads_on p g ns
unfolding collect
same-on p f g [] h = refl
same-on p f g (i ∷ is) h = rw (h i (inl refl), same-on p f g is (λ j t. h j (inr t)))

pub raise_on : (p : NodeInfo → Bool) (f g : ℕ → ℕ) (x : ℕ) → g x ≡ f x + 1 → ((k : ℕ) → (k ≡ x → ⊥) → g k ≡ f k) → (ns : List NodeInfo)
    → rising node_below ns ≡ true → update (is_load x) raised (loads_on p f ns) ≡ loads_on p g ns
unfolding collect update
raise_on p f g x up same [] h = refl
raise_on p f g x up same (i ∷ is) h =
    go (p i) (eqb i.node x) refl (raise_on p f g x up same is (rising_tail node_below nodes_by_id i is h))
  where
    go : (b c : Bool) → eqb i.node x ≡ c → update (is_load x) raised (loads_on p f is) ≡ loads_on p g is
        → update (is_load x) raised (cond b (loaded f i ∷ loads_on p f is) (loads_on p f is)) ≡ cond b (loaded g i ∷ loads_on p g is) (loads_on p g is)
    go false c e more = more
    go true true e more =
        let q : i.node ≡ x = eqb-true i.node x e in
        let one : g i.node ≡ f i.node + 1 = subst (λ (k : ℕ). g k ≡ f k + 1) (sym q) up in
        let rest : loads_on p f is ≡ loads_on p g is =
        same-on p f g is (λ j t. sym (same j.node (λ w. omega (arith, above i is h j t, q, w)))) in
        rw (e, one, rest)
    go true false e more =
        let one : g i.node ≡ f i.node = same i.node (eqb-false i.node x e) in
        rw (e, one, more)

-- the loads differ in nothing else than their counts
pub length-on : (p : NodeInfo → Bool) (f : ℕ → ℕ) (ns : List NodeInfo) → length (loads_on p f ns) ≡ length (filter p ns)
unfolding collect filter
length-on p f [] = refl
length-on p f (i ∷ is) = go (p i) (length-on p f is)
  where
    go : (b : Bool) → length (loads_on p f is) ≡ length (filter p is)
        → length (cond b (loaded f i ∷ loads_on p f is) (loads_on p f is)) ≡ length (cond b (i ∷ filter p is) (filter p is))
    go true more = ap suc more
    go false more = more
