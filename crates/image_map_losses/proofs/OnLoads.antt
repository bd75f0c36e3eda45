-- The list by the loads is the list of the definition, of a map whose node table rises; and the loads left without a node. Assumes nothing.
use Prim.Native.Nat.{ℕ, ◌+◌, ◌<◌}
use mathlib.Core.Path.{◌≡◌, refl, sym, ap, ◌∙◌}
use mathlib.Core.Bool.{Bool, true, false, cond, not}
use mathlib.Core.List.{List, [], ◌∷◌, map}
use lib.ListN.{length, take, get_or, set}
use borrow.Author.Tests.{eq-eqb, ne_eqb}
use native.Mathlib.Omega.{arith}
use Rattle.spec.specs.Lists.{◌and◌, collect, filter, rising}
use Rattle.spec.specs.Map.Tables.{NodeInfo, Spec, Map}
use Rattle.spec.specs.Map.Apply.{node_below}
use Rattle.spec.specs.Map.Place.{Load, is_load, replicas_of, loads_of, place_on, place}
use Rattle.spec_losses.specs.Losses.{Loss, same_placed, loss_of, matters, losses_of}
use Rattle.spec_losses.specs.Loads.{live_loads}
use Rattle.spec_losses.proofs.Loads.{dead_loads}
use Rattle.map_place.specs.Read.{view_load, load_of, pairs, loads_in, Columns}
use Rattle.map_place.specs.declared.Load as code
use Rattle.map_place.proofs.Collecting.{collect-on, collect_past}
use Rattle.map_place.proofs.Pairs.{no_load, in_pairs, row_is, pairs_long, pairs_set}
use Rattle.image_map_losses.specs.Left.{loss_on, matters_on, losses_on}

-- the loads of the other nodes
abbrev pub others : ℕ → Load → Bool
others n x = not (is_load n x)

pub kept_as_lem : {A : Type 0} (p : A → Bool) (l : List A) → collect p (λ (x : A). x) l ≡ filter p l
unfolding collect filter
kept_as_lem p [] = refl
kept_as_lem {A = A} p (y ∷ ys) = ap (λ (w : List A). cond (p y) (y ∷ w) w) (kept_as_lem p ys)

-- what is collected of what was collected
collect-twice : {A B C : Type 0} (p : A → Bool) (f : A → B) (q : B → Bool) (g : B → C) (l : List A)
    → collect q g (collect p f l) ≡ collect (λ x. p x and q (f x)) (λ x. g (f x)) l
unfolding collect ◌and◌
collect-twice p f q g [] = refl
collect-twice {C = C} p f q g (y ∷ ys) = go (p y) (q (f y)) (collect-twice p f q g ys)
  where
    go : (a b : Bool) → collect q g (collect p f ys) ≡ collect (λ x. p x and q (f x)) (λ x. g (f x)) ys
        → collect q g (cond a (f y ∷ collect p f ys) (collect p f ys))
        ≡ cond (a and q (f y)) (g (f y) ∷ collect (λ x. p x and q (f x)) (λ x. g (f x)) ys) (collect (λ x. p x and q (f x)) (λ x. g (f x)) ys)
    go true b more = ap (λ (w : List C). cond (q (f y)) (g (f y) ∷ w) w) more
    go false b more = more

collect_alike : {A B : Type 0} (p q : A → Bool) (f g : A → B) → ((x : A) → p x ≡ q x) → ((x : A) → f x ≡ g x) → (l : List A) → collect p f l ≡ collect q g l
unfolding collect
collect_alike p q f g s t [] = refl
collect_alike p q f g s t (y ∷ ys) = rw (s y, t y, collect_alike p q f g s t ys)

module _ (m : Map) (spec : Spec) (formed : rising node_below m.nodes ≡ true) where
  abbrev loaded : NodeInfo → Load
  loaded i = record { node = i.node; count = replicas_of i.node m.shards }

  then-on : (i : NodeInfo) → loss_on spec (live_loads m) (loaded i) ≡ loss_of m spec i
  unfolding loss_on loss_of place
  then-on i = ap (λ (l : List Load). record { node = i.node; then = place_on spec l }) (sym (dead_loads m i.node formed))

  matters-on : (i : NodeInfo) → (i.alive and matters_on spec (live_loads m) (loaded i)) ≡ matters m spec i
  unfolding matters_on matters place
  matters-on i = ap (λ (x : Loss). i.alive and not (same_placed x.then (place_on spec (live_loads m)))) (then-on i)

  pub losses-on : losses_on spec (live_loads m) ≡ losses_of m spec
  unfolding losses_on losses_of loads_of
  losses-on =
      collect-twice (λ (i : NodeInfo). i.alive) loaded (matters_on spec (live_loads m)) (loss_on spec (live_loads m)) m.nodes
      ∙ collect_alike _ _ _ _ matters-on then-on m.nodes

-- ---- the loads left so far, of two arrays

module _ (xs ys ids counts : List ℕ) (m n i node : ℕ) (k : Columns xs ys m) (c : Columns ids counts n) (h : i < m)
    (inv : loads_in ids counts n ≡ collect (others node) (λ (x : Load). x) (loads_in xs ys i)) where
  fits : i < length (pairs xs ys)
  fits = let q = in_pairs xs ys m k in omega arith

  pub left_past : get_or xs i 0 ≡ node → loads_in ids counts n ≡ collect (others node) (λ (x : Load). x) (loads_in xs ys (i + 1))
  left_past e =
      collect_past view_load view_load (others node) (λ (x : Load). x) (pairs xs ys) (pairs ids counts) n i no_load fits inv
      (ap (others node) (row_is xs ys m k i h) ∙ ap not (eq-eqb (get_or xs i 0) node e))

  pub left-take : n < 32 → (get_or xs i 0 ≡ node → ⊥)
      → loads_in (set ids n (get_or xs i 0)) (set counts n (get_or ys i 0)) (n + 1) ≡ collect (others node) (λ (x : Load). x) (loads_in xs ys (i + 1))
  left-take room ne =
      ap (λ (l : List code.Load). map view_load (take (n + 1) l)) (pairs_set ids counts n (get_or xs i 0) (get_or ys i 0))
      ∙ collect-on view_load view_load (others node) (λ (x : Load). x) (pairs xs ys) (pairs ids counts) n i no_load fits inv (load_of (get_or xs i 0) (get_or ys i 0))
      (let q = pairs_long ids counts (c.named ∙ sym c.counted) in omega (arith, c.named))
      (ap (others node) (row_is xs ys m k i h) ∙ ap not (ne_eqb (get_or xs i 0) node ne)) (sym (row_is xs ys m k i h))
