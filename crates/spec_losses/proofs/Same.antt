-- Two answers of place are told apart exactly where they differ: lists in their order, nodes in theirs, 23 from none. Assumes nothing.
use Prim.Native.Nat.{ℕ}
use mathlib.Core.Path.{◌≡◌, refl, sym, ap, ◌∙◌, subst}
use mathlib.Core.Bool.{Bool, true, false}
use mathlib.Core.List.{List, [], ◌∷◌}
use lib.ListN.{length}
use lib.Dec.{eqb, ltb}
use borrow.Author.Tests.{eqb-true, eq-eqb}
use Rattle.spec.specs.Lists.{◌and◌, ◌or◌}
use Rattle.spec.specs.Limits.{max_lists, max_listed}
use Rattle.spec.specs.Refusals.{Refusal, no_room, number_of}
use Rattle.spec.specs.Map.Tables.{Spec, Map}
use Rattle.spec.specs.Map.Create.{Placement}
use Rattle.spec.specs.Map.Place.{Load, Placed, nowhere, placed_on, not_placed, place_shards, place_on, loads_of, place}
use Rattle.spec_laws.proofs.Lists.{by-test, not_both, and_true, and_left, and_right}
use Rattle.spec_losses.specs.Losses.{same_all, same_lists, same_placed}

-- ---- lists

module _ {ℓ} {A : Type ℓ} (same : A → A → Bool) where
  pub all_same : ((x y : A) → same x y ≡ true → x ≡ y) → (a b : List A) → same_all same a b ≡ true → a ≡ b
  unfolding same_all
  all_same told [] [] e = refl
  all_same told [] (y ∷ ys) e = not_both false e refl
  all_same told (x ∷ xs) [] e = not_both false e refl
  all_same told (x ∷ xs) (y ∷ ys) e =
      let h : x ≡ y = told x y (and_left (same x y) (same_all same xs ys) e) in
      let t = all_same told xs ys (and_right (same x y) (same_all same xs ys) e) in
      ap (λ (z : A). z ∷ xs) h ∙ ap (λ (l : List A). y ∷ l) t

  pub all_own : ((x : A) → same x x ≡ true) → (a : List A) → same_all same a a ≡ true
  unfolding same_all
  all_own own [] = refl
  all_own own (x ∷ xs) = and_true (same x x) (same_all same xs xs) (own x) (all_own own xs)

pub lists_same : (a b : Placement) → same_lists a b ≡ true → a ≡ b
unfolding same_lists
lists_same a b e = all_same (same_all eqb) (all_same eqb (λ x y. eqb-true x y)) a b e

pub lists_own : (a : Placement) → same_lists a a ≡ true
unfolding same_lists
lists_own a = all_own (same_all eqb) (all_own eqb (λ x. eq-eqb x x refl)) a

-- ---- answers

-- what place can answer: none, lists, or 23
abbrev pub Answered : Placed → Type 0
Answered nowhere = Unit
Answered (placed_on a) = Unit
Answered (not_placed r) = r ≡ no_room

pub on-answered : (spec : Spec) (l : List Load) → Answered (place_on spec l)
unfolding place_on
on-answered spec l =
    by-test Answered (ltb (length l) spec.replication) (λ _. tt)
    (λ _. by-test Answered (ltb max_lists spec.shards or ltb max_listed spec.replication) {x = not_placed no_room}
    {y = placed_on (place_shards spec.shards spec.replication l)} (λ _. refl) (λ _. tt))

pub place-answered : (m : Map) (spec : Spec) → Answered (place m spec)
unfolding place
place-answered m spec = on-answered spec (loads_of (λ i. i.alive) m)

pub placed-own : (x : Placed) → same_placed x x ≡ true
unfolding same_placed
placed-own nowhere = refl
placed-own (placed_on a) = lists_own a
placed-own (not_placed r) = eq-eqb (number_of r) (number_of r) refl

pub placed_same : (x y : Placed) → Answered x → Answered y → same_placed x y ≡ true → x ≡ y
unfolding same_placed
placed_same nowhere nowhere p q e = refl
placed_same nowhere (placed_on b) p q e = not_both false e refl
placed_same nowhere (not_placed s) p q e = not_both false e refl
placed_same (placed_on a) nowhere p q e = not_both false e refl
placed_same (placed_on a) (placed_on b) p q e = ap placed_on (lists_same a b e)
placed_same (placed_on a) (not_placed s) p q e = not_both false e refl
placed_same (not_placed r) nowhere p q e = not_both false e refl
placed_same (not_placed r) (placed_on b) p q e = not_both false e refl
placed_same (not_placed r) (not_placed s) p q e = ap not_placed (p ∙ sym q)

-- told apart: different
pub placed-apart : (x y : Placed) → same_placed x y ≡ false → x ≡ y → ⊥
placed-apart x y e q = not_both (same_placed y y) (placed-own y) (sym (ap (λ (z : Placed). same_placed z y) q) ∙ e)

-- different: told apart
pub apart-placed : (x y : Placed) → Answered x → Answered y → (x ≡ y → ⊥) → same_placed x y ≡ false
apart-placed x y p q n = go (same_placed x y) refl
  where
    go : (b : Bool) → same_placed x y ≡ b → same_placed x y ≡ false
    go true e = absurd (n (placed_same x y p q e))
    go false e = e
