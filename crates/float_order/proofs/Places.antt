-- The code's comparison of two places, and then of two patterns, is the definition's. Assumes nothing.
use mathlib.Core.Path.{◌≡◌, refl, sym, ap, ◌∙◌}
use mathlib.Core.Bool.{Bool, true, false, ◌&&◌, ◌||◌, cond}
use Prim.Native.Nat.{ℕ, ◌^◌, ◌≤◌, ◌<◌}
use native.Mathlib.Omega.{arith}
use lib.Dec.{ltb, eqb}
use borrow.Author.Tests.{lt-ltb, le-ltb, eq-eqb, ne_eqb}
use Rattle.spec.specs.Nearest.Order as Order
use Rattle.spec.specs.Nearest.Order.{class, before}
use Rattle.float_order.specs.Classes.{shown, place_of}

-- a class has the place that the definition gives it
pub place_is : (c : Order.Class) → place_of (shown c) ≡ Order.rank c
place_is Order.negNan = refl
place_is Order.negInf = refl
place_is Order.negNumber = refl
place_is Order.negZero = refl
place_is Order.posZero = refl
place_is Order.posNumber = refl
place_is Order.posInf = refl
place_is Order.posNan = refl

abbrev within : ℕ → ℕ → Bool
within a b = cond (ltb a (2 ^ 31)) (ltb a b) (ltb b a)

module _ (a b x y : ℕ) (isX : x ≡ Order.rank (class a)) (isY : y ≡ Order.rank (class b)) where
  by-places : (ltb x y || (eqb x y && within a b)) ≡ before a b
  unfolding before
  by-places =
      ap (λ (z : ℕ). ltb z y || (eqb z y && within a b)) isX
      ∙ ap (λ (z : ℕ). ltb (Order.rank (class a)) z || (eqb (Order.rank (class a)) z && within a b)) isY

  or_none : (t : Bool) → (t || false) ≡ t
  or_none true = refl
  or_none false = refl

  -- other classes
  pub apart : (x ≡ y → ⊥) → ltb x y ≡ before a b
  apart n = sym (or_none (ltb x y)) ∙ ap (λ (t : Bool). ltb x y || (t && within a b)) (sym (ne_eqb x y n)) ∙ by-places

  -- one class
  level : x ≡ y → within a b ≡ before a b
  level e =
      ap (λ (t : Bool). t && within a b) (sym (eq-eqb x y e))
      ∙ ap (λ (t : Bool). t || (eqb x y && within a b)) (sym (le-ltb x y (at-most e)))
      ∙ by-places
    where
      at-most : x ≡ y → y ≤ x
      at-most e = omega arith

  pub level_plus : x ≡ y → a < 2 ^ 31 → ltb a b ≡ before a b
  level_plus e h = ap (λ (t : Bool). cond t (ltb a b) (ltb b a)) (sym (lt-ltb a (2 ^ 31) h)) ∙ level e

  pub level-minus : x ≡ y → 2 ^ 31 ≤ a → ltb b a ≡ before a b
  level-minus e h = ap (λ (t : Bool). cond t (ltb a b) (ltb b a)) (sym (le-ltb a (2 ^ 31) h)) ∙ level e
