-- Comparisons of numbers as Bools: a test with what it says, and tests that mean the same. Assumes nothing.
use mathlib.Core.Path.{◌≡◌, refl, sym, subst}
use Prim.Native.Nat.{ℕ, ◌≤◌, ◌<◌}
use native.Mathlib.Nat.{not-le_of_lt}
use native.Mathlib.Omega.{arith}
use mathlib.Core.Bool.{Bool, true, false, not, ◌&&◌, ◌||◌}
use lib.Dec.{T, leb, ltb, eqb}
use borrow.Author.Tests.{ne_eqb, eq-eqb, ltb-true, ltb-false, leb-true, leb-false, eqb-true, eqb-false}

pub or_false : (b : Bool) → (b || false) ≡ b
or_false true = refl
or_false false = refl

pub or_true : (b : Bool) → (b || true) ≡ true
or_true true = refl
or_true false = refl

pub and_false : (b : Bool) → (b && false) ≡ false
and_false true = refl
and_false false = refl

pub and_true : (b : Bool) → (b && true) ≡ b
and_true true = refl
and_true false = refl

-- a Bool that is true, as what `T` asks, and back
pub holds_T : {b : Bool} → b ≡ true → T b
holds_T e = subst T (sym e) tt

pub is_true : (b : Bool) → T b → b ≡ true
is_true true t = refl
is_true false t = absurd t

pub not_of : (b : Bool) → b ≡ false → T (not b)
not_of true p = absurd (subst T p tt)
not_of false p = tt

pub and_left : (a b : Bool) → T (a && b) → T a
and_left true b t = tt
and_left false b t = absurd t

pub and_right : (a b : Bool) → T (a && b) → T b
and_right true b t = t
and_right false b t = absurd t

-- a test, with what it says
pub data Test (a b : ℕ) : Type 0 where
  less : a < b → ltb a b ≡ true → eqb a b ≡ false → Test a b
  same : a ≡ b → ltb a b ≡ false → eqb a b ≡ true → Test a b
  more : b < a → ltb a b ≡ false → eqb a b ≡ false → Test a b

pub test : (a b : ℕ) → Test a b
test a b = go (ltb a b) (eqb a b) refl refl
  where
    ne_lt : a < b → a ≡ b → ⊥
    ne_lt h e = omega arith

    rest : b ≤ a → (a ≡ b → ⊥) → b < a
    rest h n = omega arith

    go : (p q : Bool) → ltb a b ≡ p → eqb a b ≡ q → Test a b
    go true q e f = less (ltb-true a b e) e (ne_eqb a b (ne_lt (ltb-true a b e)))
    go false true e f = same (eqb-true a b f) e f
    go false false e f = more (rest (ltb-false a b e) (eqb-false a b f)) e f

-- two comparisons that mean the same
pub ltb_iff : (a b c d : ℕ) → (a < b → c < d) → (c < d → a < b) → ltb a b ≡ ltb c d
ltb_iff a b c d f g = go (ltb a b) (ltb c d) refl refl
  where
    go : (p q : Bool) → ltb a b ≡ p → ltb c d ≡ q → p ≡ q
    go true true x y = refl
    go true false x y = absurd (not-le_of_lt (f (ltb-true a b x)) (ltb-false c d y))
    go false true x y = absurd (not-le_of_lt (g (ltb-true c d y)) (ltb-false a b x))
    go false false x y = refl

pub leb_iff : (a b c d : ℕ) → (a ≤ b → c ≤ d) → (c ≤ d → a ≤ b) → leb a b ≡ leb c d
leb_iff a b c d f g = go (leb a b) (leb c d) refl refl
  where
    go : (p q : Bool) → leb a b ≡ p → leb c d ≡ q → p ≡ q
    go true true x y = refl
    go true false x y = absurd (not-le_of_lt (leb-false c d y) (f (leb-true a b x)))
    go false true x y = absurd (not-le_of_lt (leb-false a b x) (g (leb-true c d y)))
    go false false x y = refl

pub eqb_comm : (a b : ℕ) → eqb a b ≡ eqb b a
eqb_comm a b = go (eqb b a) refl
  where
    go : (t : Bool) → eqb b a ≡ t → eqb a b ≡ t
    go true e = eq-eqb a b (sym (eqb-true b a e))
    go false e = ne_eqb a b (λ p. eqb-false b a e (sym p))
