-- Whole roots: what `root` is, and that no root lies halfway between two whole numbers. Assumes nothing.
use mathlib.Core.Path.{◌≡◌, refl, sym, ap, ◌∙◌, subst}
use Prim.Native.Nat.{ℕ, zero, suc, ◌+◌, ◌-◌, ◌*◌, ◌/◌, ◌^◌, ◌≤◌, ◌<◌, zero-le, compare, Ordering}
use native.Mathlib.Nat.{le_refl, le_trans, le_of_eq, le_of_lt, lt_of_lt_of_le, lt_of_le_of_lt, lt_of_not-le}
use native.Mathlib.Nat.{not-le_of_lt, le_antisymm, lt_irrefl, mul-add, add-mul, add_assoc, mul-le-mul}
use native.Mathlib.Nat.{mul-mul-mul_comm, pow-suc}
use native.Mathlib.Omega.{arith}
use mathlib.Core.Bool.{Bool, true, false, not, cond}
use lib.Dec.{T, leb, leb→le, nleb→lt, lit≤, is_le, compare_is_eq, eqb, eqb→eq, eqb_refl}
use lib.Arith.{lt_of_le-ne}
use lib.Ieee.{size}
use lib.Ieee.Digits.{size-lt}
use Rattle.spec.specs.Nearest.Root.{root_by, root}

-- ---- what `root` is
abbrev pub IsRoot : ℕ → ℕ → Type 0
IsRoot n r = (r * r ≤ n) × (n < (r + 1) * (r + 1))

pub four : (R : ℕ) → 2 * R * (2 * R) ≡ 4 * (R * R)
four R = mul-mul-mul_comm 2 R 2 R

root-step : (n R : ℕ) → IsRoot (n / 4) R → IsRoot n (cond (leb ((2 * R + 1) * (2 * R + 1)) n) (2 * R + 1) (2 * R))
root-step n R ih = go (leb ((2 * R + 1) * (2 * R + 1)) n) (leb→le ((2 * R + 1) * (2 * R + 1)) n)
    (nleb→lt ((2 * R + 1) * (2 * R + 1)) n)
  where
    under : (x : ℕ) → x ≤ n / 4 → 4 * x ≤ n
    under x k = omega arith

    over : (x : ℕ) → n / 4 < x → n < 4 * x
    over x k = omega arith

    go : (b : Bool) → (T b → (2 * R + 1) * (2 * R + 1) ≤ n) → (T (not b) → n < (2 * R + 1) * (2 * R + 1))
        → IsRoot n (cond b (2 * R + 1) (2 * R))
    go true y z = (
      y tt,
      lt_of_lt_of_le (over ((R + 1) * (R + 1)) ih.1)
          (le_of_eq (sym (four (R + 1)) ∙ ap (λ (x : ℕ). x * x) (mul-add 2 R 1 ∙ sym (add_assoc (2 * R) 1 1)))),
    )
    go false y z = (le_trans (le_of_eq (four R)) (under (R * R) ih.0), z tt)

root_by-is : (d n : ℕ) → n < 4 ^ d → IsRoot n (root_by d n)
unfolding root_by
root_by-is zero n h = (zero-le, h)
root_by-is (suc d) n h = root-step n (root_by d (n / 4))
    (root_by-is d (n / 4) (quarter (4 ^ d) (subst (λ (x : ℕ). n < x) (pow-suc 4 d) h)))
  where
    quarter : (p : ℕ) → n < p * 4 → n / 4 < p
    quarter p k = omega arith

two-four : (d : ℕ) → 2 ^ d ≤ 4 ^ d
two-four zero = le_refl 1
two-four (suc d) = le_trans (le_of_eq (pow-suc 2 d)) (le_trans (mul-le-mul (two-four d) (lit≤ {m = 2} {n = 4} tt))
    (le_of_eq (sym (pow-suc 4 d))))

pub root_is : (n : ℕ) → IsRoot n (root n)
unfolding root
root_is n = root_by-is (size n) n (lt_of_lt_of_le (size-lt n) (two-four (size n)))

-- ---- and nothing else is
pub sq_back : (a b : ℕ) → a * a < b * b → a < b
sq_back a b h = lt_of_not-le (λ (g : b ≤ a). not-le_of_lt h (mul-le-mul g g))

pub below_next : (a b : ℕ) → a < b + 1 → a ≤ b
below_next a b h = omega arith

pub root_unique : (n r s : ℕ) → IsRoot n r → IsRoot n s → r ≡ s
root_unique n r s p q =
    le_antisymm (below_next r s (sq_back r (s + 1) (lt_of_le_of_lt p.0 q.1)))
    (below_next s r (sq_back s (r + 1) (lt_of_le_of_lt q.0 p.1)))

-- ---- `compare`
abbrev pub Cmp : Ordering → ℕ → ℕ → Type 0
Cmp Ordering.lt a b = a < b
Cmp Ordering.eq a b = a ≡ b
Cmp Ordering.gt a b = b < a

pub cmp : (a b : ℕ) → Cmp (compare a b) a b
cmp a b = go (compare a b) (leb→le a b) (nleb→lt a b) (eqb→eq a b)
    (λ (e : a ≡ b). subst (λ (x : ℕ). T (eqb a x)) e (eqb_refl a))
  where
    go : (o : Ordering) → (T (is_le o) → a ≤ b) → (T (not (is_le o)) → b < a) → (T (compare_is_eq o) → a ≡ b)
        → (a ≡ b → T (compare_is_eq o)) → Cmp o a b
    go Ordering.lt h k e n = lt_of_le-ne (h tt) n
    go Ordering.eq h k e n = e tt
    go Ordering.gt h k e n = k tt

pub compare_lt : (a b : ℕ) → a < b → compare a b ≡ Ordering.lt
compare_lt a b h = go (compare a b) (cmp a b)
  where
    go : (o : Ordering) → Cmp o a b → o ≡ Ordering.lt
    go Ordering.lt k = refl
    go Ordering.eq k = absurd (lt_irrefl a (subst (λ (x : ℕ). a < x) (sym k) h))
    go Ordering.gt k = absurd (not-le_of_lt h (le_of_lt k))

pub compare_gt : (a b : ℕ) → b < a → compare a b ≡ Ordering.gt
compare_gt a b h = go (compare a b) (cmp a b)
  where
    go : (o : Ordering) → Cmp o a b → o ≡ Ordering.gt
    go Ordering.gt k = refl
    go Ordering.eq k = absurd (lt_irrefl b (subst (λ (x : ℕ). b < x) k h))
    go Ordering.lt k = absurd (not-le_of_lt h (le_of_lt k))

-- ---- no tie
pub half_sq : (r : ℕ) → (2 * r + 1) * (2 * r + 1) ≡ 4 * (r * r) + 4 * r + 1
half_sq r = (expand (2 * r)) ∙ ap (λ (x : ℕ). x + 2 * (2 * r) + 1) (four r) ∙ tidy (r * r) r
  where
    expand : (x : ℕ) → (x + 1) * (x + 1) ≡ x * x + 2 * x + 1
    expand x = add-mul x 1 (x + 1) ∙ ap (λ (y : ℕ). y + 1 * (x + 1)) (mul-add x x 1) ∙ regroup (x * x)
      where
        regroup : (s : ℕ) → s + x * 1 + 1 * (x + 1) ≡ s + 2 * x + 1
        regroup s = omega arith

    tidy : (s r : ℕ) → 4 * s + 2 * (2 * r) + 1 ≡ 4 * s + 4 * r + 1
    tidy s r = omega arith

-- the root is never halfway between two whole numbers
pub never_tie : (n r : ℕ) → 4 * n ≡ (2 * r + 1) * (2 * r + 1) → ⊥
never_tie n r e = odd_even (r * r) (e ∙ half_sq r)
  where
    odd_even : (s : ℕ) → 4 * n ≡ 4 * s + 4 * r + 1 → ⊥
    odd_even s h = omega arith
