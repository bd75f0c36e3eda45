-- The tests for the domain. Assumes nothing.
use mathlib.Core.Path.{◌≡◌, refl, sym, ap, ◌∙◌, subst}
use mathlib.Core.Logic.{◌⊎◌, inl, inr}
use Prim.Native.Nat.{ℕ, ◌+◌, ◌-◌, ◌*◌, ◌%◌, ◌^◌, ◌≤◌, ◌<◌}
use native.Mathlib.Nat.{le_trans, le_of_eq, le_of_lt, not-le_of_lt, eq-or-lt_of_le, lt_irrefl, le-add_right}
use native.Mathlib.Nat.{le-add_left, mul-pos, mul-one, mul_right_comm, mul-le-mul_right, le_of_mul-le-mul_right}
use native.Mathlib.Omega.{arith}
use mathlib.Core.Bool.{Bool, true, false, ◌&&◌, ◌||◌}
use lib.IntN.{pos}
use lib.Dec.{T, leb, ltb, eqb, lit≤}
use borrow.Author.Tests.{lt-leb, leb-true, leb-false, ltb-true, eq-eqb, ne_eqb, lt-ltb, le-ltb}
use lib.Pow.{pow_pos}
use lib.Ieee.{Float, nan, inf, fin, binary32, up, down, is_nan, of_bits, le, neg}
use lib.Ieee.Fits.{down_pos}
use lib.Ieee.Bits.{nan_bits_is, nan_bits_above}
use Rattle.spec.specs.Nearest.Order.{units_of, in_domain}
use Rattle.spec_laws.proofs.Nearest.Tests.{leb_iff, or_true, and_true, not_of, eqb_comm}
use Rattle.spec_laws.proofs.Nearest.Patterns.{units_mono, Val, reads}

abbrev most : ℕ
most = 1333788672

most-is : units_of most ≡ 2 ^ 181
most-is = refl

units_le : (r : ℕ) → r ≤ most → units_of r ≤ 2 ^ 181
units_le r h = go (eq-or-lt_of_le h)
  where
    go : (r ≡ most) ⊎ (r < most) → units_of r ≤ 2 ^ 181
    go (inl e) = le_of_eq (ap units_of e ∙ most-is)
    go (inr l) = le_trans (le_of_lt (units_mono r most l)) (le_of_eq most-is)

units_le_back : (r : ℕ) → units_of r ≤ 2 ^ 181 → r ≤ most
units_le_back r h = go (leb r most) refl
  where
    go : (b : Bool) → leb r most ≡ b → r ≤ most
    go true e = leb-true r most e
    go false e = absurd (not-le_of_lt (units_mono most r (leb-false r most e)) (le_trans h (le_of_eq (sym most-is))))

at_value : (v : Float) (r : ℕ) → Val v r → leb r most ≡ in_domain v
unfolding in_domain
at_value nan r h = absurd h
at_value (inf s) r h = ap (λ (x : ℕ). leb x most) h
at_value (fin s m e) r h =
    leb_iff r most (m * up e) (2 ^ 32 * down e)
    (λ k. le_of_mul-le-mul_right
    (le_trans (le_of_eq h.1)
    (le_trans (mul-le-mul_right (down e) (units_le r k)) (le_of_eq (mul_right_comm (2 ^ 32) (2 ^ 149) (down e)))))
    (pow_pos 149))
    (λ k. units_le_back r (le_of_mul-le-mul_right
    (le_trans (le_of_eq (sym h.1))
    (le_trans (mul-le-mul_right (2 ^ 149) k) (le_of_eq (mul_right_comm (2 ^ 32) (down e) (2 ^ 149)))))
    (down_pos e)))

nan_out : (v : Float) → is_nan v ≡ true → in_domain v ≡ false
unfolding is_nan in_domain
nan_out nan e = refl
nan_out (inf s) e = absurd (subst T (sym e) tt)
nan_out (fin s m x) e = absurd (subst T (sym e) tt)

pub domain_bits : (b : ℕ) → leb (b % 2 ^ 31) most ≡ in_domain (of_bits binary32 b)
domain_bits b = go (is_nan (of_bits binary32 b)) refl
  where
    go : (t : Bool) → is_nan (of_bits binary32 b) ≡ t → leb (b % 2 ^ 31) most ≡ in_domain (of_bits binary32 b)
    go true e =
        let h : 2139095040 < b % 2 ^ 31 =
        ltb-true 2139095040 (b % 2 ^ 31) (sym (nan_bits_above binary32 b) ∙ nan_bits_is binary32 b ∙ e) in
        lt-leb (b % 2 ^ 31) most (omega arith) ∙ sym (nan_out (of_bits binary32 b) e)
    go false e = at_value (of_bits binary32 b) (b % 2 ^ 31) (reads b (not_of (is_nan (of_bits binary32 b)) e)).0

-- ---- by two comparisons
leb_of : (a b : ℕ) → (ltb a b || (eqb a b && true)) ≡ leb a b
leb_of a b = go (leb a b) refl
  where
    go : (t : Bool) → leb a b ≡ t → (ltb a b || (eqb a b && true)) ≡ t
    go true e = elim (eq-or-lt_of_le (leb-true a b e)) [
      | inl p ↦ ap (λ (z : Bool). ltb a b || (z && true)) (eq-eqb a b p) ∙ or_true (ltb a b)
      | inr l ↦ ap (λ (z : Bool). z || (eqb a b && true)) (lt-ltb a b l)
    ]
    go false e =
        let l : b < a = leb-false a b e in
        ap (λ (z : Bool). z || (eqb a b && true)) (le-ltb a b (le_of_lt l))
        ∙ ap (λ (z : Bool). z && true) (ne_eqb a b (λ p. lt_irrefl b (subst (λ (x : ℕ). b < x) p l)))

positive : (a b : ℕ) (z : Bool) → 0 < a → (ltb 0 (a + b) || z) ≡ true
positive a b z h = ap (λ (t : Bool). t || z) (lt-ltb 0 (a + b) (le_trans h (le-add_right a b)))

positive' : (a b : ℕ) (z : Bool) → 0 < b → (ltb 0 (a + b) || z) ≡ true
positive' a b z h = ap (λ (t : Bool). t || z) (lt-ltb 0 (a + b) (le_trans h (le-add_left b a)))

abbrev cap : Float
cap = fin false 1 (pos 32)

two : (x : Float) → (le x cap && le (neg cap) x) ≡ in_domain x
unfolding le neg in_domain
two nan = refl
two (inf false) = refl
two (inf true) = refl
two (fin false m e) =
    let A = m * up e * 1 in
    let B = 4294967296 * down e in
    ap (λ (t : Bool). (ltb A B || (eqb A B && true)) && t)
    (positive B A (eqb B A && eqb B 0) (mul-pos (lit≤ {m = 1} {n = 4294967296} tt) (down_pos e)))
    ∙ and_true (ltb A B || (eqb A B && true))
    ∙ leb_of A B
    ∙ ap (λ (z : ℕ). leb z B) (mul-one (m * up e))
two (fin true m e) =
    let A = m * up e * 1 in
    let B = 4294967296 * down e in
    ap (λ (t : Bool). t && (ltb A B || (eqb B A && true)))
    (positive' A B (eqb A B && eqb A 0) (mul-pos (lit≤ {m = 1} {n = 4294967296} tt) (down_pos e)))
    ∙ ap (λ (t : Bool). ltb A B || (t && true)) (eqb_comm B A)
    ∙ leb_of A B
    ∙ ap (λ (z : ℕ). leb z B) (mul-one (m * up e))

cap-is : of_bits binary32 1333788672 ≡ cap
unfolding of_bits
cap-is = refl

tests : (x : Float) → (le x (of_bits binary32 1333788672) && le (neg (of_bits binary32 1333788672)) x) ≡ in_domain x
tests x = ap (λ (z : Float). le x z && le (neg z) x) cap-is ∙ two x

pub domain_both : (x : Float) → le x (of_bits binary32 1333788672) ≡ true → le (neg (of_bits binary32 1333788672))
    x ≡ in_domain x
domain_both x h = ap (λ (t : Bool). t && le (neg (of_bits binary32 1333788672)) x) (sym h) ∙ tests x

pub domain_not : (x : Float) → le x (of_bits binary32 1333788672) ≡ false
    → le x (of_bits binary32 1333788672) ≡ in_domain x
domain_not x h = h ∙ ap (λ (t : Bool). t && le (neg (of_bits binary32 1333788672)) x) (sym h) ∙ tests x
