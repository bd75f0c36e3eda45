-- The order by classes is IEEE 754's text of totalOrder at every two patterns that are no NaN's. Assumes nothing.
use mathlib.Core.Path.{◌≡◌, refl, sym, ap, ◌∙◌, subst}
use Prim.Native.Nat.{ℕ, ◌+◌, ◌-◌, ◌*◌, ◌%◌, ◌^◌, ◌≤◌, ◌<◌}
use native.Mathlib.Nat.{le_of_eq, le_of_lt, mul_comm, mul_assoc, mul_right_comm, mul-lt-mul_of_pos_right}
use native.Mathlib.Nat.{lt_of_mul-lt-mul_right, mul-pos}
use native.Mathlib.Omega.{arith}
use mathlib.Core.Bool.{Bool, true, false, not, ◌&&◌, ◌||◌, cond}
use lib.IntN.{ℤ}
use lib.Dec.{T, leb, ltb, eqb}
use borrow.Author.Tests.{lt-ltb, le-ltb, eq-eqb, ltb-false, leb-true, leb-false}
use lib.Pow.{pow_pos}
use lib.Ieee.{Float, nan, inf, fin, binary32, up, down, fits, is_nan, of_bits, to_bits}
use lib.Ieee.Fits.{down_pos}
use lib.Ieee.Bits.{of_bits-to_bits, to_bits-lt}
use Rattle.spec.specs.Nearest.Order.{units_of, before, minus, total}
use Rattle.spec_laws.proofs.Nearest.Tests.{ltb_iff, and_false, or_false}
use Rattle.spec_laws.proofs.Nearest.Classes.{key, by_key, as_before}
use Rattle.spec_laws.proofs.Nearest.Patterns.{top, units_mono, units_back, Val, reads}

-- the order of sign and magnitude
abbrev pub signed_less : Bool → ℕ → Bool → ℕ → Bool
signed_less false r false q = ltb r q
signed_less false r true q = false
signed_less true r false q = true
signed_less true r true q = ltb q r

-- two finite sizes over their common divisor are in the order of the units
module _ (A B u v p q : ℕ) (P : 0 < p) (Q : 0 < q) (x : A * 2 ^ 149 ≡ u * p) (y : B * 2 ^ 149 ≡ v * q) where
  left : A * q * 2 ^ 149 ≡ u * (p * q)
  left = mul_right_comm A q (2 ^ 149) ∙ ap (λ (z : ℕ). z * q) x ∙ mul_assoc u p q

  right : B * p * 2 ^ 149 ≡ v * (p * q)
  right = mul_right_comm B p (2 ^ 149) ∙ ap (λ (z : ℕ). z * p) y ∙ mul_assoc v q p
      ∙ ap (λ (z : ℕ). v * z) (mul_comm q p)

  cross_lt : A * q < B * p → u < v
  cross_lt h = lt_of_mul-lt-mul_right (p * q)
      (subst (λ (z : ℕ). z < v * (p * q)) left
      (subst (λ (z : ℕ). A * q * 2 ^ 149 < z) right (mul-lt-mul_of_pos_right h (pow_pos 149))))

  cross_back : u < v → A * q < B * p
  cross_back h = lt_of_mul-lt-mul_right (2 ^ 149)
      (subst (λ (z : ℕ). z < B * p * 2 ^ 149) (sym left)
      (subst (λ (z : ℕ). u * (p * q) < z) (sym right) (mul-lt-mul_of_pos_right h (mul-pos P Q))))

no_eq : (a b : Bool) → (a || (b && false)) ≡ a
no_eq a b = ap (λ (z : Bool). a || z) (and_false b) ∙ or_false a

both_zero : (a b : ℕ) → (ltb 0 (a + b) || ((eqb a b && eqb a 0) && true)) ≡ true
both_zero a b = go (ltb 0 (a + b)) refl
  where
    zeros : a + b ≤ 0 → (a ≡ b) × (a ≡ 0)
    zeros h = (omega arith, omega arith)

    go : (t : Bool) → ltb 0 (a + b) ≡ t → (t || ((eqb a b && eqb a 0) && true)) ≡ true
    go true e = refl
    go false e = let z = zeros (ltb-false 0 (a + b) e) in
        ap (λ (w : Bool). (w && eqb a 0) && true) (eq-eqb a b z.0)
        ∙ ap (λ (w : Bool). w && true) (eq-eqb a 0 z.1)

fin_less : (m : ℕ) (e : ℤ) (n : ℕ) (d : ℤ) (r q : ℕ) → m * up e * 2 ^ 149 ≡ units_of r * down e
    → n * up d * 2 ^ 149 ≡ units_of q * down d → ltb (m * up e * down d) (n * up d * down e) ≡ ltb r q
fin_less m e n d r q x y =
    ltb_iff (m * up e * down d) (n * up d * down e) r q
    (λ h. units_back r q (cross_lt (m * up e) (n * up d) (units_of r) (units_of q) (down e) (down d) (down_pos e)
    (down_pos d) x y h))
    (λ h. cross_back (m * up e) (n * up d) (units_of r) (units_of q) (down e) (down d) (down_pos e) (down_pos d) x y
    (units_mono r q h))

below_top : (r q : ℕ) → r < top → q ≡ top → r < q
below_top r q h e = subst (λ (z : ℕ). r < z) (sym e) h

pub total-at : (x y : Float) (r q : ℕ) → Val x r → Val y q → total x y ≡ signed_less (minus x) r (minus y) q
unfolding total
total-at nan y r q h k = absurd h
total-at (inf false) nan r q h k = absurd k
total-at (inf true) nan r q h k = absurd k
total-at (fin false m e) nan r q h k = absurd k
total-at (fin true m e) nan r q h k = absurd k
total-at (inf false) (inf false) r q h k = sym (le-ltb r q (le_of_eq (k ∙ sym h)))
total-at (inf false) (inf true) r q h k = refl
total-at (inf true) (inf false) r q h k = refl
total-at (inf true) (inf true) r q h k = sym (le-ltb q r (le_of_eq (h ∙ sym k)))
total-at (inf false) (fin false n d) r q h k = sym (le-ltb r q (le_of_lt (below_top q r k.0 h)))
total-at (inf false) (fin true n d) r q h k = refl
total-at (inf true) (fin false n d) r q h k = refl
total-at (inf true) (fin true n d) r q h k = sym (lt-ltb q r (below_top q r k.0 h))
total-at (fin false m e) (inf false) r q h k = sym (lt-ltb r q (below_top r q h.0 k))
total-at (fin false m e) (inf true) r q h k = refl
total-at (fin true m e) (inf false) r q h k = refl
total-at (fin true m e) (inf true) r q h k = sym (le-ltb q r (le_of_lt (below_top r q h.0 k)))
total-at (fin false m e) (fin false n d) r q h k = no_eq (ltb (m * up e * down d) (n * up d * down e))
    (eqb (m * up e * down d) (n * up d * down e) && true) ∙ fin_less m e n d r q h.1 k.1
total-at (fin false m e) (fin true n d) r q h k =
    no_eq false (eqb (m * up e * down d) (n * up d * down e) && eqb (m * up e * down d) 0)
total-at (fin true m e) (fin false n d) r q h k = both_zero (m * up e * down d) (n * up d * down e)
total-at (fin true m e) (fin true n d) r q h k = no_eq (ltb (n * up d * down e) (m * up e * down d))
    (eqb (m * up e * down d) (n * up d * down e) && true) ∙ fin_less n d m e q r k.1 h.1

-- ---- the keys are in the order of sign and magnitude
key_less : (a b : ℕ) → a < 2 ^ 32 → b < 2 ^ 32 → signed_less (leb (2 ^ 31) a) (a % 2 ^ 31) (leb (2 ^ 31) b)
    (b % 2 ^ 31) ≡ by_key a b
key_less a b A B = go (leb (2 ^ 31) a) refl (leb (2 ^ 31) b) refl
  where
    go : (s : Bool) → leb (2 ^ 31) a ≡ s → (t : Bool) → leb (2 ^ 31) b ≡ t
        → signed_less s (a % 2 ^ 31) t (b % 2 ^ 31) ≡ ltb (cond (ltb a (2 ^ 31)) (a + 2 ^ 31) (2 ^ 32 - 1 - a))
        (cond (ltb b (2 ^ 31)) (b + 2 ^ 31) (2 ^ 32 - 1 - b))
    go false x false y =
        let p : a < 2 ^ 31 = leb-false (2 ^ 31) a x in
        let q : b < 2 ^ 31 = leb-false (2 ^ 31) b y in
        simp (lt-ltb a (2 ^ 31) p, lt-ltb b (2 ^ 31) q) (ltb_iff (a % 2 ^ 31) (b % 2 ^ 31) (a + 2 ^ 31) (b + 2 ^ 31)
        (λ z. omega arith) (λ z. omega arith))
    go false x true y =
        let p : a < 2 ^ 31 = leb-false (2 ^ 31) a x in
        let q : 2 ^ 31 ≤ b = leb-true (2 ^ 31) b y in
        simp (lt-ltb a (2 ^ 31) p, le-ltb b (2 ^ 31) q) (sym (le-ltb (a + 2 ^ 31) (2 ^ 32 - 1 - b) (omega arith)))
    go true x false y =
        let p : 2 ^ 31 ≤ a = leb-true (2 ^ 31) a x in
        let q : b < 2 ^ 31 = leb-false (2 ^ 31) b y in
        simp (le-ltb a (2 ^ 31) p, lt-ltb b (2 ^ 31) q) (sym (lt-ltb (2 ^ 32 - 1 - a) (b + 2 ^ 31) (omega arith)))
    go true x true y =
        let p : 2 ^ 31 ≤ a = leb-true (2 ^ 31) a x in
        let q : 2 ^ 31 ≤ b = leb-true (2 ^ 31) b y in
        simp (le-ltb a (2 ^ 31) p, le-ltb b (2 ^ 31) q)
        (ltb_iff (b % 2 ^ 31) (a % 2 ^ 31) (2 ^ 32 - 1 - a) (2 ^ 32 - 1 - b) (λ z. omega arith)
        (λ z. omega arith))

-- ---- the law, on patterns and on floats
pub total-bits : (a b : ℕ) → a < 2 ^ 32 → b < 2 ^ 32 → T (not (is_nan (of_bits binary32 a)))
    → T (not (is_nan (of_bits binary32 b))) → total (of_bits binary32 a) (of_bits binary32 b) ≡ before a b
total-bits a b A B n m =
    let x = reads a n in
    let y = reads b m in
    total-at (of_bits binary32 a) (of_bits binary32 b) (a % 2 ^ 31) (b % 2 ^ 31) x.0 y.0
    ∙ ap (λ (s : Bool). signed_less s (a % 2 ^ 31) (minus (of_bits binary32 b)) (b % 2 ^ 31)) x.1
    ∙ ap (λ (t : Bool). signed_less (leb (2 ^ 31) a) (a % 2 ^ 31) t (b % 2 ^ 31)) y.1
    ∙ key_less a b A B
    ∙ sym (as_before a b A B)

pub total-floats : (x y : Float) → T (fits binary32 x) → T (fits binary32 y) → T (not (is_nan x)) → T (not (is_nan y))
    → total x y ≡ before (to_bits binary32 x) (to_bits binary32 y)
total-floats x y f g n m =
    let p = of_bits-to_bits binary32 x f in
    let q = of_bits-to_bits binary32 y g in
    ap (λ (z : Float). total z y) (sym p)
    ∙ ap (λ (z : Float). total (of_bits binary32 (to_bits binary32 x)) z) (sym q)
    ∙ total-bits (to_bits binary32 x) (to_bits binary32 y) (to_bits-lt binary32 x f) (to_bits-lt binary32 y g)
    (subst (λ (z : Float). T (not (is_nan z))) (sym p) n) (subst (λ (z : Float). T (not (is_nan z))) (sym q) m)
