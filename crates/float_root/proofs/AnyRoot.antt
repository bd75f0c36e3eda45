-- IEEE 754's squareRoot of the floats that are no sum of squares in the domain: NaNs, infinities, and those with a minus sign. Assumes nothing.
use Rattle.std.proofs.Common.{◌≡◌, ℕ, zero, suc, ◌+◌, ◌*◌, ◌/◌, ◌%◌, ◌^◌, ◌<◌, ◌≤◌, Bool, true, false, cond, not, T, eqb, leb, sym, refl, ap, ◌∙◌, subst, lt_irrefl, mul-pos, zero-mul, arith, pow_pos, eqb-true, leb-false, leb-true}
use borrow.Author.Tests.{eqb-false}
use lib.Ieee.{Float, nan, inf, fin, binary32, down, up, odd, div, ne, fits, is_nan, of_fields, of_bits, to_bits}
use lib.Ieee.Bits.{of_bits-to_bits, to_bits-lt}
use lib.Ieee.Compare.{differs_from_itself, nan_differs}
use lib.Ieee.Exact.{HasValue, odd_sign}
use lib.Ieee.Fits.{down_pos}
use Rattle.spec.specs.Nearest.Root.{sqrt, rootable}
use Rattle.spec_laws.proofs.Nearest.Patterns.{of_bits_is, plus_pattern}
use Rattle.spec_laws.proofs.Nearest.Tests.{holds_T}

-- ---- a NaN
pub nan_root : (x : Float) → ne x x ≡ true → x ≡ sqrt binary32 x
unfolding sqrt
nan_root x h = subst (λ (y : Float). y ≡ sqrt binary32 y) (sym (differs_from_itself x (holds_T h))) refl

pub number : (x : Float) → ne x x ≡ false → T (not (is_nan x))
unfolding is_nan
number nan h = absurd (subst T (sym nan_differs ∙ h) tt)
number (inf s) h = tt
number (fin s m e) h = tt

-- ---- a float by its pattern
module _ (x : Float) (held : T (fits binary32 x)) where
  -- what holds_T of the pattern's float holds_T of x
  pub by_pattern : (P : Float → Type 0) → P (of_bits binary32 (to_bits binary32 x)) → P x
  by_pattern P p = subst P (of_bits-to_bits binary32 x held) p

  pub plus_rootable : to_bits binary32 x < 2139095040 → T (rootable x)
  plus_rootable h = by_pattern (λ y. T (rootable y)) (plus_pattern (to_bits binary32 x) h)

own_at : (b : ℕ) (x : Float) → T (fits binary32 x) → to_bits binary32 x ≡ b
    → of_bits binary32 b ≡ sqrt binary32 (of_bits binary32 b) → x ≡ sqrt binary32 x
own_at b x held e own = by_pattern x held (λ y. y ≡ sqrt binary32 y)
    (subst (λ (c : ℕ). of_bits binary32 c ≡ sqrt binary32 (of_bits binary32 c)) (sym e) own)

infinity_own : of_bits binary32 2139095040 ≡ sqrt binary32 (of_bits binary32 2139095040)
unfolding of_bits sqrt
infinity_own = refl

minus_zero_own : of_bits binary32 2147483648 ≡ sqrt binary32 (of_bits binary32 2147483648)
unfolding of_bits sqrt
minus_zero_own = refl

pub infinity_root : (x : Float) → T (fits binary32 x) → to_bits binary32 x ≡ 2139095040 → x ≡ sqrt binary32 x
infinity_root x held e = own_at 2139095040 x held e infinity_own

pub minus_zero_root : (x : Float) → T (fits binary32 x) → to_bits binary32 x ≡ 2147483648 → x ≡ sqrt binary32 x
minus_zero_root x held e = own_at 2147483648 x held e minus_zero_own

-- ---- below zero
minus-none : (v : Float) (a c : ℕ) → 0 < a → HasValue v true a c → sqrt binary32 v ≡ nan
unfolding sqrt
minus-none (fin true zero e) a c p h =
    absurd (lt_irrefl 0 (subst (λ (y : ℕ). 0 < y) (sym h.1 ∙ ap (λ (y : ℕ). y * c) (zero-mul (up e)) ∙ zero-mul c) (mul-pos p (down_pos e))))
minus-none (fin true (suc m) e) a c p h = refl
minus-none (fin false m e) a c p h = absurd (subst T (sym h.0) tt)
minus-none nan a c p h = elim h [ ]
minus-none (inf _) a c p h = elim h [ ]

fields_none : (s : Bool) (e t : ℕ) → (s ≡ true → e ≡ 0 → 0 < t) → (s ≡ false → (e ≡ 255) × (t ≡ 0 → ⊥))
    → sqrt binary32 (of_fields binary32 s e t) ≡ nan
unfolding of_fields sqrt
fields_none true zero t a b = minus-none (odd 24 true t 0 149) (t * 1) (2 ^ 149) (mul-pos (a refl refl) (pow_pos 0)) (odd_sign 24 true t 0 149)
fields_none false zero t a b = absurd (off (b refl).0)
  where
    off : ◌≡◌ {A = ℕ} 0 255 → ⊥
    off e = omega arith
fields_none s (suc x) t a b = go s b (eqb (suc x) 255) refl (eqb t 0) refl
  where
    go : (s : Bool) → (s ≡ false → (suc x ≡ 255) × (t ≡ 0 → ⊥)) → (u : Bool) → eqb (suc x) 255 ≡ u → (w : Bool) → eqb t 0 ≡ w
        → sqrt binary32 (cond u (cond w (inf s) nan) (odd 24 s (2 ^ 23 + t) x 149)) ≡ nan
    go true b true p true q = refl
    go false b true p true q = absurd ((b refl).1 (eqb-true t 0 q))
    go s b true p false q = refl
    go true b false p w q = minus-none (odd 24 true (2 ^ 23 + t) x 149) ((2 ^ 23 + t) * 2 ^ x) (2 ^ 149) (mul-pos (more t) (pow_pos x)) (odd_sign 24 true (2 ^ 23 + t) x 149)
      where
        more : (t : ℕ) → 0 < 2 ^ 23 + t
        more t = omega arith
    go false b false p w q = absurd (eqb-false (suc x) 255 p (b refl).0)

none-at : (b : ℕ) → 2139095040 < b → b < 2 ^ 32 → (b ≡ 2147483648 → ⊥) → sqrt binary32 (of_bits binary32 b) ≡ nan
none-at b lo hi n = ap (sqrt binary32) (of_bits_is b) ∙ fields_none (leb (2 ^ 31) b) (b % 2 ^ 31 / 2 ^ 23) (b % 2 ^ 23)
    (λ p. minus b (leb-true (2 ^ 31) b p) hi n) (λ p. plus b lo (leb-false (2 ^ 31) b p))
  where
    minus : (b : ℕ) → 2 ^ 31 ≤ b → b < 2 ^ 32 → (b ≡ 2147483648 → ⊥) → b % 2 ^ 31 / 2 ^ 23 ≡ 0 → 0 < b % 2 ^ 23
    minus b l h n e = omega arith

    plus : (b : ℕ) → 2139095040 < b → b < 2 ^ 31 → (b % 2 ^ 31 / 2 ^ 23 ≡ 255) × (b % 2 ^ 23 ≡ 0 → ⊥)
    plus b l h = (omega arith, λ e. omega arith)

zero_by_zero : div binary32 (of_bits binary32 0) (of_bits binary32 0) ≡ nan
unfolding div of_bits
zero_by_zero = refl

pub none-root : (x : Float) → T (fits binary32 x) → 2139095040 < to_bits binary32 x → (to_bits binary32 x ≡ 2147483648 → ⊥)
    → div binary32 (of_bits binary32 0) (of_bits binary32 0) ≡ sqrt binary32 x
none-root x held lo n = by_pattern x held (λ y. div binary32 (of_bits binary32 0) (of_bits binary32 0) ≡ sqrt binary32 y)
    (zero_by_zero ∙ sym (none-at (to_bits binary32 x) lo (to_bits-lt binary32 x held) n))
