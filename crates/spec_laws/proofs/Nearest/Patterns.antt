-- Patterns of binary32: magnitudes rise with the pattern, and what float a pattern is read as. Assumes nothing.
use mathlib.Core.Path.{◌≡◌, refl, sym, ap, ◌∙◌, subst}
use mathlib.Core.Logic.{◌⊎◌, inl, inr}
use Prim.Native.Nat.{ℕ, zero, suc, ◌+◌, ◌-◌, ◌*◌, ◌/◌, ◌%◌, ◌^◌, ◌≤◌, ◌<◌, zero-le}
use native.Mathlib.Nat.{le_trans, le_of_eq, le_of_lt, lt_of_lt_of_le, not-le_of_lt, eq-or-lt_of_le, mul-one, mul_comm}
use native.Mathlib.Nat.{mul-le-mul_right, mul-lt-mul_of_pos_right, lt_irrefl, lt_of_not-le, le-add_right}
use native.Mathlib.Omega.{arith}
use mathlib.Core.Bool.{Bool, true, false, not, cond}
use lib.Dec.{T, leb, eqb}
use borrow.Author.Tests.{eqb-true, eqb-false, le-ltb, lt-leb}
use lib.Pow.{pow-add, pow_pos, pow_mono, shl_lt}
use lib.Ieee.{Float, nan, inf, fin, binary32, up, down, odd, is_nan, of_fields, of_bits, nan_bits}
use lib.Ieee.Exact.{HasValue, odd_sign}
use lib.Ieee.Bits.{nan_bits_is, nan_bits_above}
use Rattle.spec.specs.Nearest.Root.{rootable}
use Rattle.spec_laws.proofs.Nearest.Tests.{not_of}
use Rattle.spec.specs.Nearest.Order.{units_at, units_of, minus}

-- the infinity's pattern, above all finite ones
abbrev pub top : ℕ
top = 2139095040

-- ---- a finite pattern's units grow with the pattern
same_field : (e t u : ℕ) → t < u → units_at e t < units_at e u
same_field zero t u h = h
same_field (suc x) t u h = mul-lt-mul_of_pos_right (shift t u h) (pow_pos x)
  where
    shift : (t u : ℕ) → t < u → 2 ^ 23 + t < 2 ^ 23 + u
    shift t u h = omega arith

less_field : (e d t u : ℕ) → e < d → t < 2 ^ 23 → units_at e t < units_at d u
less_field e zero t u h T' = absurd (not-le_of_lt h zero-le)
less_field zero (suc y) t u h T' =
    lt_of_lt_of_le T' (le_trans (le-add_right (2 ^ 23) u) (le_of_one (2 ^ 23 + u) (2 ^ y) (pow_pos y)))
  where
    le_of_one : (a p : ℕ) → 0 < p → a ≤ a * p
    le_of_one a p h = le_trans (le_of_eq (sym (mul-one a)))
        (le_trans (le_of_eq (mul_comm a 1)) (le_trans (mul-le-mul_right a h) (le_of_eq (mul_comm p a))))
less_field (suc x) (suc y) t u h T' =
    lt_of_lt_of_le (shl_lt 24 x (full t T'))
    (le_trans (pow_mono {i = 24 + x} {j = 23 + y} (room x y h))
    (le_trans (le_of_eq (pow-add 2 23 y)) (mul-le-mul_right (2 ^ y) (le-add_right (2 ^ 23) u))))
  where
    full : (t : ℕ) → t < 2 ^ 23 → 2 ^ 23 + t < 2 ^ 24
    full t h = omega arith

    room : (x y : ℕ) → suc x < suc y → 24 + x ≤ 23 + y
    room x y h = omega arith

pub units_mono : (r q : ℕ) → r < q → units_of r < units_of q
units_mono r q h = go (eq-or-lt_of_le (fields r q h).0)
  where
    fields : (r q : ℕ) → r < q → (r / 2 ^ 23 ≤ q / 2 ^ 23) × (r / 2 ^ 23 ≡ q / 2 ^ 23 → r % 2 ^ 23 < q % 2 ^ 23)
        × (r % 2 ^ 23 < 2 ^ 23)
    fields r q h = (omega arith, (λ e. omega arith), omega arith)

    go : (r / 2 ^ 23 ≡ q / 2 ^ 23) ⊎ (r / 2 ^ 23 < q / 2 ^ 23) → units_of r < units_of q
    go (inl e) = subst (λ (x : ℕ). units_at (r / 2 ^ 23) (r % 2 ^ 23) < units_at x (q % 2 ^ 23)) e
        (same_field (r / 2 ^ 23) (r % 2 ^ 23) (q % 2 ^ 23) ((fields r q h).1 e))
    go (inr l) = less_field (r / 2 ^ 23) (q / 2 ^ 23) (r % 2 ^ 23) (q % 2 ^ 23) l (fields r q h).2

pub units_back : (r q : ℕ) → units_of r < units_of q → r < q
units_back r q h = lt_of_not-le (λ (g : q ≤ r). go (eq-or-lt_of_le g))
  where
    go : (q ≡ r) ⊎ (q < r) → ⊥
    go (inl e) = lt_irrefl (units_of r) (subst (λ (x : ℕ). units_of r < units_of x) e h)
    go (inr l) = not-le_of_lt h (le_of_lt (units_mono q r l))

-- ---- what a float is by its sign and its pattern without the sign
abbrev pub Val : Float → ℕ → Type 0
Val nan r = ⊥
Val (inf t) r = r ≡ top
Val (fin t m e) r = (r < top) × (m * up e * 2 ^ 149 ≡ units_of r * down e)

-- ---- what is read from a pattern
read_odd : (s : Bool) (q k r : ℕ) → r < top → q * 2 ^ k ≡ units_of r → Val (odd 24 s q k 149) r
    × (minus (odd 24 s q k 149) ≡ s)
read_odd s q k r h e = go (odd 24 s q k 149) (odd_sign 24 s q k 149)
  where
    go : (v : Float) → HasValue v s (q * 2 ^ k) (2 ^ 149) → Val v r × (minus v ≡ s)
    go (fin t m x) p = ((h, p.1 ∙ ap (λ (z : ℕ). z * down x) e), p.0)
    go nan p = elim p [ ]
    go (inf _) p = elim p [ ]

abbrev pub Reads : Float → Bool → ℕ → Type 0
Reads v s r = Val v r × (minus v ≡ s)

read_fields : (s : Bool) (e t r : ℕ) → r / 2 ^ 23 ≡ e → r % 2 ^ 23 ≡ t → r < 2 ^ 31
    → T (not (is_nan (of_fields binary32 s e t))) → Reads (of_fields binary32 s e t) s r
unfolding of_fields
read_fields s zero t r p q l n =
    read_odd s t 0 r (low' r p) (mul-one t ∙ sym (ap (λ (z : ℕ). units_at z (r % 2 ^ 23)) p ∙ q))
  where
    low' : (r : ℕ) → r / 2 ^ 23 ≡ 0 → r < top
    low' r p = omega arith
read_fields s (suc x) t r p q l n = go (eqb (suc x) 255) refl (eqb t 0) refl n
  where
    at_top : (r x t : ℕ) → r / 2 ^ 23 ≡ x → r % 2 ^ 23 ≡ t → x ≡ 255 → t ≡ 0 → r ≡ top
    at_top r x t a b c d = omega arith

    under : (r x : ℕ) → r < 2 ^ 31 → r / 2 ^ 23 ≡ x → (x ≡ 255 → ⊥) → r < top
    under r x a b c = omega arith

    go : (b : Bool) → eqb (suc x) 255 ≡ b → (c : Bool) → eqb t 0 ≡ c
        → T (not (is_nan (cond b (cond c (inf s) nan) (odd 24 s (2 ^ 23 + t) x 149))))
        → Reads (cond b (cond c (inf s) nan) (odd 24 s (2 ^ 23 + t) x 149)) s r
    go true a true b m = (at_top r (suc x) t p q (eqb-true (suc x) 255 a) (eqb-true t 0 b), refl)
    go true a false b m = absurd (unfold is_nan in m)
    go false a c b m = read_odd s (2 ^ 23 + t) x r (under r (suc x) l p (eqb-false (suc x) 255 a))
        (sym (ap (λ (z : ℕ). units_at z (r % 2 ^ 23)) p ∙ ap (λ (z : ℕ). (2 ^ 23 + z) * 2 ^ x) q))

pub of_bits_is : (b : ℕ) → of_bits binary32 b ≡ of_fields binary32 (leb (2 ^ 31) b) (b % 2 ^ 31 / 2 ^ 23) (b % 2 ^ 23)
unfolding of_bits
of_bits_is b = refl

pub reads : (b : ℕ) → T (not (is_nan (of_bits binary32 b))) → Reads (of_bits binary32 b) (leb (2 ^ 31) b) (b % 2 ^ 31)
reads b n =
    subst (λ (v : Float). Reads v (leb (2 ^ 31) b) (b % 2 ^ 31)) (sym (of_bits_is b))
    (read_fields (leb (2 ^ 31) b) (b % 2 ^ 31 / 2 ^ 23) (b % 2 ^ 23) (b % 2 ^ 31) refl (low' b) (less b)
    (subst (λ (v : Float). T (not (is_nan v))) (of_bits_is b) n))
  where
    low' : (b : ℕ) → b % 2 ^ 31 % 2 ^ 23 ≡ b % 2 ^ 23
    low' b = omega arith

    less : (b : ℕ) → b % 2 ^ 31 < 2 ^ 31
    less b = omega arith

-- a pattern below the infinity's is a finite float with a plus sign
number-bits : (b : ℕ) → b < top → nan_bits binary32 b ≡ false
number-bits b h = nan_bits_above binary32 b ∙ le-ltb top (b % 2 ^ 31) (low' b h)
  where
    low' : (b : ℕ) → b < top → b % 2 ^ 31 ≤ top
    low' b h = omega arith

pub number_pattern : (b : ℕ) → b < top → T (not (nan_bits binary32 b))
number_pattern b h = not_of (nan_bits binary32 b) (number-bits b h)

pub plus_pattern : (b : ℕ) → b < top → T (rootable (of_bits binary32 b))
plus_pattern b h =
    go (of_bits binary32 b) (reads b
    (not_of (is_nan (of_bits binary32 b)) (sym (nan_bits_is binary32 b) ∙ number-bits b h)))
  where
    finite : b % 2 ^ 31 ≡ top → ⊥
    finite e = omega arith

    plus : leb (2 ^ 31) b ≡ false
    plus = lt-leb (2 ^ 31) b (omega arith)

    go : (v : Float) → Reads v (leb (2 ^ 31) b) (b % 2 ^ 31) → T (rootable v)
    go nan r = absurd r.0
    go (inf s) r = absurd (finite r.0)
    go (fin true m e) r = absurd (subst T (r.1 ∙ plus) tt)
    go (fin false m e) r = tt
