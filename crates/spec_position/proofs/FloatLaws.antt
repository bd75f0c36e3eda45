-- Paper 02, 2.7: the four floats of a position are its four whole numbers, exactly; zero has a plus; they fix the position, and a Write takes them.
-- Assumes nothing.
use Prim.Native.Nat.{ℕ, zero, suc, ◌+◌, ◌*◌, ◌/◌, ◌%◌, ◌^◌, ◌≤◌, ◌<◌}
use mathlib.Core.Path.{◌≡◌, refl, sym, ap, ◌∙◌, subst}
use mathlib.Core.Bool.{Bool, true, false, cond, ◌&&◌}
use mathlib.Core.List.{List, [], ◌∷◌, map}
use native.Mathlib.Nat.{mul-one, mul-zero, le_of_lt, mul-le-mul_right}
use native.Mathlib.Omega.{arith}
use borrow.Author.Tests.{le-leb}
use lib.Dec.{T, leb, le→leb, lt→ltb}
use lib.IntN.{ℤ, pos, negsuc, neg_ℤ, nat_abs, ◌+ℤ◌, ◌*ℤ◌, neg_ℤ-+ℤ}
use lib.Ieee.{Float, nan, inf, fin, binary32, up, down, odd, round, of_fields, of_int, in_float, fits, to_signed, of_bits, to_bits}
use lib.Ieee.Exact.{HasValue}
use lib.Ieee.Fits.{of_int-fits}
use lib.Ieee.Bits.{of_bits-to_bits}
use lib.Ieee.Back.{round_whole, positive_back, negative_back}
use Rattle.spec.specs.Lists.{every}
use Rattle.spec.specs.Nearest.Order.{in_domain, bits_in_domain}
use Rattle.spec.specs.Nearest.Distance.{all_in_domain, vector_in_domain}
use Rattle.spec.specs.Node.Wire as wire
use Rattle.spec_laws.proofs.Lists.{not_both}
use Rattle.spec_position.specs.Positions.{within, is_minus, arcseconds, left_over, numbers_of, floats_of}
use Rattle.spec_position.specs.declared.Position.{Position}
use Rattle.spec_position.proofs.Bounds.{within-sizes, sizes_bounds}

-- ---- one whole number

-- the float x is the whole number z, has a pattern of binary32, and that is not the one of minus zero, 80000000
pub record Exact (z : ℤ) (x : Float) : Type 0 where
  pub value : HasValue x (is_minus z) (nat_abs z) 1
  pub held : T (fits binary32 x)
  pub plus : to_bits binary32 x ≡ 0x80000000 → ⊥

-- small enough that every whole number up to it is a float
abbrev pub Small : ℤ → Type 0
Small z = nat_abs z < 2 ^ 24

whole-value : (z : ℤ) → Small z → HasValue (of_int binary32 z) (is_minus z) (nat_abs z) 1
unfolding of_int
whole-value (pos n) h = round_whole binary32 false n (le_of_lt h)
whole-value (negsuc n) h = round_whole binary32 true (suc n) (le_of_lt h)

minus_zero_lem : of_bits binary32 0x80000000 ≡ fin true 0 (pos 0)
unfolding of_bits of_fields odd
minus_zero_lem = refl

no_minus_zero : (z : ℤ) → HasValue (fin true 0 (pos 0)) (is_minus z) (nat_abs z) 1 → ⊥
no_minus_zero (pos n) v = not_both true refl v.0
no_minus_zero (negsuc n) v = let e : 0 ≡ suc n * 1 = v.1 in omega arith

pub exact_of : (z : ℤ) → Small z → Exact z (of_int binary32 z)
exact_of z h = record {
  value = whole-value z h;
  held = of_int-fits binary32 z;
  plus = λ e. no_minus_zero z (subst (λ (x : Float). HasValue x (is_minus z) (nat_abs z) 1) (same e) (whole-value z h));
}
  where
    same : to_bits binary32 (of_int binary32 z) ≡ 0x80000000 → of_int binary32 z ≡ fin true 0 (pos 0)
    same e = sym (of_bits-to_bits binary32 (of_int binary32 z) (of_int-fits binary32 z)) ∙ ap (of_bits binary32) e ∙ minus_zero_lem

-- the float tells the number
int_back : (z : ℤ) → Small z → to_signed 31 (of_int binary32 z) ≡ z
unfolding in_float
int_back (pos n) h = (positive_back binary32 31 n (le→leb n (2 ^ 24) (le_of_lt h)) (omega arith)).1
int_back (negsuc n) h = (negative_back binary32 31 n (lt→ltb n (2 ^ 24) (omega arith)) (omega arith)).1

same_int_lem : (y z : ℤ) → Small y → Small z → of_int binary32 y ≡ of_int binary32 z → y ≡ z
same_int_lem y z h k e = sym (int_back y h) ∙ ap (to_signed 31) e ∙ int_back z k

-- ---- whole arcseconds and what is left over

size_neg : (n : ℕ) → nat_abs (neg_ℤ (pos n)) ≡ n
size_neg zero = refl
size_neg (suc n) = refl

seconds_size : (z : ℤ) → nat_abs (arcseconds z) ≡ nat_abs z / 1000
seconds_size (pos n) = refl
seconds_size (negsuc n) = size_neg (suc n / 1000)

left-size : (z : ℤ) → nat_abs (left_over z) ≡ nat_abs z % 1000
left-size (pos n) = refl
left-size (negsuc n) = size_neg (suc n % 1000)

times_neg : (k n : ℕ) → pos k *ℤ neg_ℤ (pos n) ≡ neg_ℤ (pos (k * n))
times_neg k zero = ap (λ (x : ℕ). pos x) (mul-zero k) ∙ sym (ap (λ (x : ℕ). neg_ℤ (pos x)) (mul-zero k))
times_neg k (suc n) = refl

divided : (n : ℕ) → 1000 * (n / 1000) + n % 1000 ≡ n
divided n = omega arith

-- a thousand times the first and the second are the number
pub joined : (z : ℤ) → pos 1000 *ℤ arcseconds z +ℤ left_over z ≡ z
joined (pos n) = ap pos (divided n)
joined (negsuc n) =
    ap (λ (x : ℤ). x +ℤ neg_ℤ (pos (suc n % 1000))) (times_neg 1000 (suc n / 1000))
    ∙ sym (neg_ℤ-+ℤ (pos (1000 * (suc n / 1000))) (pos (suc n % 1000)))
    ∙ ap (λ (x : ℕ). neg_ℤ (pos x)) (divided (suc n))

-- ---- the four

-- each of the numbers with the float in its place
abbrev pub Each : (ℤ → Float → Type 0) → List ℤ → List Float → Type 0
Each P [] [] = Unit {0}
Each P [] (x ∷ xs) = ⊥
Each P (z ∷ zs) [] = ⊥
Each P (z ∷ zs) (x ∷ xs) = P z x × Each P zs xs

module _ (p : Position) (w : within p ≡ true) where
  bounds : (nat_abs p.ra ≤ 1295999985) × (nat_abs p.dec ≤ 324000000)
  bounds = (sizes_bounds _ _ _ (sym (within-sizes p) ∙ w)).1

  ra_seconds : Small (arcseconds p.ra)
  ra_seconds = let h = bounds.0 in omega (arith, seconds_size p.ra)

  ra_left : Small (left_over p.ra)
  ra_left = omega (arith, left-size p.ra)

  dec_seconds : Small (arcseconds p.dec)
  dec_seconds = let h = bounds.1 in omega (arith, seconds_size p.dec)

  dec_left : Small (left_over p.dec)
  dec_left = omega (arith, left-size p.dec)

  pub exact : Each Exact (numbers_of p) (floats_of p)
  unfolding floats_of
  exact = (exact_of _ ra_seconds, (exact_of _ ra_left, (exact_of _ dec_seconds, (exact_of _ dec_left, tt))))

pub floats_fix : (p q : Position) → within p ≡ true → within q ≡ true → floats_of p ≡ floats_of q → p ≡ q
unfolding floats_of
floats_fix p q v w e =
    let a : arcseconds p.ra ≡ arcseconds q.ra = same_int_lem _ _ (ra_seconds p v) (ra_seconds q w) (cc) in
    let b : left_over p.ra ≡ left_over q.ra = same_int_lem _ _ (ra_left p v) (ra_left q w) (cc) in
    let c : arcseconds p.dec ≡ arcseconds q.dec = same_int_lem _ _ (dec_seconds p v) (dec_seconds q w) (cc) in
    let d : left_over p.dec ≡ left_over q.dec = same_int_lem _ _ (dec_left p v) (dec_left q w) (cc) in
    λ i. record {
      ra = (sym (joined p.ra) ∙ (λ j. pos 1000 *ℤ a j +ℤ b j) ∙ joined q.ra) i;
      dec = (sym (joined p.dec) ∙ (λ j. pos 1000 *ℤ c j +ℤ d j) ∙ joined q.dec) i;
    }

-- ---- the domain

value_in : (x : Float) (s : Bool) (n : ℕ) → n < 2 ^ 24 → HasValue x s n 1 → in_domain x ≡ true
unfolding in_domain
value_in nan s n h v = absurd v
value_in (inf t) s n h v = absurd v
value_in (fin t m e) s n h v =
    le-leb _ _ (subst (λ (k : ℕ). k ≤ 2 ^ 32 * down e) (sym v.1 ∙ mul-one (m * up e)) (mul-le-mul_right (down e) (omega arith)))

int_in : (z : ℤ) → Small z → in_domain (of_int binary32 z) ≡ true
int_in z h = value_in (of_int binary32 z) (is_minus z) (nat_abs z) h (whole-value z h)

bits_in_lem : (z : ℤ) → Small z → bits_in_domain (to_bits binary32 (of_int binary32 z)) ≡ true
unfolding bits_in_domain
bits_in_lem z h = ap in_domain (of_bits-to_bits binary32 (of_int binary32 z) (of_int-fits binary32 z)) ∙ int_in z h

module _ (p : Position) (w : within p ≡ true) where
  pub in_domain_lem : vector_in_domain (floats_of p) ≡ true
  unfolding vector_in_domain all_in_domain floats_of
  in_domain_lem = rw (int_in (arcseconds p.ra) (ra_seconds p w), int_in (left_over p.ra) (ra_left p w)) (rw (int_in (arcseconds p.dec) (dec_seconds p w), int_in (left_over p.dec) (dec_left p w)) refl)

  -- as a message brings it: a Write of these floats is not refused with 22
  pub wire_in_domain : wire.patterns_in_domain (map wire.bits_of (floats_of p)) ≡ true
  unfolding wire.patterns_in_domain every floats_of
  wire_in_domain = rw (bits_in_lem (arcseconds p.ra) (ra_seconds p w), bits_in_lem (left_over p.ra) (ra_left p w)) (rw (bits_in_lem (arcseconds p.dec) (dec_seconds p w), bits_in_lem (left_over p.dec) (dec_left p w)) refl)
