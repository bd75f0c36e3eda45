-- A signed number of 64 bits as a sign and a size. The machine reads a number back from its bits; where it fits, that is the number. Assumes nothing.
use Prim.Native.Nat.{ℕ, zero, suc, ◌+◌, ◌^◌, ◌<◌, ◌≤◌}
use mathlib.Core.Path.{◌≡◌, refl, sym, ap, ◌∙◌, subst}
use mathlib.Core.Bool.{Bool, true, false, cond}
use native.Mathlib.Nat.{lt_trans, lt_of_le_of_lt, le_refl, le-suc}
use native.Mathlib.Numerals.{add-one}
use native.Mathlib.Omega.{arith}
use borrow.Author.Tests.{ltb-true}
use lib.Dec.{T, lit<}
use lib.IntN.{ℤ, pos, negsuc, neg_ℤ, nat_abs, ◌-ℤ◌, +ℤ_idl, +ℤ_comm, -ℤ_one}
use lib.Signed.{mag, lt_z, non_neg}
use mir.Syntax.{w32, w64}
use mir.Val.{Fits, SFits, to_z, of_z, bool_byte}
use mir.Facts.{to_z-of_z}
use Rattle.spec_position.specs.Positions.{is_minus}

-- a number read back from its bits
abbrev pub read : ℤ → ℤ
read z = to_z w64 (of_z w64 z)

pub clash : {P : Type 0} → false ≡ true → P
clash e = let z : ◌≡◌ {A = ℕ} 0 1 = cc in absurd (omega arith)

-- -1 less a number below zero is one less than its size
under : (z : ℤ) → lt_z z (pos 0) ≡ true → negsuc 0 -ℤ z ≡ pos (mag z)
under (pos n) e = absurd (omega (arith, ltb-true n 0 e))
under (negsuc n) e = +ℤ_comm (negsuc 0) (pos (suc n)) ∙ -ℤ_one (pos (suc n))

minus_of : (z : ℤ) → lt_z z (pos 0) ≡ true → (true ≡ is_minus z) × (mag z + 1 ≡ nat_abs z)
minus_of (pos n) e = absurd (omega (arith, ltb-true n 0 e))
minus_of (negsuc n) e = (refl, add-one n)

plus_of : (z : ℤ) → lt_z z (pos 0) ≡ false → (false ≡ is_minus z) × (T (non_neg z) × (nat_abs z ≡ mag z))
plus_of (pos n) e = (refl, (tt, refl))
plus_of (negsuc n) e = clash (sym e)

module _ (z : ℤ) (f : SFits w64 z) where
  pub back : read z ≡ z
  back = to_z-of_z f

  module _ (t : lt_z (read z) (pos 0) ≡ true) where
    below : lt_z z (pos 0) ≡ true
    below = rw back at t

    less : negsuc 0 -ℤ read z ≡ pos (mag z)
    less = ap (λ (y : ℤ). negsuc 0 -ℤ y) back ∙ under z below

    pub less_fits : SFits w64 (negsuc 0 -ℤ read z)
    less_fits = subst (SFits w64) (sym less) (record { sfits = f.sfits })

    pub less_is : read (negsuc 0 -ℤ read z) ≡ pos (mag z)
    less_is = to_z-of_z less_fits ∙ less

    pub less_cast : T (non_neg (read (negsuc 0 -ℤ read z))) × Fits w64 (nat_abs (read (negsuc 0 -ℤ read z)))
    less_cast = subst (λ (y : ℤ). T (non_neg y) × Fits w64 (nat_abs y)) (sym less_is) (tt, record { fits = lt_trans f.sfits (lit< tt) })

    pub size_fits : Fits w64 (nat_abs (read (negsuc 0 -ℤ read z)) + 1)
    size_fits = subst (λ (y : ℤ). Fits w64 (nat_abs y + 1)) (sym less_is) (let h : mag z < 2 ^ 63 = f.sfits in record { fits = omega arith })

    pub with-minus : (true ≡ is_minus z) × (nat_abs (read (negsuc 0 -ℤ read z)) + 1 ≡ nat_abs z)
    with-minus = ((minus_of z below).0, ap (λ (y : ℤ). nat_abs y + 1) less_is ∙ (minus_of z below).1)

  module _ (t : lt_z (read z) (pos 0) ≡ false) where
    above : lt_z z (pos 0) ≡ false
    above = rw back at t

    pub plus_cast : T (non_neg (read z)) × Fits w64 (nat_abs (read z))
    plus_cast = subst (λ (y : ℤ). T (non_neg y) × Fits w64 (nat_abs y)) (sym back)
        ((plus_of z above).1.0, subst (Fits w64) (sym (plus_of z above).1.1) (record { fits = lt_trans f.sfits (lit< tt) }))

    pub with_plus : (false ≡ is_minus z) × (nat_abs (read z) ≡ nat_abs z)
    with_plus = ((plus_of z above).0, ap nat_abs back)

-- ---- a size of 32 bits, under either sign

pub mag_neg : (n : ℕ) → mag (neg_ℤ (pos n)) ≤ n
mag_neg zero = le_refl 0
mag_neg (suc n) = le-suc n

module _ (n : ℕ) (f : Fits w32 n) where
  wide : SFits w64 (pos n)
  wide = record { sfits = lt_trans f.fits (lit< tt) }

  pub plus_is : to_z w64 n ≡ pos n
  plus_is = to_z-of_z wide

  zero_less : pos 0 -ℤ to_z w64 n ≡ neg_ℤ (pos n)
  zero_less = ap (λ (y : ℤ). pos 0 -ℤ y) plus_is ∙ +ℤ_idl (neg_ℤ (pos n))

  pub negated_fits : SFits w64 (pos 0 -ℤ to_z w64 n)
  negated_fits = subst (SFits w64) (sym zero_less) (record { sfits = lt_of_le_of_lt (mag_neg n) wide.sfits })

  pub negated_is : read (pos 0 -ℤ to_z w64 n) ≡ neg_ℤ (pos n)
  negated_is = to_z-of_z negated_fits ∙ zero_less

-- a sign as a number
pub sign_of : (b : Bool) → bool_byte b ≡ cond b 1 0
sign_of true = refl
sign_of false = refl
