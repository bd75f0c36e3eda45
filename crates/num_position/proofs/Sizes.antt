-- A position and its sizes: how they are read, and what the calls answer by them. Assumes nothing.
use Prim.Native.Nat.{ℕ, ◌/◌, ◌%◌, ◌≤◌}
use mathlib.Core.Path.{◌≡◌, refl, sym, ap, ◌∙◌, subst}
use mathlib.Core.Bool.{Bool, true, false, cond}
use mathlib.Core.List.{List, [], ◌∷◌}
use native.Mathlib.Omega.{arith}
use borrow.Author.Tests.{eq-eqb, ne_eqb}
use lib.IntN.{ℤ, pos, negsuc, neg_ℤ, nat_abs}
use lib.Ieee.{Float, binary32, of_int}
use mir.Syntax.{w32, w64}
use mir.Val.{Fits, SFits}
use Rattle.spec_position.specs.Positions.{turned, out_of_range, no_thousandth, within, is_minus, fields_by, fields_of, floats_of, arcseconds, left_over, to_fields, to_vector}
use Rattle.spec_position.specs.Sizes.{sizes_within}
use Rattle.spec_position.specs.declared.Position.{Position}
use Rattle.spec_position.proofs.Bounds.{within-sizes, sizes_bounds}
use Rattle.num_position.specs.Sizes.{sizes_of, sized_of}
use Rattle.num_position.specs.declared.signed.Signed.{Signed}
use Rattle.num_position.specs.declared.signed.Sizes.{Sizes}
use Rattle.std.specs.Prelude.{Some, None}
use Rattle.num_position.proofs.SignedLaws.{read, back}

-- ---- of sizes that were read

pub record Bounds (s : Sizes) : Type 0 where
  pub ra : s.ra ≤ 1295999985
  pub dec : s.dec ≤ 324000000

module _ (m : Bool) (r s : ℕ) (b : Bool) (t : b ≡ sizes_within m r s) (e : b ≡ true) where
  pub ra_fits : Fits w32 r
  ra_fits = let h = (sizes_bounds m r s (sym t ∙ e)).1.0 in omega arith

  pub dec_fits : Fits w32 s
  dec_fits = let h = (sizes_bounds m r s (sym t ∙ e)).1.1 in omega arith

module _ (p : Position) (fa : SFits w64 p.ra) (fd : SFits w64 p.dec) (a d : Signed)
    (ea : (a.minus ≡ is_minus (read p.ra)) × (a.size ≡ nat_abs (read p.ra)))
    (ed : (d.minus ≡ is_minus (read p.dec)) × (d.size ≡ nat_abs (read p.dec)))
    (b : Bool) (t : b ≡ sizes_within a.minus a.size d.size) where
  minus_is : a.minus ≡ is_minus p.ra
  minus_is = ea.0 ∙ ap is_minus (back p.ra fa)

  ra_is : a.size ≡ nat_abs p.ra
  ra_is = ea.1 ∙ ap nat_abs (back p.ra fa)

  sign-is : d.minus ≡ is_minus p.dec
  sign-is = ed.0 ∙ ap is_minus (back p.dec fd)

  dec_is : d.size ≡ nat_abs p.dec
  dec_is = ed.1 ∙ ap nat_abs (back p.dec fd)

  is_within : within p ≡ b
  is_within = within-sizes p ∙ sym (t ∙ rw (minus_is, ra_is, dec_is) refl)

  pub sized-out : b ≡ false → None ≡ sized_of p
  unfolding sized_of
  sized-out e = rw (is_within ∙ e) refl

  pub sized_in : b ≡ true → Some (record { ra = a.size; minus = d.minus; dec = d.size }) ≡ sized_of p
  unfolding sized_of
  sized_in e = rw (is_within ∙ e) (rw (ra_is, sign-is, dec_is) refl)

-- ---- of a position whose sizes are known

module _ (p : Position) where
  out_of : sized_of p ≡ None → within p ≡ false
  unfolding sized_of
  out_of = go (within p)
    where
      go : (b : Bool) → cond b (Some (sizes_of p)) None ≡ None → b ≡ false
      go true e = let z : ◌≡◌ {A = ℕ} 0 1 = cc in absurd (omega arith)
      go false e = refl

  pub in_of : (s : Sizes) → sized_of p ≡ Some s → (within p ≡ true) × (sizes_of p ≡ s)
  unfolding sized_of
  in_of s = go (within p)
    where
      go : (b : Bool) → cond b (Some (sizes_of p)) None ≡ Some s → (b ≡ true) × (sizes_of p ≡ s)
      go true e = (refl, cc)
      go false e = let z : ◌≡◌ {A = ℕ} 0 1 = cc in absurd (omega arith)

  pub bounds : (s : Sizes) → sized_of p ≡ Some s → Bounds s
  bounds s e =
      let h = (sizes_bounds _ _ _ (sym (within-sizes p) ∙ (in_of s e).0)).1 in
      subst Bounds (in_of s e).1 (record { ra = h.0; dec = h.1 })

  pub not_fielded : sized_of p ≡ None → out_of_range ≡ to_fields p
  unfolding to_fields
  not_fielded e = rw (out_of e) refl

  pub not_vectored : sized_of p ≡ None → out_of_range ≡ to_vector p
  unfolding to_vector
  not_vectored e = rw (out_of e) refl

  pub no_thousandth_lem : (s : Sizes) → sized_of p ≡ Some s → (s.ra % 15 ≡ 0 → ⊥) → no_thousandth ≡ to_fields p
  unfolding to_fields
  no_thousandth_lem s e n =
      let k : nat_abs p.ra % 15 ≡ 0 → ⊥ = λ z. n (ap (λ (x : Sizes). x.ra % 15) (sym (in_of s e).1) ∙ z) in
      rw (in_of s e).0 (rw (ne_eqb _ _ k) refl)

  pub fielded_as : (s : Sizes) → sized_of p ≡ Some s → s.ra % 15 ≡ 0 → turned (fields_by (s.ra / 15) s.minus s.dec) ≡ to_fields p
  unfolding to_fields fields_of
  fielded_as s e z =
      let k : nat_abs p.ra % 15 ≡ 0 = ap (λ (x : Sizes). x.ra % 15) (in_of s e).1 ∙ z in
      rw (in_of s e).0 (rw (eq-eqb _ _ k) (ap (λ (x : Sizes). turned (fields_by (x.ra / 15) x.minus x.dec)) (sym (in_of s e).1)))

-- ---- floats

-- a whole number under a sign
abbrev pub float_by : Bool → ℕ → Float
float_by minus n = of_int binary32 (cond minus (neg_ℤ (pos n)) (pos n))

seconds_by : (z : ℤ) → arcseconds z ≡ cond (is_minus z) (neg_ℤ (pos (nat_abs z / 1000))) (pos (nat_abs z / 1000))
seconds_by (pos n) = refl
seconds_by (negsuc n) = refl

left_by : (z : ℤ) → left_over z ≡ cond (is_minus z) (neg_ℤ (pos (nat_abs z % 1000))) (pos (nat_abs z % 1000))
left_by (pos n) = refl
left_by (negsuc n) = refl

-- the floats by sizes
abbrev pub floats_by : Sizes → List Float
floats_by s = float_by false (s.ra / 1000) ∷ float_by false (s.ra % 1000) ∷ float_by s.minus (s.dec / 1000) ∷ float_by s.minus (s.dec % 1000) ∷ []

module _ (p : Position) where
  pub plus : within p ≡ true → is_minus p.ra ≡ false
  plus w = (sizes_bounds _ _ _ (sym (within-sizes p) ∙ w)).0

  floats-by : within p ≡ true → floats_of p ≡ floats_by (sizes_of p)
  unfolding floats_of
  floats-by w = rw (seconds_by p.ra, left_by p.ra, seconds_by p.dec, left_by p.dec) (rw (plus w) refl)

  pub vectored_as : (s : Sizes) → sized_of p ≡ Some s → turned (floats_by s) ≡ to_vector p
  unfolding to_vector
  vectored_as s e = rw (in_of p s e).0 (sym (ap turned (floats-by (in_of p s e).0 ∙ ap floats_by (in_of p s e).1)))
