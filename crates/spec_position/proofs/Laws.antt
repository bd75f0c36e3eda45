-- Paper 02, 2.7, as laws of the definitions: fields in range and positions within the bounds whose right ascension has whole thousandths of seconds
-- are one to one, and each refusal comes exactly when it is due. Assumes nothing.
use Prim.Native.Nat.{ℕ, zero, suc, ◌+◌, ◌*◌, ◌/◌, ◌%◌, ◌≤◌, ◌<◌}
use mathlib.Core.Path.{◌≡◌, refl, sym, ap, ◌∙◌, subst}
use mathlib.Core.Bool.{Bool, true, false, cond, not}
use native.Mathlib.Omega.{arith}
use borrow.Author.Tests.{eqb-true, eqb-false, eq-eqb, leb-true, le-leb}
use lib.Dec.{leb, eqb}
use lib.IntN.{ℤ, pos, negsuc, neg_ℤ, nat_abs}
use Rattle.spec.specs.Lists.{◌and◌}
use Rattle.spec_laws.proofs.Lists.{not_both, and_true}
use Rattle.spec_position.specs.Positions.{Turned, turned, out_of_range, no_thousandth, number_of, thousandths_of, dec_size, in_range, within, signed_by, position_of, is_minus, fields_by, fields_of, has_thousandth, to_position, to_fields, to_vector, floats_of}
use Rattle.spec_position.specs.Sizes.{sizes_within}
use Rattle.spec_position.specs.declared.Fields.{Fields}
use Rattle.spec_position.specs.declared.Position.{Position}
use Rattle.spec_position.proofs.FieldLaws.{ra_size, InRange, in_facts, facts_in}
use Rattle.spec_position.proofs.Bounds.{within-sizes, sizes_bounds}

-- ---- sizes in sixtieths

-- a whole, its minutes and thousandths are found again
module _ (a b c : ℕ) (h : b ≤ 59) (k : c ≤ 59999) where
  whole_back : thousandths_of a b c / 3600000 ≡ a
  whole_back = omega arith

  minutes_back : thousandths_of a b c / 60000 % 60 ≡ b
  minutes_back = omega arith

  thousandths_back : thousandths_of a b c % 60000 ≡ c
  thousandths_back = omega arith

parts_of : (n : ℕ) → thousandths_of (n / 3600000) (n / 60000 % 60) (n % 60000) ≡ n
parts_of n = omega arith

times-back : (n : ℕ) → n * 15 / 15 ≡ n
times-back n = omega arith

times-whole : (n : ℕ) → n * 15 % 15 ≡ 0
times-whole n = omega arith

-- ---- signs

-- at most 1, and at most the size: such a sign is found again
sign-back : (m n : ℕ) → m ≤ 1 → m ≤ n → cond (is_minus (signed_by m n)) 1 0 ≡ m
sign-back zero n h k = refl
sign-back (suc zero) zero h k = absurd (omega arith)
sign-back (suc zero) (suc n) h k = refl
sign-back (suc (suc m)) n h k = absurd (omega arith)

size_back : (m n : ℕ) → nat_abs (signed_by m n) ≡ n
size_back zero n = refl
size_back (suc m) zero = refl
size_back (suc m) (suc n) = refl

signed_back : (z : ℤ) → signed_by (cond (is_minus z) 1 0) (nat_abs z) ≡ z
signed_back (pos n) = refl
signed_back (negsuc n) = refl

sign-one : (b : Bool) → cond b 1 0 ≤ 1
sign-one true = omega arith
sign-one false = omega arith

sign_below : (z : ℤ) → cond (is_minus z) 1 0 ≤ nat_abs z
sign_below (pos n) = omega arith
sign_below (negsuc n) = omega arith

bounds_sizes : (r s : ℕ) → r ≤ 1295999985 → s ≤ 324000000 → sizes_within false r s ≡ true
unfolding sizes_within ◌and◌
bounds_sizes r s h k = and_true _ _ (le-leb _ _ h) (le-leb _ _ k)

-- ---- fields to a position and back

module _ (f : Fields) (r : InRange f) where
  time_back : ra_size f / 15 ≡ thousandths_of f.hours f.minutes f.thousandths
  time_back = times-back (thousandths_of f.hours f.minutes f.thousandths)

  same_fields : fields_of (position_of f) ≡ f
  unfolding fields_of position_of
  same_fields = λ i. record {
    hours = (ap (λ (n : ℕ). n / 3600000) time_back ∙ whole_back _ _ _ r.minutes r.thousandths) i;
    minutes = (ap (λ (n : ℕ). n / 60000 % 60) time_back ∙ minutes_back f.hours _ _ r.minutes r.thousandths) i;
    thousandths = (ap (λ (n : ℕ). n % 60000) time_back ∙ thousandths_back f.hours f.minutes _ r.minutes r.thousandths) i;
    minus = sign-back f.minus (dec_size f) r.sign r.zero i;
    degrees = (ap (λ (n : ℕ). n / 3600000) (size_back f.minus (dec_size f)) ∙ whole_back _ _ _ r.arcminutes r.arcthousandths) i;
    arcminutes =
        (ap (λ (n : ℕ). n / 60000 % 60) (size_back f.minus (dec_size f)) ∙ minutes_back f.degrees _ _ r.arcminutes r.arcthousandths) i;
    arcthousandths =
        (ap (λ (n : ℕ). n % 60000) (size_back f.minus (dec_size f)) ∙ thousandths_back f.degrees f.arcminutes _ r.arcminutes r.arcthousandths) i;
  }

-- what fields reach lies within the bounds
pub placed-within : (f : Fields) → in_range f ≡ true → within (position_of f) ≡ true
unfolding position_of
placed-within f e =
    let r = in_facts f e in
    within-sizes (position_of f)
    ∙ ap (sizes_within false (ra_size f)) (size_back f.minus (dec_size f))
    ∙ bounds_sizes (ra_size f) (dec_size f) (omega arith) r.size

pub placed_thousandth : (f : Fields) → has_thousandth (position_of f) ≡ true
unfolding position_of
placed_thousandth f = eq-eqb _ _ (times-whole (thousandths_of f.hours f.minutes f.thousandths))

pub there_and_back : (f : Fields) → in_range f ≡ true → to_fields (position_of f) ≡ turned f
unfolding to_fields
there_and_back f e = rw (placed-within f e) (rw (placed_thousandth f) (ap turned (same_fields f (in_facts f e))))

-- ---- and from a position

module _ (p : Position) (w : within p ≡ true) (t : has_thousandth p ≡ true) where
  facts : (is_minus p.ra ≡ false) × ((nat_abs p.ra ≤ 1295999985) × (nat_abs p.dec ≤ 324000000))
  facts = sizes_bounds _ _ _ (sym (within-sizes p) ∙ w)

  -- each bound of the fields, from the sizes
  fields_in : InRange (fields_of p)
  unfolding fields_of
  fields_in =
      let h = facts.1.0 in
      let k = facts.1.1 in
      record {
        hours = omega arith;
        minutes = omega arith;
        thousandths = omega arith;
        degrees = omega arith;
        arcminutes = omega arith;
        arcthousandths = omega arith;
        size = subst (λ (n : ℕ). n ≤ 324000000) (sym (parts_of (nat_abs p.dec))) k;
        sign = sign-one (is_minus p.dec);
        zero = subst (λ (n : ℕ). cond (is_minus p.dec) 1 0 ≤ n) (sym (parts_of (nat_abs p.dec))) (sign_below p.dec);
      }

  same_ra : (z : ℤ) → is_minus z ≡ false → nat_abs z % 15 ≡ 0 → pos (nat_abs z / 15 * 15) ≡ z
  same_ra (pos n) m e = ap pos (omega arith)
  same_ra (negsuc n) m e = not_both true refl m

  same_place : position_of (fields_of p) ≡ p
  unfolding position_of fields_of
  same_place = λ i. record {
    ra = (ap (λ (n : ℕ). pos (n * 15)) (parts_of (nat_abs p.ra / 15)) ∙ same_ra p.ra facts.0 (eqb-true _ _ t)) i;
    dec = (ap (signed_by (cond (is_minus p.dec) 1 0)) (parts_of (nat_abs p.dec)) ∙ signed_back p.dec) i;
  }

  pub back_and_there : to_position (fields_of p) ≡ turned p
  unfolding to_position
  back_and_there = rw (facts_in (fields_of p) fields_in) (ap turned same_place)

  -- so every such position is reached
  pub reached : (in_range (fields_of p) ≡ true) × (position_of (fields_of p) ≡ p)
  reached = (facts_in (fields_of p) fields_in, same_place)
