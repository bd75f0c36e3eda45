-- Fields in range, as facts of numbers: the test and the facts are one. Assumes nothing.
use Prim.Native.Nat.{ℕ, ◌*◌, ◌≤◌}
use mathlib.Core.Path.{◌≡◌, refl, sym, ap}
use mathlib.Core.Bool.{Bool, true, false, cond, not}
use native.Mathlib.Omega.{arith}
use borrow.Author.Tests.{leb-true, le-leb, eqb-true, eqb-false, eq-eqb, ne_eqb, not-true}
use lib.Dec.{leb, eqb}
use Rattle.spec.specs.Lists.{◌and◌}
use Rattle.spec_laws.proofs.Lists.{and_true, and_left, and_right}
use Rattle.spec_position.specs.Positions.{thousandths_of, dec_size, ra_in, dec_in, sign_in, in_range}
use Rattle.spec_position.specs.declared.Fields.{Fields}

-- the right ascension of fields, in milliarcseconds
abbrev pub ra_size : Fields → ℕ
ra_size f = thousandths_of f.hours f.minutes f.thousandths * 15

-- `minus` is at most 1, and at most the size: no minus before zero
pub record InRange (f : Fields) : Type 0 where
  pub hours : f.hours ≤ 23
  pub minutes : f.minutes ≤ 59
  pub thousandths : f.thousandths ≤ 59999
  pub degrees : f.degrees ≤ 90
  pub arcminutes : f.arcminutes ≤ 59
  pub arcthousandths : f.arcthousandths ≤ 59999
  pub size : dec_size f ≤ 324000000
  pub sign : f.minus ≤ 1
  pub zero : f.minus ≤ dec_size f

abbrev sign_of : ℕ → ℕ → Bool
sign_of m s = cond (eqb m 0) true (eqb m 1 and not (eqb s 0))

sign_facts : (m s : ℕ) → sign_of m s ≡ true → (m ≤ 1) × (m ≤ s)
sign_facts m s = go (eqb m 0) refl
  where
    go : (b : Bool) → eqb m 0 ≡ b → cond b true (eqb m 1 and not (eqb s 0)) ≡ true → (m ≤ 1) × (m ≤ s)
    go true p e = let z = eqb-true m 0 p in (omega arith, omega arith)
    go false p e =
        let z = eqb-true m 1 (and_left _ _ e) in
        let y = eqb-false s 0 (not-true _ (and_right (eqb m 1) _ e)) in
        (omega arith, omega arith)

facts_sign : (m s : ℕ) → m ≤ 1 → m ≤ s → sign_of m s ≡ true
facts_sign m s h k = go (eqb m 0) refl
  where
    go : (b : Bool) → eqb m 0 ≡ b → cond b true (eqb m 1 and not (eqb s 0)) ≡ true
    go true p = refl
    go false p =
        let y = eqb-false m 0 p in
        and_true _ _ (eq-eqb m 1 (omega arith)) (ap not (ne_eqb s 0 (λ z. omega arith)))

module _ (f : Fields) where
  pub in_facts : in_range f ≡ true → InRange f
  unfolding in_range ra_in dec_in sign_in
  in_facts e =
      let a = and_left _ _ e in
      let b = and_left _ _ (and_right (ra_in f) _ e) in
      let c = sign_facts _ _ (and_right (dec_in f) _ (and_right (ra_in f) _ e)) in
      let b1 = and_right (leb f.degrees 90) _ b in
      let b2 = and_right (leb f.arcminutes 59) _ b1 in
      record {
        hours = leb-true _ _ (and_left _ _ a);
        minutes = leb-true _ _ (and_left _ _ (and_right (leb f.hours 23) _ a));
        thousandths = leb-true _ _ (and_right (leb f.minutes 59) _ (and_right (leb f.hours 23) _ a));
        degrees = leb-true _ _ (and_left _ _ b);
        arcminutes = leb-true _ _ (and_left _ _ b1);
        arcthousandths = leb-true _ _ (and_left _ _ b2);
        size = leb-true _ _ (and_right (leb f.arcthousandths 59999) _ b2);
        sign = c.0;
        zero = c.1;
      }

  pub facts_in : InRange f → in_range f ≡ true
  unfolding in_range ra_in dec_in sign_in
  facts_in r =
      and_true _ _
      (and_true _ _ (le-leb _ _ r.hours) (and_true _ _ (le-leb _ _ r.minutes) (le-leb _ _ r.thousandths)))
      (and_true _ _
      (and_true _ _ (le-leb _ _ r.degrees)
      (and_true _ _ (le-leb _ _ r.arcminutes) (and_true _ _ (le-leb _ _ r.arcthousandths) (le-leb _ _ r.size))))
      (facts_sign f.minus (dec_size f) r.sign r.zero))

  pub not_in_lem : (InRange f → ⊥) → in_range f ≡ false
  not_in_lem n = go (in_range f) refl
    where
      go : (b : Bool) → in_range f ≡ b → b ≡ false
      go true e = absurd (n (in_facts e))
      go false e = refl
