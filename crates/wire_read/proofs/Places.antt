-- The parts of a message at their places: how far they reach, and what is shown of them. Assumes nothing.
use Rattle.std.proofs.Common.{◌≡◌, ℕ, zero, suc, ◌+◌, ◌-◌, ◌*◌, ◌≤◌, Bool, true, false, eqb, List, [], length, get_or, take, drop, sym, refl, ap, ◌∙◌, arith, length-drop, drop_of_length-le, length-take-le, take_all, eq-eqb, ne_eqb, eqb-true, leb-true}
use lib.Seq.{take-nil}
use Rattle.spec.specs.declared.Metric.TheVariants.{Angular}
use borrow.Author.Tests.{eqb-false}
use Rattle.spec.specs.Layout.Format.{Format, code, text, ◌▸◌, many, either, fits, next, value, value_n, fits_n, number_at}
use Rattle.spec.specs.Layout.Parts.{u64, u32, key_f, vector_f, op_f, entry_f, metric_of, op_of, key_of}
use Rattle.spec_laws.proofs.Wire.Tests.{and_left, and_right}
use Rattle.wire_read.specs.Shown.{part, key_shown, op_shown}
use Rattle.wire_read.specs.declared.OpPart.TheVariants.{Upsert, Delete}
use Rattle.wire_shape.proofs.Skips.{fixed_next, fixed_fits, count_byte}

module _ {A : Type 0} where
  pub length-value_n : (val : ℕ → A) (step : ℕ → ℕ) (n at : ℕ) → length (value_n val step n at) ≡ n
  length-value_n val step zero at = refl
  length-value_n val step (suc n) at = ap suc (length-value_n val step n (step at))

-- a text that stands at a position is as long as its length byte says
pub text-length : (c : ℕ) (s : List ℕ) (at : ℕ) → fits (text c) s at ≡ true → length (value (text c) s at) ≡ get_or s at 0
text-length c s at e =
    let l : at + 1 + c ≤ length s = leb-true _ _ (and_left _ _ e) in
    let k : get_or s at 0 ≤ c = leb-true _ _ (and_left _ _ (and_right _ _ e)) in
    length-take-le (get_or s at 0) (drop (at + 1) s) (rw length-drop (omega arith))

-- a count of one byte, and as many items
pub count-length : (lo hi : ℕ) (f : Format) (s : List ℕ) (at : ℕ) → length (value (many 1 lo hi f) s at) ≡ get_or s at 0
count-length lo hi f s at = length-value_n (value f s) (next f s) (number_at 1 s at) (at + 1) ∙ count_byte s at

module _ (s : List ℕ) (at : ℕ) where
  pub key-room : fits key_f s at ≡ true → at + 1 + 32 + 4 ≤ length s
  key-room e = leb-true _ _ (and_right _ _ e)

  pub list-room : (lo hi : ℕ) (f : Format) → fits (many 1 lo hi f) s at ≡ true → at + 1 ≤ length s
  list-room lo hi f e = leb-true _ _ (and_left _ _ e)

  pub key-is : fits key_f s at ≡ true → record { name = part (at + 1) (get_or s at 0); shard = number_at 4 s (at + 1 + 32) } ≡ key_shown at (key_of (value key_f s at))
  key-is e = rw (text-length 32 s at (and_left _ _ e))

-- ---- one of two, at its place

module _ (t : ℕ) (f g : Format) (s : List ℕ) (at : ℕ) where
  pub first_fits : fits (either t f g) s at ≡ true → get_or s at 0 ≡ t → fits f s (at + 1) ≡ true
  first_fits e h = rw (eq-eqb _ _ h) at (and_right _ _ e)

  pub second_fits : fits (either t f g) s at ≡ true → (get_or s at 0 ≡ t → ⊥) → fits g s at ≡ true
  second_fits e h = rw (ne_eqb _ _ h) at (and_right _ _ e)

  pub first_next : get_or s at 0 ≡ t → next f s (at + 1) ≡ next (either t f g) s at
  first_next h = rw (eq-eqb _ _ h)

  pub second-next : (get_or s at 0 ≡ t → ⊥) → next g s at ≡ next (either t f g) s at
  second-next h = rw (ne_eqb _ _ h)

module _ (s : List ℕ) (at : ℕ) (e : fits op_f s at ≡ true) where
  pub op-there : at + 1 ≤ length s
  op-there = leb-true _ _ (and_left _ _ e)

  pub upsert_count : get_or s at 0 ≡ 1 → at + 1 + 8 + 1 ≤ length s
  upsert_count h = leb-true _ _ (and_left _ _ (and_right _ _ (first_fits 1 (u64 ▸ vector_f) (code 2 ▸ u64) s at e h)))

  -- the components are there
  pub upsert_room : get_or s at 0 ≡ 1 → at + 1 + 8 + 1 + get_or s (at + 1 + 8) 0 * 4 ≤ length s
  upsert_room h =
      let v = and_right _ _ (first_fits 1 (u64 ▸ vector_f) (code 2 ▸ u64) s at e h) in
      let n = number_at 1 s (at + 1 + 8) in
      let f : fits_n (fits u32 s) (next u32 s) n (at + 1 + 8 + 1) ≡ true = and_right _ _ (and_right _ _ (and_right _ _ v)) in
      let l : at + 1 + 8 + 1 + n * 4 ≤ length s = leb-true _ _ (sym (fixed_fits s 4 n (at + 1 + 8 + 1) (upsert_count h)) ∙ f) in
      omega arith

  pub delete_room : (get_or s at 0 ≡ 1 → ⊥) → at + 1 + 8 ≤ length s
  delete_room h = leb-true _ _ (and_right _ _ (second_fits 1 (u64 ▸ vector_f) (code 2 ▸ u64) s at e h))

  op_room' : (b : Bool) → eqb (get_or s at 0) 1 ≡ b → at + 1 + 8 ≤ length s
  op_room' true h = let l = upsert_count (eqb-true _ _ h) in omega arith
  op_room' false h = delete_room (eqb-false _ _ h)

  -- code and id are there
  pub op_room : at + 1 + 8 ≤ length s
  op_room = op_room' (eqb (get_or s at 0) 1) refl

module _ (s : List ℕ) (at : ℕ) where
  pub upsert_is : get_or s at 0 ≡ 1 → Upsert (number_at 8 s (at + 1)) (part (at + 1 + 8 + 1) (get_or s (at + 1 + 8) 0)) ≡ op_shown at (op_of (value op_f s at))
  upsert_is h =
      rw (eq-eqb _ _ h) (ap (λ (n : ℕ). Upsert (number_at 8 s (at + 1)) (part (at + 1 + 8 + 1) n)) (sym (count-length 1 32 u32 s (at + 1 + 8))))

  pub delete_is : (get_or s at 0 ≡ 1 → ⊥) → Delete (number_at 8 s (at + 1)) ≡ op_shown at (op_of (value op_f s at))
  delete_is h = rw (ne_eqb _ _ h)

  pub upsert_next : get_or s at 0 ≡ 1 → at + 1 + 8 + 1 + get_or s (at + 1 + 8) 0 * 4 ≡ next op_f s at
  upsert_next h =
      ap (λ (n : ℕ). at + 1 + 8 + 1 + n * 4) (sym (count_byte s (at + 1 + 8)))
      ∙ sym (fixed_next s 4 (number_at 1 s (at + 1 + 8)) (at + 1 + 8 + 1))
      ∙ first_next 1 (u64 ▸ vector_f) (code 2 ▸ u64) s at h

  pub delete_next : (get_or s at 0 ≡ 1 → ⊥) → at + 1 + 8 ≡ next op_f s at
  delete_next h = second-next 1 (u64 ▸ vector_f) (code 2 ▸ u64) s at h

  pub entry-fits : fits entry_f s at ≡ true → fits op_f s (at + 8 + 8) ≡ true
  entry-fits e = and_right _ _ (and_right _ _ e)

  pub entry-room : fits entry_f s at ≡ true → at + 8 + 8 ≤ length s
  entry-room e = leb-true _ _ (and_left _ _ (and_right _ _ e))

-- ---- a part of the bytes

pub past : (s : List ℕ) (at n : ℕ) → length s ≤ at → ◌≡◌ {A = List ℕ} [] (take n (drop at s))
past s at n h = rw (drop_of_length-le s h) (sym (take-nil n))

pub short : (s : List ℕ) (at n : ℕ) → length s ≤ at + n → take (length s - at) (drop at s) ≡ take n (drop at s)
short s at n h =
    take_all (length s - at) (drop at s) (rw length-drop (omega arith)) ∙ sym (take_all n (drop at s) (rw length-drop (omega arith)))

pub inside : (s : List ℕ) (at n : ℕ) → take (at + n - at) (drop at s) ≡ take n (drop at s)
inside s at n = let e : at + n - at ≡ n = omega arith in ap (λ (m : ℕ). take m (drop at s)) e

-- a metric's code other than 0
pub angular : (n : ℕ) → (n ≡ 0 → ⊥) → Angular ≡ metric_of n
angular zero h = absurd (h refl)
angular (suc n) h = refl
