-- The entries of 22 from columns: steps of the loops. Assumes nothing.
use Prim.Native.Nat.{ℕ, zero, suc, ◌+◌, ◌-◌, ◌*◌, ◌≤◌, ◌<◌}
use mathlib.Core.Path.{◌≡◌, refl, sym, ap, ◌∙◌}
use mathlib.Core.Bool.{true}
use mathlib.Core.List.{List, ◌++◌, map}
use lib.ListN.{length, get_or, take, drop, length-drop, length-append}
use lib.Seq.{sets, length-take-le}
use lib.Dec.{eqb}
use native.Mathlib.Omega.{arith}
use borrow.Author.Tests.{leb-true}
use Rattle.spec.specs.Lists.{◌and◌}
use Rattle.spec.specs.Layout.Format.{bytes_of, encode}
use Rattle.spec.specs.Layout.Parts.{entry_f, entries_f, entry_value}
use Rattle.spec_laws.proofs.Wire.Tests.{and_left, and_right}
use Rattle.wire_put.specs.Rows.{row_fits, rows_fit, rows_size, row_at, rows_given, rows_bytes, long_enough}
use Rattle.wire_put.specs.Fields.{op_fits, op_size, wire_of}
use Rattle.wire_put.proofs.Writes.{op_small, sets_then}
use Rattle.wire_put.proofs.Entries.{entry-size}

module _ (cs ls : List ℕ) where
  pub fit-step : (n i : ℕ) → i < n → rows_fit cs ls (n - i) i ≡ (row_fits (get_or cs i 0) (get_or ls i 0) and rows_fit cs ls (n - (i + 1)) (i + 1))
  fit-step n i h = let e : n - i ≡ suc (n - (i + 1)) = omega arith in ap (λ (m : ℕ). rows_fit cs ls m i) e

  pub size_step : (n i : ℕ) → i < n
      → rows_size cs ls (n - i) i ≡ 16 + op_size (eqb (get_or cs i 0) 1) (get_or ls i 0) + rows_size cs ls (n - (i + 1)) (i + 1)
  size_step n i h = let e : n - i ≡ suc (n - (i + 1)) = omega arith in ap (λ (m : ℕ). rows_size cs ls m i) e

  -- the i-th operation fits where all that are left do
  pub row-op : (n i : ℕ) → i < n → rows_fit cs ls (n - i) i ≡ true → op_fits (eqb (get_or cs i 0) 1) (get_or ls i 0) ≡ true
  row-op n i h e = and_left _ _ (and_left _ _ (sym (fit-step n i h) ∙ e))

  pub row_len : (n i : ℕ) → i < n → rows_fit cs ls (n - i) i ≡ true → get_or ls i 0 ≤ 32
  row_len n i h e = leb-true _ _ (and_right _ _ (and_left _ _ (sym (fit-step n i h) ∙ e)))

  pub rows_later : (n i : ℕ) → i < n → rows_fit cs ls (n - i) i ≡ true → rows_fit cs ls (n - (i + 1)) (i + 1) ≡ true
  rows_later n i h e = and_right _ _ (sym (fit-step n i h) ∙ e)

  pub row_small : (n i : ℕ) → i < n → rows_fit cs ls (n - i) i ≡ true → op_size (eqb (get_or cs i 0) 1) (get_or ls i 0) ≤ 138
  row_small n i h e = op_small (eqb (get_or cs i 0) 1) (get_or ls i 0) (row-op n i h e)

-- ---- the columns are long enough

pub record Long (es os cs is ls bs : List ℕ) (n : ℕ) : Type 0 where
  pub epochs : n ≤ length es
  pub offsets : n ≤ length os
  pub codes : n ≤ length cs
  pub ids : n ≤ length is
  pub lens : n ≤ length ls
  pub bits : 32 * n ≤ length bs

pub long : (es os cs is ls bs : List ℕ) (n : ℕ) → long_enough es os cs is ls bs n ≡ true → Long es os cs is ls bs n
long es os cs is ls bs n e =
    let e₁ = and_right _ _ e in
    let e₂ = and_right _ _ e₁ in
    let e₃ = and_right _ _ e₂ in
    let e₄ = and_right _ _ e₃ in
    record {
      epochs = leb-true _ _ (and_left _ _ e);
      offsets = leb-true _ _ (and_left _ _ e₁);
      codes = leb-true _ _ (and_left _ _ e₂);
      ids = leb-true _ _ (and_left _ _ e₃);
      lens = leb-true _ _ (and_left _ _ e₄);
      bits = leb-true _ _ (and_right _ _ e₄);
    }

-- ---- one entry more

module _ (es os cs is ls bs : List ℕ) where
  abbrev pub row_bytes : ℕ → List ℕ
  row_bytes i = encode entry_f (entry_value (row_at es os cs is ls bs i))

  pub row-size : (i : ℕ) → 32 * i + get_or ls i 0 ≤ length bs → length (row_bytes i) ≡ 16 + op_size (eqb (get_or cs i 0) 1) (get_or ls i 0)
  row-size i h =
      let w : length (take (get_or ls i 0) (drop (32 * i) bs)) ≡ get_or ls i 0 =
      length-take-le (get_or ls i 0) (drop (32 * i) bs) (rw length-drop (omega arith)) in
      entry-size (get_or es i 0) (get_or os i 0) (eqb (get_or cs i 0) 1) (get_or is i 0) (take (get_or ls i 0) (drop (32 * i) bs))
      ∙ ap (λ (m : ℕ). 16 + op_size (eqb (get_or cs i 0) 1) m) w

  pub rows_step : (l : List ℕ) (p q n i : ℕ) → i < n → q ≡ p + length (row_bytes i)
      → sets (sets l p (row_bytes i)) q (rows_bytes es os cs is ls bs (n - (i + 1)) (i + 1)) ≡ sets l p (rows_bytes es os cs is ls bs (n - i) i)
  rows_step l p q n i h e =
      let k : n - i ≡ suc (n - (i + 1)) = omega arith in
      sets_then l p q (row_bytes i) (rows_bytes es os cs is ls bs (n - (i + 1)) (i + 1)) e
      ∙ ap (λ (m : ℕ). sets l p (rows_bytes es os cs is ls bs m i)) (sym k)

  -- the part of the bits that the code lends on
  pub row-part : (i : ℕ) → encode entry_f (entry_value (record {
    epoch = get_or es i 0;
    offset = get_or os i 0;
    op = wire_of (eqb (get_or cs i 0) 1) (get_or is i 0) (take (32 * i + get_or ls i 0 - 32 * i) (drop (32 * i) bs));
  }))
      ≡ row_bytes i
  row-part i =
      let k : 32 * i + get_or ls i 0 - 32 * i ≡ get_or ls i 0 = omega arith in
      ap (λ (m : ℕ). encode entry_f (entry_value (record {
        epoch = get_or es i 0;
        offset = get_or os i 0;
        op = wire_of (eqb (get_or cs i 0) 1) (get_or is i 0) (take m (drop (32 * i) bs));
      }))) k

  -- all entries take as many bytes as was counted
  pub rows-length : (n i : ℕ) → rows_fit cs ls n i ≡ true → 32 * (i + n) ≤ length bs → length (rows_bytes es os cs is ls bs n i) ≡ rows_size cs ls n i
  rows-length zero i e h = refl
  rows-length (suc n) i e h =
      let k : get_or ls i 0 ≤ 32 = leb-true _ _ (and_right _ _ (and_left _ _ e)) in
      let r = rows-length n (i + 1) (and_right _ _ e) (omega arith) in
      let s = row-size i (omega arith) in
      length-append (row_bytes i) (rows_bytes es os cs is ls bs n (i + 1)) ∙ omega arith

  pub part_length : (i : ℕ) → 32 * i + get_or ls i 0 ≤ length bs
      → length (take (32 * i + get_or ls i 0 - 32 * i) (drop (32 * i) bs)) ≡ get_or ls i 0
  part_length i h =
      let k : 32 * i + get_or ls i 0 - 32 * i ≡ get_or ls i 0 = omega arith in
      ap (λ (m : ℕ). length (take m (drop (32 * i) bs))) k ∙ length-take-le (get_or ls i 0) (drop (32 * i) bs) (rw length-drop (omega arith))

  -- what `put_entry` stores of the i-th entry, and the entries after it
  abbrev pub part_bytes : ℕ → List ℕ
  part_bytes i = encode entry_f (entry_value (record {
    epoch = get_or es i 0;
    offset = get_or os i 0;
    op = wire_of (eqb (get_or cs i 0) 1) (get_or is i 0) (take (32 * i + get_or ls i 0 - 32 * i) (drop (32 * i) bs));
  }))

  pub part-size : (i : ℕ) → 32 * i + get_or ls i 0 ≤ length bs → length (part_bytes i) ≡ 16 + op_size (eqb (get_or cs i 0) 1) (get_or ls i 0)
  part-size i h = ap length (row-part i) ∙ row-size i h

  pub rows_next : (l : List ℕ) (p q n i : ℕ) → i < n → 32 * i + get_or ls i 0 ≤ length bs
      → q ≡ p + (16 + op_size (eqb (get_or cs i 0) 1) (get_or ls i 0))
      → sets (sets l p (part_bytes i)) q (rows_bytes es os cs is ls bs (n - (i + 1)) (i + 1)) ≡ sets l p (rows_bytes es os cs is ls bs (n - i) i)
  rows_next l p q n i h b e =
      let r : List ℕ = rows_bytes es os cs is ls bs (n - (i + 1)) (i + 1) in
      ap (λ (x : List ℕ). sets (sets l p x) q r) (row-part i) ∙ rows_step l p q n i h (e ∙ ap (λ (m : ℕ). p + m) (sym (row-size i b)))

  pub given-length : (n i : ℕ) → length (map entry_value (rows_given es os cs is ls bs n i)) ≡ n
  given-length zero i = refl
  given-length (suc n) i = ap suc (given-length n (i + 1))

  -- count and entries of a CopyShard
  pub copy_put : (l : List ℕ) (n : ℕ)
      → sets (sets l 46 (bytes_of 2 n)) 48 (rows_bytes es os cs is ls bs n 0) ≡ sets l 46 (encode entries_f (map entry_value (rows_given es os cs is ls bs n 0)))
  copy_put l n =
      sets_then l 46 48 (bytes_of 2 n) (rows_bytes es os cs is ls bs n 0) refl
      ∙ ap (λ (m : ℕ). sets l 46 (bytes_of 2 m ++ rows_bytes es os cs is ls bs n 0)) (sym (given-length n 0))

  pub copy_length : (n : ℕ) → rows_fit cs ls n 0 ≡ true → 32 * n ≤ length bs
      → length (encode entries_f (map entry_value (rows_given es os cs is ls bs n 0))) ≡ 2 + rows_size cs ls n 0
  copy_length n e h = let r = rows-length n 0 e (omega arith) in omega arith

pub long_bits : (es os cs is ls bs : List ℕ) (n : ℕ) → long_enough es os cs is ls bs n ≡ true → 32 * n ≤ length bs
long_bits es os cs is ls bs n e = (long es os cs is ls bs n e).bits

pub rows_small : (cs ls : List ℕ) (n i : ℕ) → rows_fit cs ls n i ≡ true → rows_size cs ls n i ≤ 154 * n
rows_small cs ls zero i e = omega arith
rows_small cs ls (suc n) i e =
    let r = rows_small cs ls n (i + 1) (and_right _ _ e) in
    let s = op_small (eqb (get_or cs i 0) 1) (get_or ls i 0) (and_left _ _ (and_left _ _ e)) in
    omega arith
