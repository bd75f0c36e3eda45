-- The test of an image (24): that the patterns in use are floats, and that the columns read are a well-formed store, is what the paper asks
-- of the log and the rows that the bytes are. Assumes nothing.
use Prim.Native.Nat.{ℕ, ◌+◌, ◌*◌, ◌≤◌, ◌<◌}
use mathlib.Core.Path.{◌≡◌, refl, sym, ap, ◌∙◌, subst}
use mathlib.Core.Bool.{Bool, true, false, cond}
use mathlib.Core.List.{List, [], ◌∷◌}
use native.Mathlib.Omega.{arith}
use borrow.Author.Tests.{eqb-true, eqb-false, eq-eqb, leb-true, le-leb}
use lib.Dec.{eqb, leb}
use lib.Ieee.{Float, binary32, fits}
use lib.ListN.{length, get_or}
use Rattle.spec.specs.Lists.{◌and◌, every}
use Rattle.spec.specs.Log.{Log, upsert, delete}
use Rattle.spec.specs.Layout.Format.{number_at}
use Rattle.spec.specs.Nearest.Order.{in_domain, bits_in_domain}
use Rattle.spec.specs.Node.Wire.{float_of, floats_of}
use Rattle.spec.specs.Node.WellFormed.{component, numbered_from, well_formed_vector, well_formed_op, well_formed_entry}
use Rattle.spec_laws.proofs.Lists.{and_true, and_left, and_right}
use Rattle.spec_laws.proofs.Log.Numbered.{test-numbered, numbered-test}
use Rattle.spec_laws.proofs.Map.Rows.{every_tail, every_cons}
use Rattle.log_store.specs.View.{op_from, log_of}
use Rattle.log_store.specs.Table.{play_rows}
use Rattle.log_store.specs.Store.{Store, lent, store_log, every_below, code_fits, same_rows, well_formed_store}
use Rattle.log_store.proofs.Bits.{every-at}
use Rattle.log_store.proofs.Facts.{facts, well-formed, below_fact, fact_below, same-rows, rows_same}
use Rattle.log_store.proofs.Firsts.{firsts_at, firsts-length}
use Rattle.log_check.proofs.Answers.{true_if}
use Rattle.image_store.specs.Image.{words, patterns, keys_in, places_in, op_at, entry_at, log_at, rows_at, code_fits_at, well_formed_image}
use Rattle.image_store.specs.Read.{codes_in, lengths_in, readable, columns_at, all_readable}
use Rattle.image_store.proofs.Reading.{used-none, used-short, read_length}
use Rattle.image_store.proofs.Read.{byte_at, read_log_is, image_log}

-- components that came from patterns: the patterns lie in the domain
patterns_inside : (bits : List ℕ) → every component (floats_of bits) ≡ true → every bits_in_domain bits ≡ true
unfolding floats_of bits_in_domain every
patterns_inside [] e = refl
patterns_inside (b ∷ bits) e =
    let t = every_tail component (float_of b) (floats_of bits) e in
    every_cons bits_in_domain b bits (and_right (fits binary32 (float_of b)) (in_domain (float_of b)) t.0) (patterns_inside bits t.1)

module _ (s : List ℕ) (base count stored : ℕ) (fs : List Float) (whole : length fs ≡ 32768) where
  -- the store that is read
  abbrev pub store_read : Store
  store_read = lent (columns_at s base count fs) (keys_in s base) (places_in s base) count stored

  code_same : (i : ℕ) → i < 1024 → code_fits (columns_at s base count fs) i ≡ code_fits_at s base i
  unfolding columns_at
  code_same i h = rw (byte_at s base (base + 24576) i h, byte_at s base (base + 25600) i h)

  read_long : count ≤ 1024 → 32768 ≤ length store_read.columns.floats
  unfolding columns_at
  read_long m = omega (arith, read_length s base count fs (omega arith))

  to_image : all_readable s base count ≡ true → well_formed_store store_read ≡ true → well_formed_image s base count stored ≡ true
  unfolding well_formed_image
  to_image a w =
      let f = facts store_read w in
      let m = f.count in
      let e = image_log s base count stored fs (keys_in s base) (places_in s base) whole a w in
      and_true _ _ (le-leb count 1024 m)
      (and_true _ _ (le-leb stored 1024 f.stored)
      (and_true _ _ (subst (λ (l : Log). numbered_from 1 l ≡ true) e (numbered-test 0 (store_log store_read) f.numbered))
      (and_true _ _ (fact_below (code_fits_at s base) count (λ i h. sym (code_same i (omega arith)) ∙ f.codes i h))
      (and_true _ _ (subst (λ (l : Log). every well_formed_entry l ≡ true) e f.entries)
      (subst (λ (l : Log). same_rows (rows_at s base stored) (play_rows l) ≡ true) e
      (ap (same_rows (rows_at s base stored)) (sym f.rows) ∙ rows_same (rows_at s base stored)))))))

  module _ (most : count ≤ 1024) (codes : (i : ℕ) → i < count → code_fits_at s base i ≡ true) (formed : every well_formed_entry (log_at s base count) ≡ true) where
    short : (i : ℕ) → i < count → get_or (codes_in s base) i 0 ≡ 1 → get_or (lengths_in s base) i 0 ≤ 32
    short i h q =
        let m : i < 1024 = omega arith in
        let c = byte_at s base (base + 24576) i m in
        let l = byte_at s base (base + 25600) i m in
        let k : get_or s (base + 25600 + i) 0 ≤ 32 =
        leb-true (get_or s (base + 25600 + i) 0) 32
        (sym (ap (λ (b : Bool). cond b (leb (get_or s (base + 25600 + i) 0) 32) (eqb (get_or s (base + 24576 + i) 0) 2)) (eq-eqb (get_or s (base + 24576 + i) 0) 1 (sym c ∙ q))) ∙ codes i h) in
        omega arith

    entry-formed : (i : ℕ) → i < count → well_formed_entry (entry_at s base i) ≡ true
    unfolding log_at
    entry-formed i h =
        ap well_formed_entry (sym (firsts_at (entry_at s base) count i (entry_at s base 0) h))
        ∙ every-at well_formed_entry (log_at s base count) i (entry_at s base 0) formed (omega (arith, firsts-length (entry_at s base) count))

    -- the components of an Upsert
    vector_inside : (i : ℕ) → i < count → get_or (codes_in s base) i 0 ≡ 1 → every component (floats_of (patterns s base i (get_or (lengths_in s base) i 0))) ≡ true
    unfolding entry_at op_at op_from well_formed_vector
    vector_inside i h q =
        let m : i < 1024 = omega arith in
        let c = byte_at s base (base + 24576) i m in
        let l = byte_at s base (base + 25600) i m in
        let v = floats_of (patterns s base i (get_or s (base + 25600 + i) 0)) in
        let id = number_at 8 s (base + 16384 + i * 8) in
        let u : well_formed_op (cond (eqb (get_or s (base + 24576 + i) 0) 1) (upsert id v) (delete id)) ≡ true = entry-formed i h in
        let x : leb 1 (length v) and (leb (length v) 32 and every component v) ≡ true =
        sym (ap (λ (b : Bool). well_formed_op (cond b (upsert id v) (delete id))) (eq-eqb (get_or s (base + 24576 + i) 0) 1 (sym c ∙ q))) ∙ u in
        ap (λ (n : ℕ). every component (floats_of (patterns s base i n))) l
        ∙ and_right (leb (length v) 32) (every component v) (and_right (leb 1 (length v)) (leb (length v) 32 and every component v) x)

    none_inside : (i : ℕ) → every bits_in_domain (patterns s base i 0) ≡ true
    unfolding every words
    none_inside i = refl

    fine : (i : ℕ) → i < count → readable s base i ≡ true
    fine i h = go (eqb (get_or (codes_in s base) i 0) 1) refl
      where
        go : (b : Bool) → eqb (get_or (codes_in s base) i 0) 1 ≡ b → readable s base i ≡ true
        go true e =
            let q = eqb-true (get_or (codes_in s base) i 0) 1 e in
            subst (λ (n : ℕ). every bits_in_domain (patterns s base i n) ≡ true)
            (used-short (get_or (codes_in s base) i 0) (get_or (lengths_in s base) i 0) q (short i h q))
            (patterns_inside (patterns s base i (get_or (lengths_in s base) i 0)) (vector_inside i h q))
        go false e =
            subst (λ (n : ℕ). every bits_in_domain (patterns s base i n) ≡ true)
            (used-none (get_or (codes_in s base) i 0) (get_or (lengths_in s base) i 0) (eqb-false (get_or (codes_in s base) i 0) 1 e)) (none_inside i)

    log_is : log_of (columns_at s base count fs) count ≡ log_at s base count
    log_is = read_log_is s base count fs most (omega arith) fine short

  of_image : well_formed_image s base count stored ≡ true → (all_readable s base count ≡ true) × (well_formed_store store_read ≡ true)
  unfolding well_formed_image all_readable
  of_image w =
      let t₂ = and_right (leb count 1024) _ w in
      let t₃ = and_right (leb stored 1024) _ t₂ in
      let t₄ = and_right (numbered_from 1 (log_at s base count)) _ t₃ in
      let t₅ = and_right (every_below (code_fits_at s base) count) _ t₄ in
      let m = leb-true count 1024 (and_left (leb count 1024) _ w) in
      let k = below_fact (code_fits_at s base) count (and_left (every_below (code_fits_at s base) count) _ t₄) in
      let g = and_left (every well_formed_entry (log_at s base count)) _ t₅ in
      let e = sym (log_is m k g) in (
        fact_below (readable s base) count (fine m k g),
        well-formed store_read
            (record {
              count = m;
              stored = leb-true stored 1024 (and_left (leb stored 1024) _ t₂);
              numbered = test-numbered 0 (store_log store_read) (subst (λ (l : Log). numbered_from 1 l ≡ true) e (and_left (numbered_from 1 (log_at s base count)) _ t₃));
              codes = λ i h. code_same i (omega arith) ∙ k i h;
              entries = subst (λ (l : Log). every well_formed_entry l ≡ true) e g;
              rows = same-rows (rows_at s base stored) (play_rows (store_log store_read))
                  (subst (λ (l : Log). same_rows (rows_at s base stored) (play_rows l) ≡ true) e (and_right (every well_formed_entry (log_at s base count)) _ t₅));
              floats = read_long m;
            }),
      )

  -- the two tests of the code are the test of the image
  pub image_test : all_readable s base count and well_formed_store store_read ≡ well_formed_image s base count stored
  image_test =
      true_if (all_readable s base count and well_formed_store store_read) (well_formed_image s base count stored)
      (λ e. to_image (and_left (all_readable s base count) (well_formed_store store_read) e) (and_right (all_readable s base count) (well_formed_store store_read) e))
      (λ e. let r = of_image e in and_true (all_readable s base count) (well_formed_store store_read) r.0 r.1)
