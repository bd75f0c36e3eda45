-- The test of the bytes is what the paper asks of the log and the rows that the bytes are. Assumes nothing.
use Prim.Native.Nat.{ℕ, zero, suc, ◌+◌, ◌*◌, ◌≤◌, ◌<◌}
use mathlib.Core.Path.{◌≡◌, refl, sym, ap, ◌∙◌, subst}
use mathlib.Core.Bool.{Bool, true, false, cond}
use mathlib.Core.List.{List, [], ◌∷◌, map}
use native.Mathlib.Omega.{arith}
use native.Mathlib.Nat.{mul_comm}
use borrow.Author.Tests.{eqb-true, eqb-false, eq-eqb, leb-true, le-leb}
use lib.Dec.{T, eqb, leb}
use lib.Ieee.{binary32, of_bits, fits}
use lib.Ieee.Bits.{of_bits-fits}
use lib.ListN.{length, get_or}
use Rattle.spec.specs.Lists.{◌and◌, every}
use Rattle.spec.specs.Log.{upsert, delete, Entry}
use Rattle.spec.specs.Layout.Format.{number_at}
use Rattle.spec.specs.Nearest.Order.{in_domain, bits_in_domain}
use Rattle.spec.specs.Node.Wire.{float_of, floats_of}
use Rattle.spec.specs.Node.WellFormed.{component, numbered_from, well_formed_vector, well_formed_op, well_formed_entry}
use Rattle.spec_laws.proofs.Lists.{and_true, and_left, and_right, not_both, nth_lt, nth-same}
use Rattle.spec_laws.proofs.Log.Numbered.{Numbered, test-numbered, numbered-test}
use Rattle.spec_laws.proofs.Map.Rows.{every_tail, every_cons}
use Rattle.log_store.specs.View.{firsts, op_from}
use Rattle.log_store.specs.Table.{Row, row_op, row_by, rows_played, play_rows, play_rows_from}
use Rattle.log_store.specs.Store.{every_below, same_rows}
use Rattle.log_store.proofs.Bits.{every-at, floats-length}
use Rattle.log_store.proofs.Facts.{below_fact, fact_below}
use Rattle.log_store.proofs.Firsts.{firsts-length, firsts_at, nth-firsts}
use Rattle.log_store.proofs.PlayRows.{rows_snoc}
use Rattle.log_store.proofs.Push.{every_snoc, set-op, drop-op}
use Rattle.log_store.proofs.Rebuilt.{by-set, by-drop}
use Rattle.log_check.specs.Entries.{shape_fits}
use Rattle.log_check.proofs.Answers.{false_if, true_if}
use Rattle.image_store.specs.Image.{words, patterns, op_at, entry_at, log_at, rows_at, code_fits_at, well_formed_image}
use Rattle.image_store.specs.Read.{codes_in, readable}
use Rattle.image_store.proofs.Words.{words-length}
use Rattle.image_store_check.specs.Test.{offsets_in, ids_in, entry_fits}
use Rattle.image_store_check.proofs.EntryLaws.{shape-short, code_in, length_in, word_in, shape_in, fits_of, of_fits, readable-none, readable-is}

T_true : (b : Bool) → T b → b ≡ true
T_true true t = refl
T_true false t = absurd t

-- patterns, and the components that they are
patterns_inside : (bits : List ℕ) → every component (floats_of bits) ≡ true → every bits_in_domain bits ≡ true
unfolding floats_of bits_in_domain every
patterns_inside [] e = refl
patterns_inside (b ∷ bits) e =
    let t = every_tail component (float_of b) (floats_of bits) e in
    every_cons bits_in_domain b bits (and_right (fits binary32 (float_of b)) (in_domain (float_of b)) t.0) (patterns_inside bits t.1)

inside_patterns : (bits : List ℕ) → every bits_in_domain bits ≡ true → every component (floats_of bits) ≡ true
unfolding floats_of every bits_in_domain
inside_patterns [] h = refl
inside_patterns (b ∷ bs) h =
    let r = every_tail bits_in_domain b bs h in
    every_cons component (float_of b) (map float_of bs)
    (and_true (fits binary32 (of_bits binary32 b)) (in_domain (of_bits binary32 b)) (T_true (fits binary32 (of_bits binary32 b)) (of_bits-fits binary32 b)) r.0)
    (inside_patterns bs r.1)

op-by : (rs : List Row) (code id o : ℕ) (bits : List ℕ) → row_op rs (op_from code id bits) o ≡ row_by rs code id o
op-by rs code id o bits = go (eqb code 1) refl
  where
    go : (b : Bool) → eqb code 1 ≡ b → row_op rs (op_from code id bits) o ≡ row_by rs code id o
    go true e = let q = eqb-true code 1 e in sym (set-op rs code id o bits q) ∙ by-set rs code id o q
    go false e = let q = eqb-false code 1 e in sym (drop-op rs code id o bits q) ∙ by-drop rs code id o q

every-firsts {ℓ} : {A : Type ℓ} (p : A → Bool) (f : ℕ → A) (n : ℕ) → ((i : ℕ) → i < n → p (f i) ≡ true) → every p (firsts f n) ≡ true
unfolding firsts every
every-firsts p f zero h = refl
every-firsts p f (suc n) h = every_snoc p (firsts f n) (f n) (every-firsts p f n (λ i k. h i (omega arith))) (h n (omega arith))

-- the operation of an entry, by its code and length
module _ (code len id : ℕ) (bits : List ℕ) (l : length bits ≡ len) where
  op-formed : shape_fits code len ≡ true → (code ≡ 1 → every bits_in_domain bits ≡ true) → well_formed_op (op_from code id bits) ≡ true
  unfolding op_from well_formed_vector
  op-formed e f = go (eqb code 1) refl
    where
      go : (b : Bool) → eqb code 1 ≡ b → well_formed_op (cond b (upsert id (floats_of bits)) (delete id)) ≡ true
      go true q =
          let c = eqb-true code 1 q in
          let k = shape-short code len e c in
          let k₁ = k.0 in
          let k₂ = k.1 in
          let m = floats-length bits in
          and_true (leb 1 (length (floats_of bits))) (leb (length (floats_of bits)) 32 and every component (floats_of bits))
          (le-leb 1 (length (floats_of bits)) (omega arith))
          (and_true (leb (length (floats_of bits)) 32) (every component (floats_of bits)) (le-leb (length (floats_of bits)) 32 (omega arith))
          (inside_patterns bits (f c)))
      go false q = refl

  abbrev code_fits : Bool
  code_fits = cond (eqb code 1) (leb len 32) (eqb code 2)

  code-formed : shape_fits code len ≡ true → code_fits ≡ true
  unfolding shape_fits
  code-formed e = go (eqb code 1) refl e
    where
      go : (b : Bool) → eqb code 1 ≡ b → cond b (leb 1 len and leb len 32) (eqb code 2) ≡ true → cond b (leb len 32) (eqb code 2) ≡ true
      go true q e = and_right (leb 1 len) (leb len 32) e
      go false q e = e

  vector_of_lem : well_formed_op (op_from code id bits) ≡ true → code ≡ 1 → well_formed_vector (floats_of bits) ≡ true
  unfolding op_from
  vector_of_lem w q = sym (ap (λ (b : Bool). well_formed_op (cond b (upsert id (floats_of bits)) (delete id))) (eq-eqb code 1 q)) ∙ w

  -- .. and back
  formed-shape : code_fits ≡ true → well_formed_op (op_from code id bits) ≡ true → shape_fits code len ≡ true
  unfolding shape_fits well_formed_vector
  formed-shape e w = go (eqb code 1) refl e
    where
      go : (b : Bool) → eqb code 1 ≡ b → cond b (leb len 32) (eqb code 2) ≡ true → cond b (leb 1 len and leb len 32) (eqb code 2) ≡ true
      go true q e =
          let v = vector_of_lem w (eqb-true code 1 q) in
          let m = floats-length bits in
          let k = leb-true 1 (length (floats_of bits)) (and_left (leb 1 (length (floats_of bits))) (leb (length (floats_of bits)) 32 and every component (floats_of bits)) v) in
          and_true (leb 1 len) (leb len 32) (le-leb 1 len (omega arith)) e
      go false q e = e

  formed_inside : well_formed_op (op_from code id bits) ≡ true → code ≡ 1 → every bits_in_domain bits ≡ true
  unfolding well_formed_vector
  formed_inside w q =
      let v = vector_of_lem w q in
      patterns_inside bits
      (and_right (leb (length (floats_of bits)) 32) (every component (floats_of bits))
      (and_right (leb 1 (length (floats_of bits))) (leb (length (floats_of bits)) 32 and every component (floats_of bits)) v))

module _ (s : List ℕ) (base : ℕ) where
  word_at : (at i : ℕ) → i < 1024 → get_or (words 8 1024 s at) i 0 ≡ number_at 8 s (at + i * 8)
  word_at at i h = word_in s base at i h ∙ ap (λ (m : ℕ). number_at 8 s (at + m)) (mul_comm 8 i)

  module _ (i : ℕ) (h : i < 1024) where
    abbrev code : ℕ
    code = get_or s (base + 24576 + i) 0

    abbrev len : ℕ
    len = get_or s (base + 25600 + i) 0

    abbrev id : ℕ
    id = number_at 8 s (base + 16384 + i * 8)

    abbrev bits : List ℕ
    bits = patterns s base i len

    long : length bits ≡ len
    long = words-length 4 len s (base + 26624 + i * 128)

    inside_is : code ≡ 1 → len ≤ 32 → every bits_in_domain bits ≡ readable s base i
    inside_is q k =
        let l = length_in s base i h in
        ap (λ (m : ℕ). every bits_in_domain (patterns s base i m)) (sym l) ∙ readable-is s base i (code_in s base i h ∙ q) (omega arith)

    -- an entry that fits is what the paper asks
    entry-offset : entry_fits s base i ≡ true → number_at 8 s (base + 8192 + i * 8) ≡ i + 1
    entry-offset e = sym (word_at (base + 8192) i h) ∙ (fits_of s base i e).0

    entry-shape : entry_fits s base i ≡ true → shape_fits code len ≡ true
    entry-shape e = shape_in s base i h ∙ (fits_of s base i e).1

    entry-code : entry_fits s base i ≡ true → code_fits_at s base i ≡ true
    entry-code e = code-formed code len id bits long (entry-shape e)

    entry-formed : entry_fits s base i ≡ true → well_formed_entry (entry_at s base i) ≡ true
    unfolding entry_at op_at
    entry-formed e =
        op-formed code len id bits long (entry-shape e)
        (λ q. inside_is q (shape-short code len (entry-shape e) q).1 ∙ (fits_of s base i e).2)

    -- .. and back
    formed-entry : number_at 8 s (base + 8192 + i * 8) ≡ i + 1 → code_fits_at s base i ≡ true → well_formed_entry (entry_at s base i) ≡ true
        → entry_fits s base i ≡ true
    unfolding entry_at op_at
    formed-entry o c w =
        let f = formed-shape code len id bits long c w in
        of_fits s base i (word_at (base + 8192) i h ∙ o) (sym (shape_in s base i h) ∙ f) (go (eqb code 1) refl f)
      where
        go : (b : Bool) → eqb code 1 ≡ b → shape_fits code len ≡ true → readable s base i ≡ true
        go true e f =
            let q = eqb-true code 1 e in
            sym (inside_is q (shape-short code len f q).1) ∙ formed_inside code len id bits long w q
        go false e f = readable-none s base i (λ q. eqb-false code 1 e (sym (code_in s base i h) ∙ q))

  -- ---- the log that the bytes are

  module _ (n : ℕ) (most : n ≤ 1024) where
    log-numbered : ((i : ℕ) → i < n → entry_fits s base i ≡ true) → numbered_from 1 (log_at s base n) ≡ true
    unfolding log_at entry_at
    log-numbered f = numbered-test 0 (log_at s base n) go
      where
        go : Numbered (log_at s base n)
        go i e q =
            let h : i < n = subst (λ (m : ℕ). i < m) (firsts-length (entry_at s base) n) (nth_lt (log_at s base n) i e q) in
            let same : entry_at s base i ≡ e = nth-same (log_at s base n) i (entry_at s base i) e (nth-firsts (entry_at s base) n i h) q in
            let r = entry-offset i (omega arith) (f i h) in
            subst (λ (x : Entry). x.offset ≡ 0 + suc i) same (omega arith)

    log-formed : ((i : ℕ) → i < n → entry_fits s base i ≡ true) → every well_formed_entry (log_at s base n) ≡ true
    unfolding log_at
    log-formed f = every-firsts well_formed_entry (entry_at s base) n (λ i h. entry-formed i (omega arith) (f i h))

    formed-log : numbered_from 1 (log_at s base n) ≡ true → every_below (code_fits_at s base) n ≡ true → every well_formed_entry (log_at s base n) ≡ true
        → (i : ℕ) → i < n → entry_fits s base i ≡ true
    unfolding log_at entry_at
    formed-log o c w i h =
        let r = test-numbered 0 (log_at s base n) o i (entry_at s base i) (nth-firsts (entry_at s base) n i h) in
        formed-entry i (omega arith) (omega arith) (below_fact (code_fits_at s base) n c i h)
        (ap well_formed_entry (sym (firsts_at (entry_at s base) n i (entry_at s base i) h))
        ∙ every-at well_formed_entry (log_at s base n) i (entry_at s base i) w (subst (λ (m : ℕ). i < m) (sym (firsts-length (entry_at s base) n)) h))

  -- the rows of the log are those of its columns
  played_image : (n : ℕ) → n ≤ 1024 → play_rows (log_at s base n) ≡ rows_played (offsets_in s base) (ids_in s base) (codes_in s base) n
  unfolding log_at firsts rows_played entry_at op_at play_rows play_rows_from
  played_image zero h = refl
  played_image (suc n) h =
      let l : n < 1024 = omega arith in
      rows_snoc (log_at s base n) (entry_at s base n)
      ∙ op-by (play_rows (log_at s base n)) (code n l) (id n l) (number_at 8 s (base + 8192 + n * 8)) (bits n l)
      ∙ rw (played_image n (omega arith), sym (code_in s base n l), sym (word_at (base + 16384) n l), sym (word_at (base + 8192) n l))

  -- ---- the test, way by way

  module _ (count stored : ℕ) where
    abbrev same : Bool
    same = same_rows (rows_at s base stored) (play_rows (log_at s base count))

    image_facts : well_formed_image s base count stored ≡ true
        → (count ≤ 1024) × (stored ≤ 1024) × ((i : ℕ) → i < count → entry_fits s base i ≡ true) × (same ≡ true)
    unfolding well_formed_image
    image_facts w =
        let t₂ = and_right (leb count 1024) _ w in
        let t₃ = and_right (leb stored 1024) _ t₂ in
        let t₄ = and_right (numbered_from 1 (log_at s base count)) _ t₃ in
        let t₅ = and_right (every_below (code_fits_at s base) count) _ t₄ in
        let m = leb-true count 1024 (and_left (leb count 1024) _ w) in (
          m,
          leb-true stored 1024 (and_left (leb stored 1024) _ t₂),
          formed-log count m (and_left (numbered_from 1 (log_at s base count)) _ t₃) (and_left (every_below (code_fits_at s base) count) _ t₄)
              (and_left (every well_formed_entry (log_at s base count)) _ t₅),
          and_right (every well_formed_entry (log_at s base count)) _ t₅,
        )

    facts_image : count ≤ 1024 → stored ≤ 1024 → ((i : ℕ) → i < count → entry_fits s base i ≡ true) → same ≡ true → well_formed_image s base count stored ≡ true
    unfolding well_formed_image
    facts_image m k f e =
        and_true _ _ (le-leb count 1024 m)
        (and_true _ _ (le-leb stored 1024 k)
        (and_true _ _ (log-numbered count m f)
        (and_true _ _ (fact_below (code_fits_at s base) count (λ i h. entry-code i (omega arith) (f i h)))
        (and_true _ _ (log-formed count m f) e))))

    pub store_many : 1024 < count → false ≡ well_formed_image s base count stored
    store_many h = false_if (well_formed_image s base count stored) (λ w. let k = (image_facts w).0 in omega arith)

    pub store-wide : 1024 < stored → false ≡ well_formed_image s base count stored
    store-wide h = false_if (well_formed_image s base count stored) (λ w. let k = (image_facts w).1 in omega arith)

    module _ (b : Bool) (bs : b ≡ every_below (entry_fits s base) count) where
      pub store-refused : b ≡ false → false ≡ well_formed_image s base count stored
      store-refused e =
          false_if (well_formed_image s base count stored)
          (λ w. not_both b (bs ∙ fact_below (entry_fits s base) count (image_facts w).2) e)

      module _ (e : b ≡ true) where
        each : (i : ℕ) → i < count → entry_fits s base i ≡ true
        each = below_fact (entry_fits s base) count (sym bs ∙ e)

        pub store-offsets : (i : ℕ) → i < count → get_or (offsets_in s base) i 0 ≡ i + 1
        store-offsets i h = (fits_of s base i (each i h)).0

        pub store-table : count ≤ 1024 → stored ≤ 1024 → (t : Bool)
            → t ≡ same_rows (rows_at s base stored) (rows_played (offsets_in s base) (ids_in s base) (codes_in s base) count)
            → t ≡ well_formed_image s base count stored
        store-table m k t ts =
            let q : t ≡ same = ts ∙ ap (same_rows (rows_at s base stored)) (sym (played_image count m)) in
            true_if t (well_formed_image s base count stored) (λ u. facts_image m k each (sym q ∙ u)) (λ u. q ∙ (image_facts u).3)
