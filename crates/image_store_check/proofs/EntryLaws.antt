-- The clauses of 24 that speak of the entries, told by the bytes, way by way. Assumes nothing.
use Prim.Native.Nat.{ℕ, zero, suc, ◌+◌, ◌*◌, ◌≤◌, ◌<◌}
use mathlib.Core.Path.{◌≡◌, refl, sym, ap, ◌∙◌, subst}
use mathlib.Core.Bool.{Bool, true, false, cond}
use mathlib.Core.List.{List}
use native.Mathlib.Omega.{arith}
use native.Mathlib.Nat.{mul-suc, mul-zero, add-zero}
use borrow.Author.Tests.{eqb-true, eq-eqb, leb-true}
use lib.Dec.{eqb, leb}
use lib.ListN.{get_or}
use Rattle.spec.specs.Lists.{◌and◌, every}
use Rattle.spec.specs.Layout.Format.{number_at}
use Rattle.spec.specs.Nearest.Order.{bits_in_domain}
use Rattle.spec_laws.proofs.Lists.{and_true, and_left, and_right, not_both}
use Rattle.spec_laws.proofs.Map.Rows.{every_tail, every_cons}
use Rattle.log_store.specs.Store.{every_below}
use Rattle.log_store.proofs.Facts.{below_fact, fact_below}
use Rattle.log_check.specs.Entries.{number_fits, shape_fits, shape_at}
use Rattle.log_check.proofs.Answers.{false_if, true_if}
use Rattle.image_store.specs.Image.{words, patterns}
use Rattle.image_store.specs.Read.{codes_in, lengths_in, used_at, readable}
use Rattle.image_store.proofs.Words.{words-at}
use Rattle.image_store.proofs.Reading.{used-none, used-short, used-within}
use Rattle.image_store.proofs.Read.{byte_at}
use Rattle.image_store_check.specs.Test.{offsets_in, entry_fits}

-- ---- numbers one after the other: a part of them

module _ (p : ℕ → Bool) (k : ℕ) (s : List ℕ) where
  words-front : (n m at : ℕ) → m ≤ n → every p (words k n s at) ≡ true → every p (words k m s at) ≡ true
  unfolding words every
  words-front n zero at h e = refl
  words-front zero (suc m) at h e = absurd (omega arith)
  words-front (suc n) (suc m) at h e =
      let r = every_tail p (number_at k s at) (words k n s (at + k)) e in
      every_cons p (number_at k s at) (words k m s (at + k)) r.0 (words-front n m (at + k) (omega arith) r.1)

  words-part : (n a m at : ℕ) → a + m ≤ n → every p (words k n s at) ≡ true → every p (words k m s (at + k * a)) ≡ true
  unfolding words
  words-part n zero m at h e = rw (mul-zero, add-zero) (words-front n m at (omega arith) e)
  words-part zero (suc a) m at h e = absurd (omega arith)
  words-part (suc n) (suc a) m at h e =
      let q : at + k + k * a ≡ at + k * suc a = omega (arith, mul-suc k a) in
      subst (λ (x : ℕ). every p (words k m s x) ≡ true) q
      (words-part n a m (at + k) (omega arith) (every_tail p (number_at k s at) (words k n s (at + k)) e).1)

-- an Upsert that is listed
pub shape-short : (code len : ℕ) → shape_fits code len ≡ true → code ≡ 1 → (1 ≤ len) × (len ≤ 32)
unfolding shape_fits
shape-short code len e q =
    let t : leb 1 len and leb len 32 ≡ true = sym (ap (λ (b : Bool). cond b (leb 1 len and leb len 32) (eqb code 2)) (eq-eqb code 1 q)) ∙ e in
    (leb-true 1 len (and_left (leb 1 len) (leb len 32) t), leb-true len 32 (and_right (leb 1 len) (leb len 32) t))

below-same : (p q : ℕ → Bool) (n : ℕ) → ((i : ℕ) → i < n → p i ≡ q i) → every_below p n ≡ every_below q n
unfolding every_below
below-same p q zero f = refl
below-same p q (suc n) f =
    ap (λ (v : Bool). v and p n) (below-same p q n (λ i h. f i (omega arith))) ∙ ap (λ (v : Bool). every_below q n and v) (f n (omega arith))

module _ (s : List ℕ) (base : ℕ) where
  -- ---- where the columns stand

  pub code_in : (i : ℕ) → i < 1024 → get_or (codes_in s base) i 0 ≡ get_or s (base + 24576 + i) 0
  code_in i h = byte_at s base (base + 24576) i h

  pub length_in : (i : ℕ) → i < 1024 → get_or (lengths_in s base) i 0 ≡ get_or s (base + 25600 + i) 0
  length_in i h = byte_at s base (base + 25600) i h

  pub word_in : (at i : ℕ) → i < 1024 → get_or (words 8 1024 s at) i 0 ≡ number_at 8 s (at + 8 * i)
  word_in at i h = words-at 8 1024 s at i h

  pub shape_in : (i : ℕ) → i < 1024
      → shape_fits (get_or s (base + 24576 + i) 0) (get_or s (base + 25600 + i) 0) ≡ shape_at (codes_in s base) (lengths_in s base) i
  shape_in i h =
      sym (ap (λ (k : ℕ). shape_fits k (get_or (lengths_in s base) i 0)) (code_in i h)
      ∙ ap (shape_fits (get_or s (base + 24576 + i) 0)) (length_in i h))

  -- ---- one entry

  module _ (i : ℕ) where
    abbrev o : ℕ
    o = get_or (offsets_in s base) i 0

    abbrev shape : Bool
    shape = shape_at (codes_in s base) (lengths_in s base) i

    pub fits_of : entry_fits s base i ≡ true → (o ≡ i + 1) × (shape ≡ true) × (readable s base i ≡ true)
    unfolding entry_fits
    fits_of e =
        let r = and_right (eqb o (i + 1)) (shape and readable s base i) e in (
          eqb-true o (i + 1) (and_left (eqb o (i + 1)) (shape and readable s base i) e),
          and_left shape (readable s base i) r,
          and_right shape (readable s base i) r,
        )

    pub of_fits : o ≡ i + 1 → shape ≡ true → readable s base i ≡ true → entry_fits s base i ≡ true
    unfolding entry_fits
    of_fits a b c = and_true (eqb o (i + 1)) (shape and readable s base i) (eq-eqb o (i + 1) a) (and_true shape (readable s base i) b c)

    pub readable-none : (get_or (codes_in s base) i 0 ≡ 1 → ⊥) → readable s base i ≡ true
    unfolding every words
    readable-none n =
        subst (λ (m : ℕ). every bits_in_domain (patterns s base i m) ≡ true)
        (used-none (get_or (codes_in s base) i 0) (get_or (lengths_in s base) i 0) n) refl

    pub readable-is : get_or (codes_in s base) i 0 ≡ 1 → get_or (lengths_in s base) i 0 ≤ 32
        → every bits_in_domain (patterns s base i (get_or (lengths_in s base) i 0)) ≡ readable s base i
    readable-is q h =
        ap (λ (m : ℕ). every bits_in_domain (patterns s base i m)) (used-short (get_or (codes_in s base) i 0) (get_or (lengths_in s base) i 0) q h)

    -- x the offset that was read, b the answer of the shape's test
    module _ (h : i < 1024) (x : ℕ) (xs : x ≡ number_at 8 s (base + 8192 + 8 * i)) where
      own : o ≡ x
      own = word_in (base + 8192) i h ∙ sym xs

      pub no_offset : (x ≡ i + 1 → ⊥) → false ≡ entry_fits s base i
      no_offset n = false_if (entry_fits s base i) (λ e. n (sym own ∙ (fits_of e).0))

      module _ (is : x ≡ i + 1) (b : Bool) (bs : b ≡ shape_fits (get_or s (base + 24576 + i) 0) (get_or s (base + 25600 + i) 0)) where
        told : b ≡ shape
        told = bs ∙ shape_in i h

        pub no_shape : b ≡ false → false ≡ entry_fits s base i
        no_shape e = false_if (entry_fits s base i) (λ t. not_both b (told ∙ (fits_of t).1) e)

        pub a_delete : b ≡ true → (get_or s (base + 24576 + i) 0 ≡ 1 → ⊥) → true ≡ entry_fits s base i
        a_delete e n = sym (of_fits (own ∙ is) (sym told ∙ e) (readable-none (λ q. n (sym (code_in i h) ∙ q))))

        pub short : b ≡ true → get_or s (base + 24576 + i) 0 ≡ 1 → get_or s (base + 25600 + i) 0 ≤ 32
        short e q = (shape-short (get_or s (base + 24576 + i) 0) (get_or s (base + 25600 + i) 0) (sym bs ∙ e) q).1

        pub by-patterns : b ≡ true → get_or s (base + 24576 + i) 0 ≡ 1 → (n : ℕ) → n ≡ get_or s (base + 25600 + i) 0
            → (r : Bool) → r ≡ every bits_in_domain (words 4 n s (base + 26624 + i * 128)) → r ≡ entry_fits s base i
        by-patterns e q n ns r rs =
            let l = length_in i h in
            let k = short e q in
            let m : n ≡ get_or (lengths_in s base) i 0 = ns ∙ sym l in
            let t : r ≡ readable s base i =
            rs ∙ ap (λ (m : ℕ). every bits_in_domain (patterns s base i m)) m ∙ readable-is (code_in i h ∙ q) (omega arith) in
            true_if r (entry_fits s base i) (λ u. of_fits (own ∙ is) (sym told ∙ e) (sym t ∙ u)) (λ u. t ∙ (fits_of u).2)

  -- ---- all of them

  module _ (n : ℕ) where
    pub no_numbers : (b : Bool) → b ≡ every_below (number_fits (offsets_in s base)) n → b ≡ false → false ≡ every_below (entry_fits s base) n
    no_numbers b e q =
        false_if (every_below (entry_fits s base) n)
        (λ t.
        not_both b
        (e ∙ fact_below (number_fits (offsets_in s base)) n
        (λ i h. eq-eqb (get_or (offsets_in s base) i 0) (i + 1) (fits_of i (below_fact (entry_fits s base) n t i h)).0))
        q)

    -- every pattern, used or free, lies in the domain
    all-readable : every bits_in_domain (words 4 (n * 32) s (base + 26624)) ≡ true → (i : ℕ) → i < n → readable s base i ≡ true
    all-readable e i h =
        let u = used-within s base i in
        let q : base + 26624 + 4 * (i * 32) ≡ base + 26624 + i * 128 = omega arith in
        subst (λ (at : ℕ). every bits_in_domain (words 4 (used_at s base i) s at) ≡ true) q
        (words-part bits_in_domain 4 s (n * 32) (i * 32) (used_at s base i) (base + 26624) (omega arith) e)

    pub by_shapes : (a : Bool) → a ≡ every bits_in_domain (words 4 (n * 32) s (base + 26624)) → a ≡ true
        → every_below (number_fits (offsets_in s base)) n ≡ true → (b : Bool) → b ≡ every_below (shape_at (codes_in s base) (lengths_in s base)) n
        → b ≡ every_below (entry_fits s base) n
    by_shapes a at e w b bs =
        bs ∙ below-same (shape_at (codes_in s base) (lengths_in s base)) (entry_fits s base) n
        (λ i h.
        let f = all-readable (sym at ∙ e) i h in
        let o = eqb-true (get_or (offsets_in s base) i 0) (i + 1) (below_fact (number_fits (offsets_in s base)) n w i h) in
        true_if (shape_at (codes_in s base) (lengths_in s base) i) (entry_fits s base i) (λ t. of_fits i o t f) (λ t. (fits_of i t).1))
