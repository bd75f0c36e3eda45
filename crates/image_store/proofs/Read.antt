-- The columns that an image is read into are the log that the image is. Assumes nothing.
use Prim.Native.Nat.{ℕ, zero, suc, ◌+◌, ◌*◌, ◌≤◌, ◌<◌}
use mathlib.Core.Path.{◌≡◌, refl, sym, ap, ◌∙◌}
use mathlib.Core.Bool.{Bool, true, false, cond}
use mathlib.Core.Logic.{⊎_elim}
use mathlib.Core.List.{List, [], ◌∷◌, ◌++◌, map}
use native.Mathlib.Omega.{arith}
use native.Mathlib.Nat.{eq-or-lt_of_le, mul_comm}
use borrow.Author.Tests.{eqb-true, eq-eqb, leb-true}
use lib.Dec.{eqb, leb}
use lib.Ieee.{Float}
use lib.ListN.{length, get_or, take, drop}
use lib.Seq.{get_or-take, get_or-drop}
use Rattle.spec.specs.Lists.{every}
use Rattle.spec.specs.Log.{upsert, delete}
use Rattle.spec.specs.Layout.Format.{number_at}
use Rattle.spec.specs.Nearest.Order.{bits_in_domain}
use Rattle.spec.specs.Node.Wire.{floats_of}
use Rattle.spec_laws.proofs.Map.Rows.{every_tail}
use Rattle.log_store.specs.View.{stretch, op_of, entry_of, log_of, op_from}
use Rattle.log_store.specs.Store.{lent, well_formed_store}
use Rattle.log_store.proofs.Facts.{facts, below_fact}
use Rattle.log_store.proofs.Firsts.{firsts_same}
use Rattle.log_store.proofs.Written.{part-kept, part-new}
use Rattle.image_store.specs.Image.{words, patterns, op_at, entry_at, log_at}
use Rattle.image_store.specs.Read.{tamed, used_at, codes_in, lengths_in, readable, stretch_read, floats_read, columns_at, all_readable}
use Rattle.image_store.proofs.Words.{words-at, words-length, floats-length, tamed_in}
use Rattle.image_store.proofs.Reading.{used-short, used-within, read_length}

-- patterns in the domain are read as they are
tamed-all : (bits : List ℕ) → every bits_in_domain bits ≡ true → map tamed bits ≡ bits
tamed-all [] e = refl
tamed-all (b ∷ bits) e =
    let t = every_tail bits_in_domain b bits e in
    rw (tamed_in b t.0, tamed-all bits t.1)

module _ (s : List ℕ) (base : ℕ) where
  -- a stretch is read by its own entry, and kept by the later ones
  stretch-read : (n i : ℕ) (fs : List Float) → i < n → n * 32 ≤ length fs
      → take (used_at s base i) (drop (i * 32) (floats_read s base n fs)) ≡ floats_of (map tamed (patterns s base i (used_at s base i)))
  unfolding floats_read stretch_read
  stretch-read zero i fs h r = absurd (omega arith)
  stretch-read (suc n) i fs h r =
      let l = floats_read s base n fs in
      let k = read_length s base n fs (omega arith) in
      ⊎_elim
      (λ (q : i ≡ n).
      let v = floats_of (map tamed (patterns s base n (used_at s base n))) in
      let z : length v ≡ used_at s base n = floats-length (patterns s base n (used_at s base n)) ∙ words-length 4 (used_at s base n) s (base + 26624 + n * 128) in
      rw q (ap (λ (m : ℕ). take m (drop (n * 32) (take (n * 32) l ++ (v ++ drop (n * 32 + used_at s base n) l)))) (sym z)
      ∙ part-new l v (drop (n * 32 + used_at s base n) l) (n * 32) (omega arith)))
      (λ (lt : i < n).
      let u = used-within s base i in
      part-kept l _ (n * 32) (i * 32) (used_at s base i) (omega arith) (omega arith) ∙ stretch-read n i fs lt (omega arith))
      (eq-or-lt_of_le {n = i} {m = n} (omega arith))

  pub byte_at : (at i : ℕ) → i < 1024 → get_or (take 1024 (drop at s)) i 0 ≡ get_or s (at + i) 0
  byte_at at i h = get_or-take 1024 (drop at s) i 0 h ∙ get_or-drop at s i 0

  number-at : (at i : ℕ) → i < 1024 → get_or (words 8 1024 s at) i 0 ≡ number_at 8 s (at + i * 8)
  number-at at i h = words-at 8 1024 s at i h ∙ ap (λ (m : ℕ). number_at 8 s (at + m)) (mul_comm 8 i)

  module _ (count : ℕ) (fs : List Float) (most : count ≤ 1024) (room : count * 32 ≤ length fs)
      (fine : (i : ℕ) → i < count → readable s base i ≡ true)
      (short : (i : ℕ) → i < count → get_or (codes_in s base) i 0 ≡ 1 → get_or (lengths_in s base) i 0 ≤ 32) where
    op-read : (i : ℕ) → i < count → op_of (columns_at s base count fs) i ≡ op_at s base i
    unfolding op_of op_at op_from stretch columns_at
    op-read i h =
        let m : i < 1024 = omega arith in
        let kc = byte_at (base + 24576) i m in
        let kl = byte_at (base + 25600) i m in
        go (eqb (get_or (codes_in s base) i 0) 1) refl
        ∙ rw (kc, kl, number-at (base + 16384) i m)
      where
        go : (b : Bool) → eqb (get_or (codes_in s base) i 0) 1 ≡ b
            → cond b (upsert (get_or (words 8 1024 s (base + 16384)) i 0) (take (get_or (lengths_in s base) i 0) (drop (i * 32) (floats_read s base count fs)))) (delete (get_or (words 8 1024 s (base + 16384)) i 0))
            ≡ cond b (upsert (get_or (words 8 1024 s (base + 16384)) i 0) (floats_of (patterns s base i (get_or (lengths_in s base) i 0)))) (delete (get_or (words 8 1024 s (base + 16384)) i 0))
        go true e =
            let q = eqb-true (get_or (codes_in s base) i 0) 1 e in
            let u : get_or (lengths_in s base) i 0 ≡ used_at s base i = used-short (get_or (codes_in s base) i 0) (get_or (lengths_in s base) i 0) q (short i h q) in
            ap (upsert (get_or (words 8 1024 s (base + 16384)) i 0))
            (rw u (stretch-read count i fs h room ∙ ap floats_of (tamed-all (patterns s base i (used_at s base i)) (fine i h))))
        go false e = refl

    entry_read : (i : ℕ) → i < count → entry_of (columns_at s base count fs) i ≡ entry_at s base i
    unfolding entry_of entry_at columns_at
    entry_read i h =
        let m : i < 1024 = omega arith in
        rw (number-at base i m, number-at (base + 8192) i m, op-read i h)

    pub read_log_is : log_of (columns_at s base count fs) count ≡ log_at s base count
    unfolding log_of log_at
    read_log_is = firsts_same (entry_of (columns_at s base count fs)) (entry_at s base) count entry_read

  -- of a store whose columns, read from an image, pass the test (24): the log of the columns is the log of the image. The rows are, by
  -- their definition
  pub image_log : (count stored : ℕ) (fs : List Float) (ks ps : List ℕ) → length fs ≡ 32768 → all_readable s base count ≡ true
      → well_formed_store (lent (columns_at s base count fs) ks ps count stored) ≡ true
      → log_of (columns_at s base count fs) count ≡ log_at s base count
  unfolding all_readable columns_at
  image_log count stored fs ks ps r a w =
      let f = facts (lent (columns_at s base count fs) ks ps count stored) w in
      let m = f.count in
      read_log_is count fs m (omega arith) (below_fact (readable s base) count a) (λ i h q. short i (f.codes i h) q)
    where
      short : (i : ℕ) → cond (eqb (get_or (codes_in s base) i 0) 1) (leb (get_or (lengths_in s base) i 0) 32) (eqb (get_or (codes_in s base) i 0) 2) ≡ true
          → get_or (codes_in s base) i 0 ≡ 1 → get_or (lengths_in s base) i 0 ≤ 32
      short i e q =
          leb-true (get_or (lengths_in s base) i 0) 32
          (sym (ap (λ (b : Bool). cond b (leb (get_or (lengths_in s base) i 0) 32) (eqb (get_or (codes_in s base) i 0) 2)) (eq-eqb (get_or (codes_in s base) i 0) 1 q)) ∙ e)
