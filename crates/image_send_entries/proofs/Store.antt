-- Entries in the bytes of a store are those of the columns that the bytes are, as they are sent. Assumes nothing.
use Prim.Native.Nat.{ℕ, zero, suc, ◌+◌, ◌-◌, ◌*◌, ◌^◌, ◌≤◌, ◌<◌}
use mathlib.Core.Path.{◌≡◌, refl, sym, ap, ◌∙◌, subst}
use mathlib.Core.Bool.{Bool, true, false, not}
use mathlib.Core.List.{List, [], ◌++◌, map, append_assoc}
use native.Mathlib.Omega.{arith}
use native.Mathlib.Nat.{add-zero, mul-zero, mul-suc, mul_comm}
use borrow.Author.Tests.{eq-eqb, ne_eqb}
use lib.Dec.{T, eqb}
use lib.Ieee.{binary32}
use lib.Ieee.Bits.{to_bits-of_bits, nan_bits_is}
use lib.ListN.{length, get_or, take, drop, set, length-drop}
use lib.Seq.{sets, take-append_seam, length-take-le}
use Rattle.spec.specs.Lists.{every}
use Rattle.spec.specs.Log.{Entry, Log, components}
use Rattle.spec.specs.Layout.Format.{Bytes, bytes_of, number_at, concat_map}
use Rattle.spec.specs.Nearest.Order.{bits_in_domain}
use Rattle.spec.specs.Node.Wire.{float_of, bits_of, floats_of}
use Rattle.spec_laws.proofs.Lists.{and_left, and_right}
use Rattle.spec_laws.proofs.Wire.Bytes.{bytes-number, number-below}
use Rattle.spec_laws.proofs.Map.Rows.{every_tail}
use Rattle.wire_write.specs.Written.{op_bytes, op_size}
use Rattle.wire_write.specs.Rows.{rows_size}
use Rattle.wire_write.proofs.Rows.{size_step}
use Rattle.wire_write.proofs.Writes.{sets_then, length-words, upsert_put}
use Rattle.log_store.specs.View.{Columns, op_from, entry_of, log_of}
use Rattle.log_store.specs.Store.{Sized}
use Rattle.log_store.proofs.Bits.{domain_number}
use Rattle.log_store.proofs.Columns.{look_at}
use Rattle.log_store.proofs.Facts.{below_fact}
use Rattle.log_store.proofs.Firsts.{firsts_at}
use Rattle.node_header.specs.declared.HeldRow.{HeldRow}
use Rattle.node_lent.specs.Lend.{store_of}
use Rattle.node_send_entries.specs.Sent.{op_sent, entry_sent}
use Rattle.node_send_entries.proofs.EntryLaws.{sendable, vector, op_bytes_lem, entry-bytes}
use Rattle.image_store.specs.Image.{words, patterns, op_at, entry_at, log_at}
use Rattle.image_store.specs.Read.{codes_in, lengths_in, readable, columns_at, all_readable}
use Rattle.image_store.proofs.Words.{words-length, words-at}
use Rattle.image_store.proofs.Reading.{used-short}
use Rattle.image_store.proofs.Read.{byte_at, image_log}
use Rattle.image_store.proofs.Test.{store_read, image_test}
use Rattle.image_node.specs.Lent.{no_lent_store, begin_of, lent_store_at}
use Rattle.image_node.specs.State.{held_row_image}
use Rattle.image_node.proofs.Pick.{floats-whole}
use Rattle.image_send_entries.specs.Store.{store_columns, Sends}

-- ---- patterns copied as they stand

-- those of the domain are the bits of their floats
bits_back : (b : ℕ) → b < 256 ^ 4 → bits_in_domain b ≡ true → bits_of (float_of b) ≡ b
bits_back b h e = to_bits-of_bits binary32 b h (subst (λ (t : Bool). T (not t)) (nan_bits_is binary32 b) (domain_number b e))

patterns-back : (n : ℕ) (s : List ℕ) (at : ℕ) → Bytes s → every bits_in_domain (words 4 n s at) ≡ true → map bits_of (floats_of (words 4 n s at)) ≡ words 4 n s at
unfolding words floats_of
patterns-back zero s at b e = refl
patterns-back (suc n) s at b e =
    let t = every_tail bits_in_domain (number_at 4 s at) (words 4 n s (at + 4)) e in
    rw (bits_back (number_at 4 s at) (number-below 4 s at b) t.0, patterns-back n s (at + 4) b t.1)

words-then : (n : ℕ) (s : List ℕ) (at : ℕ) → Bytes s → at + 4 * n ≤ length s → concat_map (bytes_of 4) (words 4 n s at) ++ drop (at + 4 * n) s ≡ drop at s
unfolding words
words-then zero s at b h = rw (mul-zero, add-zero)
words-then (suc n) s at b h =
    let q : at + 4 * suc n ≡ at + 4 + 4 * n = omega (arith, mul-suc 4 n) in
    append_assoc (bytes_of 4 (number_at 4 s at)) (concat_map (bytes_of 4) (words 4 n s (at + 4))) (drop (at + 4 * suc n) s)
    ∙ ap (λ (l : List ℕ). bytes_of 4 (number_at 4 s at) ++ l)
    (ap (λ (k : ℕ). concat_map (bytes_of 4) (words 4 n s (at + 4)) ++ drop k s) q ∙ words-then n s (at + 4) b (omega arith))
    ∙ bytes-number 4 s at b (omega arith)

module _ (s : List ℕ) (from n : ℕ) (room : from + 4 * n ≤ length s) where
  pub part_long : length (take (from + 4 * n - from) (drop from s)) ≡ 4 * n
  part_long =
      let k : from + 4 * n - from ≡ 4 * n = omega arith in
      ap (λ (m : ℕ). length (take m (drop from s))) k ∙ length-take-le (4 * n) (drop from s) (omega (arith, length-drop from s))

  part-words : Bytes s → take (from + 4 * n - from) (drop from s) ≡ concat_map (bytes_of 4) (words 4 n s from)
  part-words b =
      let w = concat_map (bytes_of 4) (words 4 n s from) in
      let l : from + 4 * n - from ≡ length w = omega (arith, length-words 4 (words 4 n s from), words-length 4 n s from) in
      ap (λ (m : ℕ). take m (drop from s)) l
      ∙ ap (take (length w)) (sym (words-then n s from b room))
      ∙ take-append_seam w (drop (from + 4 * n) s)

  pub upsert_copied : n ≤ 32 → Bytes s → (l : List ℕ) (at id : ℕ)
      → sets (set (sets (set l at 1) (at + 1) (bytes_of 8 id)) (at + 9) n) (at + 10) (take (from + 4 * n - from) (drop from s))
      ≡ sets l at (op_bytes true id (words 4 n s from))
  upsert_copied few b l at id =
      let m = words-length 4 n s from in
      ap (λ (v : List ℕ). sets (set (sets (set l at 1) (at + 1) (bytes_of 8 id)) (at + 9) n) (at + 10) v) (part-words b)
      ∙ ap (λ (k : ℕ). sets (set (sets (set l at 1) (at + 1) (bytes_of 8 id)) (at + 9) k) (at + 10) (concat_map (bytes_of 4) (words 4 n s from))) (sym m)
      ∙ upsert_put l at id (words 4 n s from) (omega arith)

-- ---- what an operation takes

pub upsert_room : (code len : ℕ) → code ≡ 1 → op_size (eqb code 1) len ≡ 10 + 4 * len
upsert_room code len e = rw (eq-eqb code 1 e)

pub delete_room : (code len : ℕ) → (code ≡ 1 → ⊥) → op_size (eqb code 1) len ≡ 9
delete_room code len e = rw (ne_eqb code 1 e)

module _ (s : List ℕ) (base : ℕ) where
  byte_size : (i : ℕ) → i < 1024 → op_size (eqb (get_or (codes_in s base) i 0) 1) (get_or (lengths_in s base) i 0)
      ≡ op_size (eqb (get_or s (base + 24576 + i) 0) 1) (get_or s (base + 25600 + i) 0)
  byte_size i h = rw (byte_at s base (base + 24576) i h, byte_at s base (base + 25600) i h)

  -- one entry more
  pub size-next : (end i : ℕ) → i < end → end ≤ 1024
      → rows_size (codes_in s base) (lengths_in s base) (end - i) i
      ≡ 16 + op_size (eqb (get_or s (base + 24576 + i) 0) 1) (get_or s (base + 25600 + i) 0) + rows_size (codes_in s base) (lengths_in s base) (end - (i + 1)) (i + 1)
  size-next end i h m =
      size_step (codes_in s base) (lengths_in s base) end i h
      ∙ ap (λ (n : ℕ). 16 + n + rows_size (codes_in s base) (lengths_in s base) (end - (i + 1)) (i + 1)) (byte_size i (omega arith))

-- ---- a store that passed the test

pub sends_of : (s : List ℕ) (x : HeldRow) → Sized (store_of (lent_store_at s x) x) → held_row_image s x ≡ true → begin_of x + 174080 ≤ length s → Bytes s
    → Sends s (begin_of x) x.held.last
unfolding lent_store_at
sends_of s x sized well room b =
    let fs = no_lent_store.columns.floats in
    let r = store_read s (begin_of x) x.held.last x.stored fs floats-whole in
    let t = image_test s (begin_of x) x.held.last x.stored fs floats-whole ∙ well in
    let inside = and_left (all_readable s (begin_of x) x.held.last) _ t in
    let fine = and_right (all_readable s (begin_of x) x.held.last) _ t in
    record {
      stands = room;
      bytes = b;
      sendable = sendable r sized fine;
      inside = inside;
      log = image_log s (begin_of x) x.held.last x.stored fs r.keys r.places floats-whole inside fine;
    }

module _ (s : List ℕ) (base count : ℕ) (d : Sends s base count) (i : ℕ) (h : i < count) where
  abbrev c : Columns
  c = store_columns s base count

  abbrev code : ℕ
  code = get_or s (base + 24576 + i) 0

  abbrev len : ℕ
  len = get_or s (base + 25600 + i) 0

  abbrev id : ℕ
  id = number_at 8 s (base + 16384 + i * 8)

  pub few : i < 1024
  few = let m = d.sendable.room.count in omega arith

  code_is : get_or c.codes i 0 ≡ code
  unfolding columns_at
  code_is = byte_at s base (base + 24576) i few

  length-is : get_or c.lengths i 0 ≡ len
  unfolding columns_at
  length-is = byte_at s base (base + 25600) i few

  word-is : (at : ℕ) → get_or (words 8 1024 s at) i 0 ≡ number_at 8 s (at + i * 8)
  word-is at = words-at 8 1024 s at i few ∙ ap (λ (m : ℕ). number_at 8 s (at + m)) (mul_comm 8 i)

  pub epoch-is : get_or c.epochs i 0 ≡ number_at 8 s (base + i * 8)
  unfolding columns_at
  epoch-is = word-is base

  pub offset-is : get_or c.offsets i 0 ≡ number_at 8 s (base + 8192 + i * 8)
  unfolding columns_at
  offset-is = word-is (base + 8192)

  id-is : get_or c.ids i 0 ≡ id
  unfolding columns_at
  id-is = word-is (base + 16384)

  -- how much of the output it takes
  pub size_is : op_size (eqb (get_or c.codes i 0) 1) (get_or c.lengths i 0) ≡ op_size (eqb code 1) len
  size_is = rw (code_is, length-is)

  pub entry-is : entry_of c i ≡ entry_at s base i
  unfolding log_of log_at
  entry-is =
      let e₀ = entry_at s base i in
      sym (firsts_at (entry_of c) count i e₀ h) ∙ ap (λ (l : Log). get_or l i e₀) d.log ∙ firsts_at (entry_at s base) count i e₀ h

  module _ (q : code ≡ 1) where
    pub short : len ≤ 32
    short = let k = d.sendable.room.short i h (code_is ∙ q) in let l = length-is in omega arith

    inside : every bits_in_domain (words 4 len s (base + 26624 + i * 128)) ≡ true
    unfolding all_readable columns_at
    inside =
        let l = length-is in
        let k = short in
        let u = used-short (get_or c.codes i 0) (get_or c.lengths i 0) (code_is ∙ q) (omega arith) in
        subst (λ (n : ℕ). every bits_in_domain (patterns s base i n) ≡ true) (sym u ∙ l) (below_fact (readable s base) count d.inside i h)

    pub op_set_sent : op_bytes true id (words 4 len s (base + 26624 + i * 128)) ≡ op_sent c i
    unfolding entry_of entry_at op_at op_from
    op_set_sent =
        let v = vector c count d.sendable i h in
        let w = words 4 len s (base + 26624 + i * 128) in
        let f : v ≡ floats_of w =
        look_at c count (i + 1) i refl h ∙ ap (λ (e : Entry). components e.op) entry-is ∙ (rw (eq-eqb code 1 q)) in
        let b : map bits_of v ≡ w = ap (map bits_of) f ∙ patterns-back len s (base + 26624 + i * 128) d.bytes inside in
        ap (λ (u : Bool). op_bytes u id w) (sym (eq-eqb (get_or c.codes i 0) 1 (code_is ∙ q)))
        ∙ ap (op_bytes (eqb (get_or c.codes i 0) 1) id) (sym b)
        ∙ ap (λ (n : ℕ). op_bytes (eqb (get_or c.codes i 0) 1) n (map bits_of v)) (sym id-is)
        ∙ op_bytes_lem c count d.sendable i h

  pub op_drop_sent : (code ≡ 1 → ⊥) → op_bytes false id [] ≡ op_sent c i
  op_drop_sent q =
      let w = map bits_of (vector c count d.sendable i h) in
      ap (λ (u : Bool). op_bytes u id w) (sym (ne_eqb (get_or c.codes i 0) 1 (λ z. q (sym code_is ∙ z))))
      ∙ ap (λ (n : ℕ). op_bytes (eqb (get_or c.codes i 0) 1) n w) (sym id-is)
      ∙ op_bytes_lem c count d.sendable i h

  pub entry-sent : (l : List ℕ) (at : ℕ)
      → sets (sets (sets l at (bytes_of 8 (number_at 8 s (base + i * 8)))) (at + 8) (bytes_of 8 (number_at 8 s (base + 8192 + i * 8)))) (at + 16) (op_sent c i)
      ≡ sets l at (entry_sent c i)
  entry-sent l at =
      let e = number_at 8 s (base + i * 8) in
      let o = number_at 8 s (base + 8192 + i * 8) in
      let q : at + 16 ≡ at + 8 + 8 = omega arith in
      sets_then (sets l at (bytes_of 8 e)) (at + 8) (at + 16) (bytes_of 8 o) (op_sent c i) q
      ∙ sets_then l at (at + 8) (bytes_of 8 e) (bytes_of 8 o ++ op_sent c i) refl
      ∙ ap (λ (x : ℕ). sets l at (bytes_of 8 x ++ (bytes_of 8 o ++ op_sent c i))) (sym epoch-is)
      ∙ ap (λ (x : ℕ). sets l at (bytes_of 8 (get_or c.epochs i 0) ++ (bytes_of 8 x ++ op_sent c i))) (sym offset-is)
      ∙ ap (λ (x : List ℕ). sets l at (bytes_of 8 (get_or c.epochs i 0) ++ (bytes_of 8 (get_or c.offsets i 0) ++ x))) (sym (op_bytes_lem c count d.sendable i h))
      ∙ ap (sets l at) (entry-bytes c count d.sendable i h)
