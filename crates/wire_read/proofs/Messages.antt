-- The messages kind by kind: what makes all of the bytes one message, and what is then shown. Assumes nothing.
use Rattle.std.proofs.Common.{◌≡◌, ℕ, ◌+◌, ◌<◌, ◌≤◌, Bool, true, false, cond, eqb, List, [], ◌∷◌, length, get_or, sym, refl, ap, ◌∙◌, arith, eq-eqb, ne_eqb, leb-true}
use mathlib.Core.Option.{Option, none, some}
use borrow.Author.Tests.{lt-leb}
use Rattle.spec.specs.Lists.{◌and◌}
use Rattle.spec.specs.Layout.Format.{Format, code, word, below, text, ◌▸◌, many, fits, next, value, number_at, whole}
use Rattle.spec.specs.Layout.Parts.{u64, u32, key_f, op_f, vector_f, metric_f, table_f, entry_f, entries_f, key_of, op_of, metric_of, end_of, entry_of, whenever}
use Rattle.spec.specs.Layout.Request.{request_f, command_f, command_of, request_at}
use Rattle.spec.specs.Layout.Request as request
use Rattle.spec.specs.Layout.Message.{replicate_f, new_epoch_f, copy_shard_f, write_f, search_f, reply_f, decode_replicate, decode_new_epoch, decode_copy_shard, decode_write, decode_search, decode_reply}
use Rattle.spec_laws.proofs.Wire.Tests.{and_left, and_right, and_intro}
use Rattle.spec_laws.proofs.Wire.Data.{length_mapped}
use Rattle.wire_shape.specs.Skip.{skip}
use Rattle.std.specs.Prelude.{Some, None}
use Rattle.std.specs.Prelude as prelude
use Rattle.std.specs.Option.{unwrap_or}
use Rattle.std.proofs.lemmas.Option.{some_pair_parts}
use Rattle.wire_read.specs.Shown.{part, key_shown, op_shown, command_shown, shown_or, replicate_shown, new_epoch_shown, copy_shown, write_shown, search_shown, reply_shown, request_read_of, request_part_of, request_end, request_shown, read_or, shown, message_of}
use Rattle.wire_read.specs.declared.Message.{Message}
use Rattle.wire_read.specs.declared.RequestPart.{RequestPart}
use Rattle.wire_read.specs.declared.RequestRead.{RequestRead}
use Rattle.wire_read.specs.declared.Message.TheVariants.{Undecodable, Request, Replicate, NewEpoch, CopyShard, Write, Search, Stored, Gap, StaleEpoch, Adopted}
use Rattle.wire_shape.proofs.Skips.{no_1, no_2, skip-next, skip_bad, pair_then, pair_bad, code-first, code_other, Same, same-skip, same_trans, same_after, same_first, same-words, same_words_then, same_keyed_then, same-many}
use Rattle.wire_read.proofs.Places.{length-value_n, count-length}

-- ---- a code, and then two groups of fields

module _ (c : ℕ) (r a g : Format) (same : Same r (a ▸ g)) (s : List ℕ) (pos : 0 < c) (h : get_or s 0 0 ≡ c) where
  first-there : (n : ℕ) → length s ≡ n → get_or s 0 0 ≡ c → 0 < n
  first-there n l e = there s n l e
    where
      there : (l : List ℕ) (n : ℕ) → length l ≡ n → get_or l 0 0 ≡ c → 0 < n
      there [] n l e = omega arith
      there (x ∷ xs) n l e = omega arith

  coded : skip r s 1 ≡ skip (code c ▸ r) s 0
  coded = code-first c r s 0 (first-there (length s) refl h) h

  grouped : skip r s 1 ≡ skip (a ▸ g) s 1
  grouped = same-skip r (a ▸ g) same s 1

  whole_bad' : skip (code c ▸ r) s 0 ≡ None → whole (code c ▸ r) s ≡ false
  unfolding whole
  whole_bad' e = no_1 _ _ (skip_bad (code c ▸ r) s 0 e)

  pub head_bad : skip a s 1 ≡ None → whole (code c ▸ r) s ≡ false
  head_bad e = whole_bad' (sym (pair_bad a g s 1 e ∙ sym grouped ∙ coded))

  module _ (p : ℕ) (e : skip a s 1 ≡ Some p) where
    chain : skip g s (next a s 1) ≡ skip (code c ▸ r) s 0
    chain = pair_then a g s 1 p e ∙ sym grouped ∙ coded

    pub rest_bad : skip g s (next a s 1) ≡ None → whole (code c ▸ r) s ≡ false
    rest_bad f = whole_bad' (sym chain ∙ f)

    pub rest-left : (q : ℕ) → skip g s (next a s 1) ≡ Some q → (q ≡ length s → ⊥) → whole (code c ▸ r) s ≡ false
    unfolding whole
    rest-left q f n =
        let k = skip-next (code c ▸ r) s 0 q (sym chain ∙ f) in
        no_2 _ _ (ne_eqb _ _ (λ x. n (sym k.1 ∙ x)))

    pub rest_all : (q : ℕ) → skip g s (next a s 1) ≡ Some q → q ≡ length s → whole (code c ▸ r) s ≡ true
    unfolding whole
    rest_all q f n =
        let k = skip-next (code c ▸ r) s 0 q (sym chain ∙ f) in
        and_intro k.0 (eq-eqb _ _ (k.1 ∙ n))

-- key and epoch of 20 to 24, and what follows
module _ (c : ℕ) (g : Format) (s : List ℕ) (w : whole (code c ▸ (key_f ▸ (u64 ▸ g))) s ≡ true) where
  pub key-there : fits key_f s 1 ≡ true
  unfolding whole
  key-there = and_left _ _ (and_right _ _ (and_left _ _ w))

  pub epoch-there : 46 ≤ length s
  unfolding whole
  epoch-there = leb-true _ _ (and_left _ _ (and_right _ _ (and_right _ _ (and_left _ _ w))))

  pub rest-there : fits g s 46 ≡ true
  unfolding whole
  rest-there = and_right _ _ (and_right _ _ (and_right _ _ (and_left _ _ w)))

-- ---- the fields, as the code groups them

pub same_replicate : Same (key_f ▸ (u64 ▸ (u64 ▸ op_f))) ((text 32 ▸ word 20) ▸ op_f)
same_replicate =
    same_trans (key_f ▸ (u64 ▸ (u64 ▸ op_f))) (key_f ▸ (word 16 ▸ op_f)) ((text 32 ▸ word 20) ▸ op_f)
    (same_after key_f (u64 ▸ (u64 ▸ op_f)) (word 16 ▸ op_f) (same_words_then 8 8 op_f)) (same_keyed_then 32 4 16 op_f)

pub same_new_epoch : Same (key_f ▸ (u64 ▸ (u64 ▸ (table_f ▸ metric_f)))) ((text 32 ▸ word 20) ▸ (many 2 0 1024 (word 16) ▸ below 2))
same_new_epoch =
    same_trans (key_f ▸ (u64 ▸ (u64 ▸ (table_f ▸ metric_f)))) (key_f ▸ (word 16 ▸ (table_f ▸ metric_f)))
    ((text 32 ▸ word 20) ▸ (many 2 0 1024 (word 16) ▸ below 2))
    (same_after key_f (u64 ▸ (u64 ▸ (table_f ▸ metric_f))) (word 16 ▸ (table_f ▸ metric_f)) (same_words_then 8 8 (table_f ▸ metric_f)))
    (same_trans (key_f ▸ (word 16 ▸ (table_f ▸ metric_f))) ((text 32 ▸ word 20) ▸ (table_f ▸ metric_f))
    ((text 32 ▸ word 20) ▸ (many 2 0 1024 (word 16) ▸ below 2))
    (same_keyed_then 32 4 16 (table_f ▸ metric_f))
    (same_after (text 32 ▸ word 20) (table_f ▸ metric_f) (many 2 0 1024 (word 16) ▸ below 2)
    (same_first table_f (many 2 0 1024 (word 16)) metric_f (same-many 2 0 1024 (u64 ▸ u64) (word 16) (same-words 8 8)))))

pub same_copy : Same (key_f ▸ (u64 ▸ entries_f)) ((text 32 ▸ word 12) ▸ entries_f)
same_copy = same_keyed_then 32 4 8 entries_f

pub same_write : Same (key_f ▸ (u64 ▸ op_f)) ((text 32 ▸ word 12) ▸ op_f)
same_write = same_keyed_then 32 4 8 op_f

pub same_search : Same (key_f ▸ (u64 ▸ (u32 ▸ vector_f))) ((text 32 ▸ word 16) ▸ vector_f)
same_search =
    same_trans (key_f ▸ (u64 ▸ (u32 ▸ vector_f))) (key_f ▸ (word 12 ▸ vector_f)) ((text 32 ▸ word 16) ▸ vector_f)
    (same_after key_f (u64 ▸ (u32 ▸ vector_f)) (word 12 ▸ vector_f) (same_words_then 8 4 vector_f)) (same_keyed_then 32 4 12 vector_f)

pub same-request : Same (u64 ▸ (u64 ▸ (u64 ▸ command_f))) (word 24 ▸ command_f)
same-request =
    same_trans (u64 ▸ (u64 ▸ (u64 ▸ command_f))) (u64 ▸ (word 16 ▸ command_f)) (word 24 ▸ command_f)
    (same_after u64 (u64 ▸ (u64 ▸ command_f)) (word 16 ▸ command_f) (same_words_then 8 8 command_f)) (same_words_then 8 16 command_f)

-- ---- what is shown

module _ (s : List ℕ) where
  pub replicate_not : whole replicate_f s ≡ false → None ≡ shown replicate_shown (decode_replicate s)
  unfolding decode_replicate
  replicate_not w = rw w

  pub replicate_is : whole replicate_f s ≡ true
      → Some (Replicate (record {
        key = key_shown 1 (key_of (value key_f s 1));
        epoch = record { 0 = number_at 8 s 38 };
        offset = record { 0 = number_at 8 s 46 };
        op = op_shown 54 (op_of (value op_f s 54));
      }))
      ≡ shown replicate_shown (decode_replicate s)
  unfolding decode_replicate
  replicate_is w = rw w

  pub write_not : whole write_f s ≡ false → None ≡ shown write_shown (decode_write s)
  unfolding decode_write
  write_not w = rw w

  pub write-is : whole write_f s ≡ true
      → Some (Write (record { key = key_shown 1 (key_of (value key_f s 1)); epoch = record { 0 = number_at 8 s 38 }; op = op_shown 46 (op_of (value op_f s 46)) }))
      ≡ shown write_shown (decode_write s)
  unfolding decode_write
  write-is w = rw w

  pub search_not : whole search_f s ≡ false → None ≡ shown search_shown (decode_search s)
  unfolding decode_search
  search_not w = rw w

  pub search_is : whole search_f s ≡ true
      → Some (Search (record {
        key = key_shown 1 (key_of (value key_f s 1));
        epoch = record { 0 = number_at 8 s 38 };
        k = number_at 4 s 46;
        vector = part 51 (get_or s 50 0);
      }))
      ≡ shown search_shown (decode_search s)
  unfolding decode_search
  search_is w =
      rw w
      (λ i. Some (Search (record {
        key = key_shown 1 (key_of (value key_f s 1));
        epoch = record { 0 = number_at 8 s 38 };
        k = number_at 4 s 46;
        vector = part 51 (sym (count-length 1 32 u32 s 50) i);
      })))

  pub copy_not : whole copy_shard_f s ≡ false → None ≡ shown copy_shown (decode_copy_shard s)
  unfolding decode_copy_shard
  copy_not w = rw w

  pub copy_is : whole copy_shard_f s ≡ true
      → Some (CopyShard (record { key = key_shown 1 (key_of (value key_f s 1)); epoch = record { 0 = number_at 8 s 38 }; entries = part 48 (number_at 2 s 46) }))
      ≡ shown copy_shown (decode_copy_shard s)
  unfolding decode_copy_shard
  copy_is w =
      let n = length_mapped entry_of (value entries_f s 46) ∙ length-value_n (value entry_f s) (next entry_f s) (number_at 2 s 46) 48 in
      rw w
      (λ i. Some (CopyShard (record { key = key_shown 1 (key_of (value key_f s 1)); epoch = record { 0 = number_at 8 s 38 }; entries = part 48 (sym n i) })))

  pub new_epoch_not : whole new_epoch_f s ≡ false → None ≡ shown new_epoch_shown (decode_new_epoch s)
  unfolding decode_new_epoch
  new_epoch_not w = rw w

  pub new_epoch_is : (p : ℕ) → whole new_epoch_f s ≡ true → next table_f s 54 ≡ p
      → Some (NewEpoch (record {
        key = key_shown 1 (key_of (value key_f s 1));
        epoch = record { 0 = number_at 8 s 38 };
        end = record { 0 = number_at 8 s 46 };
        table = part 56 (number_at 2 s 54);
        metric = metric_of (get_or s p 0);
      }))
      ≡ shown new_epoch_shown (decode_new_epoch s)
  unfolding decode_new_epoch
  new_epoch_is p w e =
      let n = length_mapped end_of (value table_f s 54)
      ∙ length-value_n (value (u64 ▸ u64) s) (next (u64 ▸ u64) s) (number_at 2 s 54) 56 in
      rw w
      (λ i. Some (NewEpoch (record {
        key = key_shown 1 (key_of (value key_f s 1));
        epoch = record { 0 = number_at 8 s 38 };
        end = record { 0 = number_at 8 s 46 };
        table = part 56 (sym n i);
        metric = metric_of (get_or s (sym e i) 0);
      })))

-- ---- replies

module _ (s : List ℕ) where
  reply-next : (a b c : Bool) → ◌≡◌ {A = ℕ} (cond a 9 (cond b 9 (cond c 9 9))) 9
  reply-next true b c = refl
  reply-next false true c = refl
  reply-next false false true = refl
  reply-next false false false = refl

  pub reply-length : (length s ≡ 9 → ⊥) → None ≡ shown reply_shown (decode_reply s)
  unfolding decode_reply whole
  reply-length n =
      let e : next reply_f s 0 ≡ 9 = reply-next (eqb (get_or s 0 0) 0x30) (eqb (get_or s 0 0) 0x31) (eqb (get_or s 0 0) 0x32) in
      let w : (fits reply_f s 0 and eqb (next reply_f s 0) (length s)) ≡ false = no_2 _ _ (ne_eqb _ _ (λ x. n (sym x ∙ e))) in
      rw w

  module _ (l : length s ≡ 9) where
    pub reply_30 : get_or s 0 0 ≡ 0x30 → Some (Stored (record { 0 = number_at 8 s 1 })) ≡ shown reply_shown (decode_reply s)
    unfolding decode_reply whole ◌and◌
    reply_30 e = rw (l, e)

    pub reply_31 : get_or s 0 0 ≡ 0x31 → Some (Gap (record { 0 = number_at 8 s 1 })) ≡ shown reply_shown (decode_reply s)
    unfolding decode_reply whole ◌and◌
    reply_31 e = rw (l, e)

    pub reply_32 : get_or s 0 0 ≡ 0x32 → Some (StaleEpoch (record { 0 = number_at 8 s 1 })) ≡ shown reply_shown (decode_reply s)
    unfolding decode_reply whole ◌and◌
    reply_32 e = rw (l, e)

    pub reply_33 : get_or s 0 0 ≡ 0x33 → Some (Adopted (record { 0 = number_at 8 s 1 })) ≡ shown reply_shown (decode_reply s)
    unfolding decode_reply whole ◌and◌
    reply_33 e = rw (l, e)

  pub reply-none : (get_or s 0 0 ≡ 0x30 → ⊥) → (get_or s 0 0 ≡ 0x31 → ⊥) → (get_or s 0 0 ≡ 0x32 → ⊥) → (get_or s 0 0 ≡ 0x33 → ⊥)
      → None ≡ shown reply_shown (decode_reply s)
  unfolding decode_reply whole
  reply-none a b c d =
      let w : (fits reply_f s 0 and eqb (next reply_f s 0) (length s)) ≡ false =
      no_1 _ _ (no_2 _ _ (rw (ne_eqb _ 0x30 a) (no_2 _ _ (rw (ne_eqb _ 0x31 b) (no_2 _ _ (rw (ne_eqb _ 0x32 c) (no_1 _ _ (no_2 _ _ (ne_eqb _ 0x33 d))))))))) in
      rw w

-- ---- requests at a position

module _ (s : List ℕ) (at : ℕ) where
  pub request_no : skip request_f s at ≡ None → None ≡ request_part_of s at
  unfolding request_part_of request_at
  request_no e = rw (skip_bad request_f s at e)

  pub request-is : (end : ℕ) → skip request_f s at ≡ Some end
      → Some (
        record {
          index = number_at 8 s (at + 1);
          client = number_at 8 s (at + 1 + 8);
          seq = number_at 8 s (at + 1 + 8 + 8);
          command = command_shown (at + 1 + 8 + 8 + 8) (command_of (value command_f s (at + 1 + 8 + 8 + 8)));
        },
        end,
      )
      ≡ request_part_of s at
  unfolding request_part_of request_at
  request-is end e =
      let h = skip-next request_f s at end e in
      rw h.0
      (λ i. Some (
        record {
          index = number_at 8 s (at + 1);
          client = number_at 8 s (at + 1 + 8);
          seq = number_at 8 s (at + 1 + 8 + 8);
          command = command_shown (at + 1 + 8 + 8 + 8) (command_of (value command_f s (at + 1 + 8 + 8 + 8)));
        },
        sym h.1 i,
      ))

  -- 24 bytes after the code, and then the command
  pub request_chain : (p : ℕ) → at < length s → get_or s at 0 ≡ 1 → skip (word 24) s (at + 1) ≡ Some p
      → skip command_f s (at + 1 + 8 + 8 + 8) ≡ skip request_f s at
  request_chain p l h e =
      let q : at + 1 + 24 ≡ at + 1 + 8 + 8 + 8 = omega arith in
      ap (skip command_f s) (sym q)
      ∙ pair_then (word 24) command_f s (at + 1) p e
      ∙ sym (same-skip (u64 ▸ (u64 ▸ (u64 ▸ command_f))) (word 24 ▸ command_f) same-request s (at + 1))
      ∙ code-first 1 (u64 ▸ (u64 ▸ (u64 ▸ command_f))) s at l h

  pub request-short : at < length s → get_or s at 0 ≡ 1 → skip (word 24) s (at + 1) ≡ None → None ≡ skip request_f s at
  request-short l h e =
      pair_bad (word 24) command_f s (at + 1) e
      ∙ sym (same-skip (u64 ▸ (u64 ▸ (u64 ▸ command_f))) (word 24 ▸ command_f) same-request s (at + 1))
      ∙ code-first 1 (u64 ▸ (u64 ▸ (u64 ▸ command_f))) s at l h

  pub request-end : length s ≤ at → None ≡ skip request_f s at
  unfolding skip
  request-end l =
      let e : fits request_f s at ≡ false = no_1 _ _ (no_1 _ _ (lt-leb (at + 1) (length s) (omega arith))) in
      rw e

  pub request-other : (get_or s at 0 ≡ 1 → ⊥) → None ≡ skip request_f s at
  request-other n = code_other 1 (u64 ▸ (u64 ▸ (u64 ▸ command_f))) s at n

-- ---- a request that was read

module _ (at : ℕ) where
  -- a value with the position after it, as `request_at` answers it
  abbrev pub placed : (o : prelude.Option (RequestPart × ℕ)) → RequestRead
  placed None = record { message = Undecodable; next = at }
  placed (Some r) = record { message = Request r.0; next = r.1 }

  placed_shown : (o : Option (request.Request × ℕ)) → placed (shown (request_end at) o) ≡ read_or at o
  placed_shown none = refl
  placed_shown (some r) = refl

  pub request_read : (s : List ℕ) (o : prelude.Option (RequestPart × ℕ)) → o ≡ request_part_of s at → placed o ≡ request_read_of s at
  unfolding request_read_of request_part_of
  request_read s o e = ap placed e ∙ placed_shown (request_at s at)

-- ---- all of the bytes as one request

module _ (s : List ℕ) where
  whole-request : (b : Bool) (q : request.Request) (n : ℕ) (p : RequestPart) (end : ℕ) → shown (request_end 0) (whenever b (q, n)) ≡ Some (p, end) → end ≡ length s
      → Some (Request p) ≡ shown (request_shown 0) (whenever (b and eqb n (length s)) q)
  unfolding ◌and◌
  whole-request true q n p end h e =
      let k = some_pair_parts _ _ _ _ h in
      rw (eq-eqb _ _ (k.1 ∙ e)) (ap (λ (x : RequestPart). Some (Request x)) (sym k.0))
  whole-request false q n p end h e = let z : ◌≡◌ {A = ℕ} 0 1 = cc in absurd (omega arith)

  part-request : (b : Bool) (q : request.Request) (n : ℕ) (p : RequestPart) (end : ℕ) → shown (request_end 0) (whenever b (q, n)) ≡ Some (p, end) → (end ≡ length s → ⊥)
      → None ≡ shown (request_shown 0) (whenever (b and eqb n (length s)) q)
  unfolding ◌and◌
  part-request true q n p end h e =
      let k = some_pair_parts _ _ _ _ h in
      rw (ne_eqb _ _ (λ x. e (sym k.1 ∙ x)))
  part-request false q n p end h e = refl

  no-request : (b : Bool) (q : request.Request) (n : ℕ) → shown (request_end 0) (whenever b (q, n)) ≡ None
      → None ≡ shown (request_shown 0) (whenever (b and eqb n (length s)) q)
  unfolding ◌and◌
  no-request true q n h = let z : ◌≡◌ {A = ℕ} 0 1 = cc in absurd (omega arith)
  no-request false q n h = refl

  module _ (p : RequestPart) (end : ℕ) (h : request_part_of s 0 ≡ Some (p, end)) where
    pub request-whole : end ≡ length s → Some (Request p) ≡ shown (request_shown 0) (request.decode_request s)
    unfolding request_part_of request_at request.decode_request whole
    request-whole e = whole-request (fits request_f s 0) (request.request_of (value request_f s 0)) (next request_f s 0) p end h e

    pub request-part : (end ≡ length s → ⊥) → None ≡ shown (request_shown 0) (request.decode_request s)
    unfolding request_part_of request_at request.decode_request whole
    request-part e = part-request (fits request_f s 0) (request.request_of (value request_f s 0)) (next request_f s 0) p end h e

  pub request-none : request_part_of s 0 ≡ None → None ≡ shown (request_shown 0) (request.decode_request s)
  unfolding request_part_of request_at request.decode_request whole
  request-none h = no-request (fits request_f s 0) (request.request_of (value request_f s 0)) (next request_f s 0) h

-- ---- the code picks the kind

module _ {A : Type 0} where
  -- what was read, or Undecodable
  pub or_undecodable : (f : A → Message) (o : Option A) (r : prelude.Option Message) → r ≡ shown f o → unwrap_or r Undecodable ≡ shown_or f o
  or_undecodable f none r e = rw e refl
  or_undecodable f (some a) r e = rw e refl

pub message-empty : (s : List ℕ) → length s ≡ 0 → Undecodable ≡ message_of s
unfolding message_of decode_reply whole ◌and◌
message-empty [] e = refl
message-empty (x ∷ xs) e = absurd (omega arith)

module _ (s : List ℕ) where
  pub message_01 : get_or s 0 0 ≡ 0x01 → shown_or (request_shown 0) (request.decode_request s) ≡ message_of s
  unfolding message_of
  message_01 e = rw e

  pub message_20 : get_or s 0 0 ≡ 0x20 → shown_or replicate_shown (decode_replicate s) ≡ message_of s
  unfolding message_of
  message_20 e = rw e

  pub message_21 : get_or s 0 0 ≡ 0x21 → shown_or new_epoch_shown (decode_new_epoch s) ≡ message_of s
  unfolding message_of
  message_21 e = rw e

  pub message_22 : get_or s 0 0 ≡ 0x22 → shown_or copy_shown (decode_copy_shard s) ≡ message_of s
  unfolding message_of
  message_22 e = rw e

  pub message_23 : get_or s 0 0 ≡ 0x23 → shown_or write_shown (decode_write s) ≡ message_of s
  unfolding message_of
  message_23 e = rw e

  pub message_24 : get_or s 0 0 ≡ 0x24 → shown_or search_shown (decode_search s) ≡ message_of s
  unfolding message_of
  message_24 e = rw e

  pub message-reply : (get_or s 0 0 ≡ 0x01 → ⊥) → (get_or s 0 0 ≡ 0x20 → ⊥) → (get_or s 0 0 ≡ 0x21 → ⊥) → (get_or s 0 0 ≡ 0x22 → ⊥)
      → (get_or s 0 0 ≡ 0x23 → ⊥) → (get_or s 0 0 ≡ 0x24 → ⊥) → shown_or reply_shown (decode_reply s) ≡ message_of s
  unfolding message_of
  message-reply a b c d e f =
      rw (ne_eqb _ 0x01 a, ne_eqb _ 0x20 b, ne_eqb _ 0x21 c, ne_eqb _ 0x22 d, ne_eqb _ 0x23 e, ne_eqb _ 0x24 f)
