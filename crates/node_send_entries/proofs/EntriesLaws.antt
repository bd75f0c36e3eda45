-- Laws of stored entries that are sent one after another, by their places and by their offsets. Assumes nothing.
use Prim.Native.Nat.{ℕ, zero, suc, ◌+◌, ◌-◌, ◌≤◌, ◌<◌, min, max}
use mathlib.Core.Path.{◌≡◌, refl, sym, ap, ◌∙◌}
use mathlib.Core.Bool.{Bool, true, false}
use mathlib.Core.List.{List, [], ◌∷◌, ◌++◌, map}
use native.Mathlib.Numerals.{add-one}
use native.Mathlib.Omega.{arith}
use borrow.Author.Tests.{leb-true, leb-false}
use lib.Dec.{eqb, leb}
use lib.ListN.{length, get_or, take, drop, length-map, length-append, length-drop, drop_of_length-le}
use lib.Seq.{sets, drop-cons, take_all}
use Rattle.spec.specs.Log.{Entry, Log, entries_from}
use Rattle.spec.specs.Layout.Format.{bytes_of}
use Rattle.spec.specs.Layout.Parts.{entries_f, entry_value}
use Rattle.spec.specs.Layout.Message.{encode_copy_shard}
use Rattle.spec.specs.Node.Wire.{wire_entry}
use Rattle.spec.specs.Node.Worker.{message_bytes, copy_of}
use Rattle.wire_write.specs.Rows.{rows_size}
use Rattle.wire_write.specs.Written.{op_size}
use Rattle.wire_write.proofs.Writes.{sets_then, head_bytes, message-length, message-put}
use Rattle.log_store.specs.View.{Columns, entry_of, log_of}
use Rattle.log_store.proofs.Columns.{log-length}
use Rattle.log_store.proofs.Firsts.{firsts_at, firsts-length}
use Rattle.node_send_entries.specs.Sent.{Sendable, entries_at, entry_sent, entries_sent, key_named}
use Rattle.node_send_entries.proofs.EntryLaws.{entry_length_lem}

pub at_length : (c : Columns) (n i : ℕ) → length (entries_at c n i) ≡ n
unfolding entries_at
at_length c zero i = refl
at_length c (suc n) i = ap suc (at_length c n (i + 1))

-- ---- by offset

pub log-part : (c : Columns) (count n i : ℕ) → i + n ≤ count → take n (drop i (log_of c count)) ≡ entries_at c n i
unfolding entries_at log_of
log-part c count zero i h = refl
log-part c count (suc n) i h =
    let l = log_of c count in
    let d : drop i l ≡ entry_of c i ∷ drop (i + 1) l =
    drop-cons l i (entry_of c i) (rw (firsts-length (entry_of c) count) (omega arith))
    ∙ ap (λ (x : Entry). x ∷ drop (suc i) l) (firsts_at (entry_of c) count i (entry_of c i) (omega arith))
    ∙ ap (λ (k : ℕ). entry_of c i ∷ drop k l) (sym (add-one i)) in
    ap (take (suc n)) d ∙ ap (λ (x : Log). entry_of c i ∷ x) (log-part c count n (i + 1) (omega arith))

-- entries that the log has
pub from-within : (c : Columns) (count first n : ℕ) → 1 ≤ first → first + n ≤ count + 1 → entries_from (log_of c count) first n ≡ entries_at c n (first - 1)
unfolding entries_from
from-within c count first n h m =
    let e : max first 1 - 1 ≡ first - 1 = omega arith in
    ap (λ (k : ℕ). take n (drop k (log_of c count))) e ∙ log-part c count n (first - 1) (omega arith)

-- one of them
pub from_one : (c : Columns) (count first n : ℕ) → n ≡ 1 → 1 ≤ first → first ≤ count → entries_from (log_of c count) first n ≡ entry_of c (first - 1) ∷ []
unfolding entries_at
from_one c count first n e h m =
    from-within c count first n h (omega arith) ∙ ap (λ (k : ℕ). entries_at c k (first - 1)) e

-- as many as the limit and the log allow, from any offset
pub from_some : (c : Columns) (count first limit from n : ℕ) → from ≡ min (max first 1 - 1) count → n ≡ min limit (count - from)
    → entries_from (log_of c count) first limit ≡ entries_at c (from + n - from) from
unfolding entries_from
from_some c count first limit from n is ns =
    let l = log_of c count in
    let w : length (drop from l) ≡ count - from = length-drop from l ∙ ap (λ (m : ℕ). m - from) (log-length c count) in
    let z : from + n - from ≡ n = omega arith in
    ap (take limit) (same (leb (max first 1 - 1) count) refl)
    ∙ cut (leb limit (count - from)) refl w
    ∙ log-part c count n from (omega arith)
    ∙ ap (λ (m : ℕ). entries_at c m from) (sym z)
  where
    same : (b : Bool) → leb (max first 1 - 1) count ≡ b → drop (max first 1 - 1) (log_of c count) ≡ drop from (log_of c count)
    same true e =
        let q : max first 1 - 1 ≤ count = leb-true _ _ e in
        let z : max first 1 - 1 ≡ from = omega arith in
        ap (λ (k : ℕ). drop k (log_of c count)) z
    same false e =
        let q : count < max first 1 - 1 = leb-false _ _ e in
        let w = log-length c count in
        drop_of_length-le (log_of c count) {i = max first 1 - 1} (omega arith)
        ∙ sym (drop_of_length-le (log_of c count) {i = from} (omega arith))

    cut : (b : Bool) → leb limit (count - from) ≡ b → length (drop from (log_of c count)) ≡ count - from
        → take limit (drop from (log_of c count)) ≡ take n (drop from (log_of c count))
    cut true e w =
        let q : limit ≤ count - from = leb-true _ _ e in
        let z : limit ≡ n = omega arith in
        ap (λ (k : ℕ). take k (drop from (log_of c count))) z
    cut false e w =
        let q : count - from < limit = leb-false _ _ e in
        take_all limit (drop from (log_of c count)) (omega arith) ∙ sym (take_all n (drop from (log_of c count)) (omega arith))

-- ---- as bytes

module _ (c : Columns) (count : ℕ) (s : Sendable c count) where
  pub sent-length : (n i : ℕ) → i + n ≤ count → length (entries_sent c n i) ≡ rows_size c.codes c.lengths n i
  unfolding entries_sent entries_at entry_sent
  sent-length zero i h = refl
  sent-length (suc n) i h =
      let r = sent-length n (i + 1) (omega arith) in
      let e = entry_length_lem c count s i (omega arith) in
      length-append (entry_sent c i) (entries_sent c n (i + 1)) ∙ omega arith

  pub sent-step : (l : List ℕ) (p q end i : ℕ) → i < end → end ≤ count → q ≡ p + (16 + op_size (eqb (get_or c.codes i 0) 1) (get_or c.lengths i 0))
      → sets (sets l p (entry_sent c i)) q (entries_sent c (end - (i + 1)) (i + 1)) ≡ sets l p (entries_sent c (end - i) i)
  unfolding entries_sent entries_at entry_sent
  sent-step l p q end i h m e =
      let k : end - i ≡ suc (end - (i + 1)) = omega arith in
      sets_then l p q (entry_sent c i) (entries_sent c (end - (i + 1)) (i + 1)) (e ∙ ap (λ (n : ℕ). p + n) (sym (entry_length_lem c count s i (omega arith))))
      ∙ ap (λ (n : ℕ). sets l p (entries_sent c n i)) (sym k)

  -- ---- 22

  module _ (name : List ℕ) (shard epoch n from : ℕ) (fits : length name ≤ 32) where
    values_length : length (map entry_value (map wire_entry (entries_at c n from))) ≡ n
    values_length = length-map (map wire_entry (entries_at c n from)) entry_value ∙ length-map (entries_at c n from) wire_entry ∙ at_length c n from

    pub copy_put : (l : List ℕ)
        → sets (sets (sets l 0 (head_bytes 0x22 name shard epoch)) 46 (bytes_of 2 n)) 48 (entries_sent c n from)
        ≡ sets l 0 (message_bytes (copy_of (key_named name shard) epoch (entries_at c n from)))
    unfolding message_bytes encode_copy_shard entries_sent
    copy_put l =
        let l₁ = sets l 0 (head_bytes 0x22 name shard epoch) in
        sets_then l₁ 46 48 (bytes_of 2 n) (entries_sent c n from) refl
        ∙ ap (λ (m : ℕ). sets l₁ 46 (bytes_of 2 m ++ entries_sent c n from)) (sym values_length)
        ∙ message-put 0x22 name shard epoch entries_f (map entry_value (map wire_entry (entries_at c n from))) l fits

    pub copy_length : from + n ≤ count
        → length (message_bytes (copy_of (key_named name shard) epoch (entries_at c n from))) ≡ 48 + rows_size c.codes c.lengths n from
    unfolding message_bytes encode_copy_shard entries_sent
    copy_length h =
        let z = sent-length n from h in
        message-length 0x22 name shard epoch entries_f (map entry_value (map wire_entry (entries_at c n from))) fits ∙ omega arith
