-- Paper 02, 2.8: a Search with its caller taken off is that of the first edition, and the other way round; as of a Write in Editions.antt. Assumes nothing.
use Prim.Native.Nat.{ℕ, zero, suc, ◌+◌, ◌^◌, ◌≤◌, ◌<◌}
use mathlib.Core.Path.{◌≡◌, refl, sym, ap, subst, ◌∙◌}
use mathlib.Core.Bool.{Bool, true, false, cond, not}
use mathlib.Core.Logic.{◌⊎◌, inl, inr}
use mathlib.Core.List.{List, [], ◌∷◌, ◌++◌}
use mathlib.Core.Option.{Option, none, some}
use native.Mathlib.Omega.{arith}
use lib.Dec.{eqb, leb}
use lib.Seq.{drop-cons}
use lib.ListN.{length, get_or, drop, length-append}
use borrow.Author.Tests.{eqb-true, eqb-false, eq-eqb, ne_eqb, le-leb, leb-true}
use Rattle.spec.specs.Lists.{◌and◌, ◌or◌}
use Rattle.spec.specs.Layout.Format.{Format, Value, Good, Bytes, sound, encode, value, whole, number_at, bytes_of, fits}
use Rattle.spec.specs.Layout.Parts.{whenever, op_value, op_of}
use Rattle.spec.specs.Layout.Request.{decode_request}
use Rattle.spec.specs.Layout.Message.{Write, Query, decode_write, encode_write, decode_search, encode_search, decode_replicate, decode_new_epoch, decode_copy_shard, decode_reply}
use Rattle.spec.specs.Layout.Writable.{U64, GoodWrite, GoodQuery}
use Rattle.spec_laws.proofs.Lists.{not_both, and_left, and_right, none_some, some_same}
use Rattle.spec_laws.proofs.Wire.Data.{whenever_some, op_of_lem, op-value, op_good, good_op}
use Rattle.spec_laws.proofs.Wire.Bytes.{bytes-number, number-below, number-bytes, length-bytes}
use Rattle.spec_laws.proofs.Wire.Formats.{read-written, written_read}
use Rattle.spec_laws.proofs.Wire.Messages.{write-back, write_forth, search_back, search_forth}
use Rattle.spec_callers.specs.Editions.{CalledWrite, CalledSearch, GoodCalledWrite, GoodCalledSearch, called_f, caller_of, rest_of, is_named, called_value, write_operands_f, called_write_f, write_in, write_as, called_write_of, called_write_value, encode_called_write, decode_called_write, search_operands_f, called_search_f, query_in, query_as, called_search_of, called_search_value, encode_called_search, decode_called_search, is_second, caller_behind, caller_in, first_code, plain}
use Rattle.spec_callers.proofs.Editions.{called_search_back, called_search_forth, plain_searched, and_no, bytes_drop, bytes_cons}

-- the caller that is written is the one that is found
caller_searched : (c : ℕ) (w : Query) → U64 c → caller_in (encode_called_search (record { caller = c; query = w })) ≡ some c
unfolding caller_in is_second encode_called_search ◌or◌ ◌and◌
caller_searched zero w u = refl
caller_searched (suc c) w u =
    let t = encode search_operands_f (query_as w) in
    let s : List ℕ = 0x29 ∷ (bytes_of 8 (suc c) ++ t) in
    let n : number_at 8 s 1 ≡ suc c = number-bytes 8 (suc c) s 1 t u refl in
    let l : leb 9 (length s) ≡ true = le-leb 9 (length s) (omega (arith, length-append (bytes_of 8 (suc c)) t, length-bytes 8 (suc c))) in
    rw (n, l, ne_eqb (suc c) 0 (λ q. omega arith))

-- a Search that is read is one of the first edition, with its caller taken off
pub plain_search : (s : List ℕ) → Bytes s → (m : CalledSearch) → decode_called_search s ≡ some m
    → (caller_in s ≡ some m.caller) × (decode_search (plain s) ≡ some m.query)
plain_search s b m e =
    let h = called_search_forth s b m e in
    subst (λ (x : List ℕ). (caller_in x ≡ some m.caller) × (decode_search (plain x) ≡ some m.query)) h.1 (
      caller_searched m.caller m.query h.0.0,
      ap decode_search (plain_searched m.caller m.query) ∙ search_back m.query h.0.1,
    )

-- and the other way round: who calls, and a message of the first edition, make one of the second
module _ (s : List ℕ) (b : Bytes s) (w : Query) where
  abbrev by : ℕ → CalledSearch
  by c = record { caller = c; query = w }

  -- bytes that begin with 29 and are the operands of a Search behind a caller
  asked_by : (c : ℕ) → get_or s 0 0 ≡ 0x29 → 9 ≤ length s → number_at 8 s 1 ≡ suc c → encode search_operands_f (query_as w) ≡ drop 9 s
      → encode_called_search (by (suc c)) ≡ s
  unfolding encode_called_search
  asked_by c e l n t =
      let h : bytes_of 8 (number_at 8 s 1) ++ drop 9 s ≡ drop 1 s = bytes-number 8 s 1 b (omega (arith, l)) in
      ap (λ (x : List ℕ). 0x29 ∷ (bytes_of 8 (suc c) ++ x)) t ∙ ap (λ (k : ℕ). 0x29 ∷ (bytes_of 8 k ++ drop 9 s)) (sym n)
      ∙ ap (λ (x : List ℕ). 0x29 ∷ x) h ∙ ap (λ (k : ℕ). k ∷ drop 1 s) (sym e) ∙ sym (drop-cons s 0 0 (omega (arith, l)))

  -- a message with no caller
  by_nobody : decode_search s ≡ some w → decode_called_search s ≡ some (by 0)
  unfolding encode_search encode_called_search
  by_nobody e =
      let h = search_forth s b w e in
      subst (λ (x : List ℕ). decode_called_search x ≡ some (by 0)) h.1 (called_search_back (by 0) (omega arith, h.0))

  -- a message with one
  by_somebody : (c : ℕ) → get_or s 0 0 ≡ 0x29 → caller_behind s ≡ some c → decode_search (0x24 ∷ drop 9 s) ≡ some w → decode_called_search s ≡ some (by c)
  unfolding encode_search
  by_somebody c e who read =
      let p = whenever_some (leb 9 (length s) and not (eqb (number_at 8 s 1) 0)) (number_at 8 s 1) c who in
      let l = leb-true 9 (length s) (and_left (leb 9 (length s)) (not (eqb (number_at 8 s 1) 0)) p.0) in
      let h = search_forth (0x24 ∷ drop 9 s) (bytes_cons 0x24 (drop 9 s) (omega arith) (bytes_drop 9 s b)) w read in
      go c p.1 (and_right (leb 9 (length s)) (not (eqb (number_at 8 s 1) 0)) p.0) l h.0 (tail h.1)
    where
      tail : encode_search w ≡ 0x24 ∷ drop 9 s → encode search_operands_f (query_as w) ≡ drop 9 s
      tail q = ap (drop 1) q

      go : (k : ℕ) → number_at 8 s 1 ≡ k → not (eqb (number_at 8 s 1) 0) ≡ true → 9 ≤ length s → GoodQuery w
          → encode search_operands_f (query_as w) ≡ drop 9 s → decode_called_search s ≡ some (by k)
      go zero n t l g q = not_both true refl (sym (ap (λ (j : ℕ). not (eqb j 0)) (sym n) ∙ t))
      go (suc k) n t l g q =
          subst (λ (x : List ℕ). decode_called_search x ≡ some (by (suc k))) (asked_by k e l n q)
          (called_search_back (by (suc k)) (subst U64 n (number-below 8 s 1 b), g))

  other-code : (t : List ℕ) → decode_search (0x23 ∷ t) ≡ none
  unfolding decode_search whole ◌and◌
  other-code t = rw (and_no (leb 1 (length (0x23 ∷ t))))

  pub search_plain : (c : ℕ) → caller_in s ≡ some c → decode_search (plain s) ≡ some w → decode_called_search s ≡ some (by c)
  unfolding caller_in plain is_second ◌or◌
  search_plain c = go (eqb (get_or s 0 0) 0x28) (eqb (get_or s 0 0) 0x29) refl refl
    where
      go : (x y : Bool) → eqb (get_or s 0 0) 0x28 ≡ x → eqb (get_or s 0 0) 0x29 ≡ y → cond (x or y) (caller_behind s) (some 0) ≡ some c
          → decode_search (cond (x or y) (cond x 0x23 0x24 ∷ drop 9 s) s) ≡ some w → decode_called_search s ≡ some (by c)
      go true y e f who read = none_some (sym (other-code (drop 9 s)) ∙ read)
      go false true e f who read = by_somebody c (eqb-true (get_or s 0 0) 0x29 f) who read
      go false false e f who read = by_nobody read ∙ ap (λ (k : ℕ). some (by k)) (some_same who)
