-- Paper 02, 2.8: 'Reader and writer are shown to match for both editions', over (caller, message); 28 and 29 name no caller 0; a first-edition reader reads
-- neither; and a message with its caller taken off is that of the first edition. Assumes nothing.
use Prim.Native.Nat.{ℕ, zero, suc, ◌+◌, ◌^◌, ◌≤◌, ◌<◌}
use mathlib.Core.Path.{◌≡◌, refl, sym, ap, subst, ◌∙◌}
use mathlib.Core.Bool.{Bool, true, false, cond, not}
use mathlib.Core.Logic.{◌⊎◌, inl, inr}
use mathlib.Core.List.{List, [], ◌∷◌, ◌++◌}
use mathlib.Core.Option.{Option, none, some}
use native.Mathlib.Omega.{arith}
use lib.Dec.{eqb, leb}
use lib.Seq.{drop-cons}
use lib.ListN.{length, get_or, drop, length-append}
use borrow.Author.Tests.{eqb-true, eqb-false, eq-eqb, ne_eqb, le-leb, leb-true}
use Rattle.spec.specs.Lists.{◌and◌, ◌or◌}
use Rattle.spec.specs.Layout.Format.{Format, Value, Good, Bytes, sound, encode, value, whole, number_at, bytes_of, fits}
use Rattle.spec.specs.Layout.Parts.{whenever, op_value, op_of}
use Rattle.spec.specs.Layout.Request.{decode_request}
use Rattle.spec.specs.Layout.Message.{Write, Query, decode_write, encode_write, decode_search, encode_search, decode_replicate, decode_new_epoch, decode_copy_shard, decode_reply}
use Rattle.spec.specs.Layout.Writable.{U64, GoodWrite, GoodQuery}
use Rattle.spec_laws.proofs.Lists.{by-test, not_both, and_left, and_right, none_some, some_same}
use Rattle.spec_laws.proofs.Wire.Data.{whenever_some, op_of_lem, op-value, op_good, good_op}
use Rattle.spec_laws.proofs.Wire.Bytes.{bytes-number, number-below, number-bytes, length-bytes}
use Rattle.spec_laws.proofs.Wire.Formats.{read-written, written_read}
use Rattle.spec_laws.proofs.Wire.Messages.{write-back, write_forth, search_back, search_forth}
use Rattle.spec_callers.specs.Editions.{CalledWrite, CalledSearch, GoodCalledWrite, GoodCalledSearch, called_f, caller_of, rest_of, is_named, called_value, write_operands_f, called_write_f, write_in, write_as, called_write_of, called_write_value, encode_called_write, decode_called_write, search_operands_f, called_search_f, query_in, query_as, called_search_of, called_search_value, encode_called_search, decode_called_search, is_second, caller_behind, caller_in, first_code, plain}

-- ---- any message with a caller

module _ (a b : ℕ) (f : Format) where
  named : (c : ℕ) (v : Value f) → is_named a b f (called_value a b f c v) ≡ true
  named zero v = refl
  named (suc c) v = rw (ne_eqb (suc c) 0 (λ q. omega arith))

  whose : (c : ℕ) (v : Value f) → caller_of a b f (called_value a b f c v) ≡ c
  whose zero v = refl
  whose (suc c) v = refl

  rest : (c : ℕ) (v : Value f) → rest_of a b f (called_value a b f c v) ≡ v
  rest zero v = refl
  rest (suc c) v = refl

  good : (c : ℕ) (v : Value f) → U64 c → Good f v → Good (called_f a b f) (called_value a b f c v)
  good zero v u g = g
  good (suc c) v u g = (tt, (u, g))

  -- a value that names a caller rightly is the one that is written for it
  again : (v : Value (called_f a b f)) → is_named a b f v ≡ true → called_value a b f (caller_of a b f v) (rest_of a b f v) ≡ v
  again (inl v) n = refl
  again (inr v) n = go v.1.0 refl n
    where
      go : (c : ℕ) → v.1.0 ≡ c → not (eqb c 0) ≡ true → called_value a b f c v.1.1 ≡ inr (tt, (c, v.1.1))
      go zero e h = not_both true refl (sym h)
      go (suc c) e h = refl

  small : (v : Value (called_f a b f)) → Good (called_f a b f) v → U64 (caller_of a b f v)
  small (inl v) g = omega arith
  small (inr v) g = g.1.0

  rest_good : (v : Value (called_f a b f)) → Good (called_f a b f) v → Good f (rest_of a b f v)
  rest_good (inl v) g = g
  rest_good (inr v) g = g.1.1

-- ---- 23 and 28

write_in_lem : (m : Write) → write_in (write_as m) ≡ m
write_in_lem m = rw (op_of_lem m.op)

write_as_lem : (v : Value write_operands_f) → write_as (write_in v) ≡ v
write_as_lem v = rw (op-value v.1.1)

-- what is written is read
pub called_write_back : (m : CalledWrite) → GoodCalledWrite m → decode_called_write (encode_called_write m) ≡ some m
unfolding decode_called_write encode_called_write ◌and◌
called_write_back m g =
    let v = write_as m.write in
    let w = g.1 in
    let h = written_read called_write_f refl (called_write_value m)
    (good 0x23 0x28 write_operands_f m.caller v g.0 (w.0, (w.1, op_good m.write.op w.2))) in
    rw (h.0, h.1, named 0x23 0x28 write_operands_f m.caller v, whose 0x23 0x28 write_operands_f m.caller v, rest 0x23 0x28 write_operands_f m.caller v, op_of_lem m.write.op)

-- what is read is written: so each caller and message has one form
pub called_write_forth : (s : List ℕ) → Bytes s → (m : CalledWrite) → decode_called_write s ≡ some m → GoodCalledWrite m × (encode_called_write m ≡ s)
unfolding decode_called_write encode_called_write
called_write_forth s b m e =
    let v = value called_write_f s 0 in
    let p = whenever_some (whole called_write_f s and is_named 0x23 0x28 write_operands_f v) (called_write_of v) m e in
    let h = read-written called_write_f s b (and_left _ (is_named 0x23 0x28 write_operands_f v) p.0) in
    let n = again 0x23 0x28 write_operands_f v (and_right (whole called_write_f s) _ p.0) in
    let r = rest_of 0x23 0x28 write_operands_f v in
    let g = rest_good 0x23 0x28 write_operands_f v h.0 in
    let q : called_write_value (called_write_of v) ≡ v = ap (called_value 0x23 0x28 write_operands_f (caller_of 0x23 0x28 write_operands_f v)) (write_as_lem r) ∙ n in
    subst (λ (x : CalledWrite). GoodCalledWrite x × (encode called_write_f (called_write_value x) ≡ s)) p.1 (
      (small 0x23 0x28 write_operands_f v h.0, (g.0, g.1.0, good_op (op_of r.1.1) (rw (op-value r.1.1) g.1.1))),
      ap (encode called_write_f) q ∙ sym h.1,
    )

-- ---- 24 and 29

pub called_search_back : (m : CalledSearch) → GoodCalledSearch m → decode_called_search (encode_called_search m) ≡ some m
unfolding decode_called_search encode_called_search ◌and◌
called_search_back m g =
    let v = query_as m.query in
    let w = g.1 in
    let h = written_read called_search_f refl (called_search_value m) (good 0x24 0x29 search_operands_f m.caller v g.0 (w.0, (w.1, (w.2, w.3)))) in
    rw (h.0, h.1, named 0x24 0x29 search_operands_f m.caller v, whose 0x24 0x29 search_operands_f m.caller v, rest 0x24 0x29 search_operands_f m.caller v)

pub called_search_forth : (s : List ℕ) → Bytes s → (m : CalledSearch) → decode_called_search s ≡ some m
    → GoodCalledSearch m × (encode_called_search m ≡ s)
unfolding decode_called_search encode_called_search
called_search_forth s b m e =
    let v = value called_search_f s 0 in
    let p = whenever_some (whole called_search_f s and is_named 0x24 0x29 search_operands_f v) (called_search_of v) m e in
    let h = read-written called_search_f s b (and_left _ (is_named 0x24 0x29 search_operands_f v) p.0) in
    let n = again 0x24 0x29 search_operands_f v (and_right (whole called_search_f s) _ p.0) in
    let g = rest_good 0x24 0x29 search_operands_f v h.0 in
    subst (λ (x : CalledSearch). GoodCalledSearch x × (encode called_search_f (called_search_value x) ≡ s)) p.1
    ((small 0x24 0x29 search_operands_f v h.0, (g.0, g.1.0, g.1.1.0, g.1.1.1)), ap (encode called_search_f) n ∙ sym h.1)

-- ---- 'a first-edition reader answers 21 to the new codes'

-- a whole message begins with its code
pub and_no : (b : Bool) → (b and false) ≡ false
unfolding ◌and◌
and_no true = refl
and_no false = refl

-- bytes that begin with a code of the second edition
abbrev pub Second : List ℕ → Type 0
Second s = (get_or s 0 0 ≡ 0x28) ⊎ (get_or s 0 0 ≡ 0x29)

pub write-refuses : (s : List ℕ) → Second s → decode_write s ≡ none
unfolding decode_write whole ◌and◌
write-refuses s (inl e) = rw (e, and_no (leb 1 (length s)))
write-refuses s (inr e) = rw (e, and_no (leb 1 (length s)))

pub search_refuses : (s : List ℕ) → Second s → decode_search s ≡ none
unfolding decode_search whole ◌and◌
search_refuses s (inl e) = rw (e, and_no (leb 1 (length s)))
search_refuses s (inr e) = rw (e, and_no (leb 1 (length s)))

pub replicate_refuses : (s : List ℕ) → Second s → decode_replicate s ≡ none
unfolding decode_replicate whole ◌and◌
replicate_refuses s (inl e) = rw (e, and_no (leb 1 (length s)))
replicate_refuses s (inr e) = rw (e, and_no (leb 1 (length s)))

pub new_epoch_refuses : (s : List ℕ) → Second s → decode_new_epoch s ≡ none
unfolding decode_new_epoch whole ◌and◌
new_epoch_refuses s (inl e) = rw (e, and_no (leb 1 (length s)))
new_epoch_refuses s (inr e) = rw (e, and_no (leb 1 (length s)))

pub copy_refuses : (s : List ℕ) → Second s → decode_copy_shard s ≡ none
unfolding decode_copy_shard whole ◌and◌
copy_refuses s (inl e) = rw (e, and_no (leb 1 (length s)))
copy_refuses s (inr e) = rw (e, and_no (leb 1 (length s)))

pub request-refuses : (s : List ℕ) → Second s → decode_request s ≡ none
unfolding decode_request whole ◌and◌
request-refuses s (inl e) = rw (e, and_no (leb 1 (length s)))
request-refuses s (inr e) = rw (e, and_no (leb 1 (length s)))

pub reply-refuses : (s : List ℕ) → Second s → decode_reply s ≡ none
unfolding decode_reply whole ◌and◌
reply-refuses s (inl e) = let n = and_no (leb 1 (length s)) in rw (e, n, n, n, n)
reply-refuses s (inr e) = let n = and_no (leb 1 (length s)) in rw (e, n, n, n, n)

-- ---- 'whom 28 and 29 may not name'

-- a 28 that names caller 0 does not decode, nor does a 29
pub unnamed_write : (s : List ℕ) → get_or s 0 0 ≡ 0x28 → number_at 8 s 1 ≡ 0 → decode_called_write s ≡ none
unfolding decode_called_write
unnamed_write s e z = rw (e, z, and_no (whole called_write_f s))

pub unnamed_search : (s : List ℕ) → get_or s 0 0 ≡ 0x29 → number_at 8 s 1 ≡ 0 → decode_called_search s ≡ none
unfolding decode_called_search
unnamed_search s e z = rw (e, z, and_no (whole called_search_f s))

-- ---- the caller taken off

-- what is written for a caller, without it
pub plain-written : (c : ℕ) (w : Write) → plain (encode_called_write (record { caller = c; write = w })) ≡ encode_write w
unfolding plain is_second encode_called_write encode_write ◌or◌
plain-written zero w = refl
plain-written (suc c) w = refl

pub plain_searched : (c : ℕ) (q : Query) → plain (encode_called_search (record { caller = c; query = q })) ≡ encode_search q
unfolding plain is_second encode_called_search encode_search ◌or◌
plain_searched zero q = refl
plain_searched (suc c) q = refl

-- bytes of a list behind another
pub bytes_drop : (k : ℕ) (s : List ℕ) → Bytes s → Bytes (drop k s)
bytes_drop zero s b = b
bytes_drop (suc k) [] b = b
bytes_drop (suc k) (x ∷ xs) b = bytes_drop k xs (λ i. b (suc i))

pub bytes_cons : (x : ℕ) (s : List ℕ) → x < 256 → Bytes s → Bytes (x ∷ s)
bytes_cons x s h b zero = h
bytes_cons x s h b (suc i) = b i

-- the caller that is written is the one that is found
caller-written : (c : ℕ) (w : Write) → U64 c → caller_in (encode_called_write (record { caller = c; write = w })) ≡ some c
unfolding caller_in is_second encode_called_write ◌or◌ ◌and◌
caller-written zero w u = refl
caller-written (suc c) w u =
    let t = encode write_operands_f (write_as w) in
    let s : List ℕ = 0x28 ∷ (bytes_of 8 (suc c) ++ t) in
    let n : number_at 8 s 1 ≡ suc c = number-bytes 8 (suc c) s 1 t u refl in
    let l : leb 9 (length s) ≡ true = le-leb 9 (length s) (omega (arith, length-append (bytes_of 8 (suc c)) t, length-bytes 8 (suc c))) in
    rw (n, l, ne_eqb (suc c) 0 (λ q. omega arith))

-- a message that is read is one of the first edition, with its caller taken off
pub plain-write : (s : List ℕ) → Bytes s → (m : CalledWrite) → decode_called_write s ≡ some m
    → (caller_in s ≡ some m.caller) × (decode_write (plain s) ≡ some m.write)
plain-write s b m e =
    let h = called_write_forth s b m e in
    subst (λ (x : List ℕ). (caller_in x ≡ some m.caller) × (decode_write (plain x) ≡ some m.write)) h.1 (
      caller-written m.caller m.write h.0.0,
      ap decode_write (plain-written m.caller m.write) ∙ write-back m.write h.0.1,
    )

-- and the other way round: who calls, and a message of the first edition, make one of the second
module _ (s : List ℕ) (b : Bytes s) (w : Write) where
  abbrev by : ℕ → CalledWrite
  by c = record { caller = c; write = w }

  -- bytes that begin with 28 and are the operands of a Write behind a caller
  written-by : (c : ℕ) → get_or s 0 0 ≡ 0x28 → 9 ≤ length s → number_at 8 s 1 ≡ suc c → encode write_operands_f (write_as w) ≡ drop 9 s
      → encode_called_write (by (suc c)) ≡ s
  unfolding encode_called_write
  written-by c e l n t =
      let h : bytes_of 8 (number_at 8 s 1) ++ drop 9 s ≡ drop 1 s = bytes-number 8 s 1 b (omega (arith, l)) in
      ap (λ (x : List ℕ). 0x28 ∷ (bytes_of 8 (suc c) ++ x)) t ∙ ap (λ (k : ℕ). 0x28 ∷ (bytes_of 8 k ++ drop 9 s)) (sym n)
      ∙ ap (λ (x : List ℕ). 0x28 ∷ x) h ∙ ap (λ (k : ℕ). k ∷ drop 1 s) (sym e) ∙ sym (drop-cons s 0 0 (omega (arith, l)))

  -- a message with no caller
  by_nobody : decode_write s ≡ some w → decode_called_write s ≡ some (by 0)
  unfolding encode_write encode_called_write
  by_nobody e =
      let h = write_forth s b w e in
      subst (λ (x : List ℕ). decode_called_write x ≡ some (by 0)) h.1 (called_write_back (by 0) (omega arith, h.0))

  -- a message with one
  by_somebody : (c : ℕ) → get_or s 0 0 ≡ 0x28 → caller_behind s ≡ some c → decode_write (0x23 ∷ drop 9 s) ≡ some w → decode_called_write s ≡ some (by c)
  unfolding encode_write
  by_somebody c e who read =
      let p = whenever_some (leb 9 (length s) and not (eqb (number_at 8 s 1) 0)) (number_at 8 s 1) c who in
      let l = leb-true 9 (length s) (and_left (leb 9 (length s)) (not (eqb (number_at 8 s 1) 0)) p.0) in
      let h = write_forth (0x23 ∷ drop 9 s) (bytes_cons 0x23 (drop 9 s) (omega arith) (bytes_drop 9 s b)) w read in
      go c p.1 (and_right (leb 9 (length s)) (not (eqb (number_at 8 s 1) 0)) p.0) l h.0 (tail h.1)
    where
      tail : encode_write w ≡ 0x23 ∷ drop 9 s → encode write_operands_f (write_as w) ≡ drop 9 s
      tail q = ap (drop 1) q

      go : (k : ℕ) → number_at 8 s 1 ≡ k → not (eqb (number_at 8 s 1) 0) ≡ true → 9 ≤ length s → GoodWrite w
          → encode write_operands_f (write_as w) ≡ drop 9 s → decode_called_write s ≡ some (by k)
      go zero n t l g q = not_both true refl (sym (ap (λ (j : ℕ). not (eqb j 0)) (sym n) ∙ t))
      go (suc k) n t l g q =
          subst (λ (x : List ℕ). decode_called_write x ≡ some (by (suc k))) (written-by k e l n q)
          (called_write_back (by (suc k)) (subst U64 n (number-below 8 s 1 b), g))

  other-code : (t : List ℕ) → decode_write (0x24 ∷ t) ≡ none
  unfolding decode_write whole ◌and◌
  other-code t = rw (and_no (leb 1 (length (0x24 ∷ t))))

  pub write-plain : (c : ℕ) → caller_in s ≡ some c → decode_write (plain s) ≡ some w → decode_called_write s ≡ some (by c)
  unfolding caller_in plain is_second ◌or◌
  write-plain c = go (eqb (get_or s 0 0) 0x28) (eqb (get_or s 0 0) 0x29) refl refl
    where
      go : (x y : Bool) → eqb (get_or s 0 0) 0x28 ≡ x → eqb (get_or s 0 0) 0x29 ≡ y → cond (x or y) (caller_behind s) (some 0) ≡ some c
          → decode_write (cond (x or y) (cond x 0x23 0x24 ∷ drop 9 s) s) ≡ some w → decode_called_write s ≡ some (by c)
      go true y e f who read = by_somebody c (eqb-true (get_or s 0 0) 0x28 e) who read
      go false true e f who read = none_some (sym (other-code (drop 9 s)) ∙ read)
      go false false e f who read = by_nobody read ∙ ap (λ (k : ℕ). some (by k)) (some_same who)

-- ---- bytes stay bytes

pub plain-bytes : (s : List ℕ) → Bytes s → Bytes (plain s)
unfolding plain
plain-bytes s b =
    by-test Bytes (is_second s)
    (λ e. bytes_cons (first_code (get_or s 0 0)) (drop 9 s) (by-test (λ (k : ℕ). k < 256) (eqb (get_or s 0 0) 0x28) (λ q. omega arith) (λ q. omega arith)) (bytes_drop 9 s b))
    (λ e. b)
