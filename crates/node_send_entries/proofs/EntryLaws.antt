-- Laws of one stored entry as it is sent. Assumes nothing.
use Prim.Native.Nat.{ℕ, suc, ◌+◌, ◌*◌, ◌≤◌, ◌<◌}
use mathlib.Core.Path.{◌≡◌, refl, sym, ap, ◌∙◌, subst}
use mathlib.Core.Bool.{Bool, true, false, cond, not}
use mathlib.Core.List.{List, [], ◌∷◌, ◌++◌, map}
use native.Mathlib.Numerals.{add-one}
use native.Mathlib.Omega.{arith}
use borrow.Author.Tests.{eqb-true, eqb-false}
use lib.Dec.{T, eqb, leb}
use lib.Ieee.{Float, nan, inf, fin, is_nan, binary32, fits}
use lib.ListN.{length, get_or, drop, length-map, length-drop, get_or-map}
use lib.Seq.{sets, drop-cons, length-take-le}
use Rattle.spec.specs.Lists.{◌and◌, every}
use Rattle.spec.specs.Log.{upsert, delete, lookup}
use Rattle.spec.specs.Layout.Format.{bytes_of, concat_map, encode, ◌▸◌}
use Rattle.spec.specs.Layout.Parts.{op_f, op_value, WireOp, u64}
use Rattle.spec.specs.Layout.Message.{encode_replicate}
use Rattle.spec.specs.Node.Wire.{bits_of, wire_op}
use Rattle.spec.specs.Node.Worker.{message_bytes, lone_of}
use Rattle.spec.specs.Node.WellFormed.{component, well_formed_vector, well_formed_op}
use Rattle.spec.specs.Nearest.Order.{in_domain}
use Rattle.spec_laws.proofs.Lists.{and_true, and_left, and_right, not_both}
use Rattle.spec_laws.proofs.Wire.Bytes.{length-bytes}
use Rattle.wire_write.specs.Written.{count_fits, op_bytes, op_fits, op_size, wire_of}
use Rattle.wire_write.proofs.Writes.{sets_then, op-size, head_bytes, message-length, message-put}
use Rattle.wire_write.proofs.Entries.{entry-size}
use Rattle.log_store.specs.View.{Columns, stretch, op_of, entry_of, log_of}
use Rattle.log_store.specs.Store.{Store, Sized, store_log, well_formed_store}
use Rattle.log_store.proofs.Bits.{every-at}
use Rattle.log_store.proofs.Columns.{log-length, look_at, op_deleted, op_set}
use Rattle.log_store.proofs.Facts.{facts, room_of_lem}
use Rattle.log_store.proofs.Firsts.{firsts_at}
use Rattle.node_send_entries.specs.Sent.{Sendable, op_sent, entry_sent, key_named}

-- ---- components

-- one in the domain is a number
pub component-number : (x : Float) → component x ≡ true → T (not (is_nan x))
unfolding in_domain is_nan
component-number nan e = not_both false (and_right (fits binary32 nan) false e) refl
component-number (inf t) e = tt
component-number (fin t m d) e = tt

-- one component more
pub floats-step : (l : List ℕ) (v : List Float) (at i p : ℕ) → i < length v → p ≡ at + 4
    → sets (sets l at (bytes_of 4 (bits_of (get_or v i nan)))) p (concat_map (bytes_of 4) (drop (i + 1) (map bits_of v)))
    ≡ sets l at (concat_map (bytes_of 4) (drop i (map bits_of v)))
floats-step l v at i p h q =
    let w = map bits_of v in
    let b = bytes_of 4 (bits_of (get_or v i nan)) in
    let d : drop i w ≡ bits_of (get_or v i nan) ∷ drop (i + 1) w =
    drop-cons w i (bits_of nan) (rw (length-map v bits_of) h)
    ∙ ap (λ (x : ℕ). x ∷ drop (suc i) w) (get_or-map bits_of v i nan)
    ∙ ap (λ (n : ℕ). bits_of (get_or v i nan) ∷ drop n w) (sym (add-one i)) in
    sets_then l at p b (concat_map (bytes_of 4) (drop (i + 1) w)) (q ∙ ap (λ (n : ℕ). at + n) (sym (length-bytes 4 (bits_of (get_or v i nan)))))
    ∙ ap (λ (x : List ℕ). sets l at (concat_map (bytes_of 4) x)) (sym d)

-- ---- entries

-- a store that passed the test may be sent
pub sendable : (s : Store) → Sized s → well_formed_store s ≡ true → Sendable s.columns s.count
unfolding log_of
sendable s z w =
    let f = facts s w in
    record {
      room = room_of_lem s f z;
      formed =
          λ i h.
          subst (λ x. well_formed_op x.op ≡ true) (firsts_at (entry_of s.columns) s.count i (entry_of s.columns 0) h)
          (every-at (λ x. well_formed_op x.op) (store_log s) i (entry_of s.columns 0) f.entries (omega (arith, log-length s.columns s.count)));
    }

module _ (c : Columns) (count : ℕ) (s : Sendable c count) (i : ℕ) (h : i < count) where
  abbrev pub upserts : Bool
  upserts = eqb (get_or c.codes i 0) 1

  abbrev pub id : ℕ
  id = get_or c.ids i 0

  -- its components, as they are looked up
  abbrev pub vector : List Float
  vector = lookup (log_of c count) (i + 1)

  vector-set : upserts ≡ true → vector ≡ stretch c i
  vector-set e = look_at c count (i + 1) i refl h ∙ op_set c i (eqb-true _ _ e)

  vector-none : upserts ≡ false → vector ≡ []
  vector-none e = look_at c count (i + 1) i refl h ∙ op_deleted c i (eqb-false _ _ e)

  vector-formed : upserts ≡ true → well_formed_vector (stretch c i) ≡ true
  unfolding entry_of op_of
  vector-formed e = rw e at (s.formed i h)

  vector-length : upserts ≡ true → length (stretch c i) ≡ get_or c.lengths i 0
  unfolding stretch
  vector-length e =
      let r = s.room in
      let k : get_or c.lengths i 0 ≤ 32 = r.short i h (eqb-true _ _ e) in
      length-take-le (get_or c.lengths i 0) (drop (i * 32) c.floats) (rw length-drop (omega (arith, r.floats, r.count)))

  pub op-length : op_size upserts (length vector) ≡ op_size upserts (get_or c.lengths i 0)
  op-length = go upserts refl
    where
      go : (b : Bool) → upserts ≡ b → op_size b (length vector) ≡ op_size b (get_or c.lengths i 0)
      go true e = ap (λ (n : ℕ). 10 + 4 * n) (ap length (vector-set e) ∙ vector-length e)
      go false e = refl

  pub op_fits_lem : op_fits upserts (length vector) ≡ true
  unfolding count_fits well_formed_vector
  op_fits_lem = go upserts refl
    where
      go : (b : Bool) → upserts ≡ b → op_fits b (length vector) ≡ true
      go true e =
          let v = stretch c i in
          let w = vector-formed e in
          let t = and_right (leb 1 (length v)) (leb (length v) 32 and every component v) w in
          ap (λ (l : List Float). count_fits 1 32 (length l)) (vector-set e)
          ∙ and_true (leb 1 (length v)) (leb (length v) 32) (and_left (leb 1 (length v)) (leb (length v) 32 and every component v) w) (and_left (leb (length v) 32) (every component v) t)
      go false e = refl

  pub op_domain : every component vector ≡ true
  unfolding well_formed_vector every
  op_domain = go upserts refl
    where
      go : (b : Bool) → upserts ≡ b → every component vector ≡ true
      go true e =
          let v = stretch c i in
          let t = and_right (leb 1 (length v)) (leb (length v) 32 and every component v) (vector-formed e) in
          ap (every component) (vector-set e) ∙ and_right (leb (length v) 32) (every component v) t
      go false e = ap (every component) (vector-none e)

  wire_is : wire_of upserts id (map bits_of vector) ≡ wire_op (op_of c i)
  unfolding wire_op op_of
  wire_is = go upserts refl
    where
      go : (b : Bool) → upserts ≡ b → wire_of b id (map bits_of vector) ≡ wire_op (cond b (upsert id (stretch c i)) (delete id))
      go true e = ap (λ (l : List Float). wire_of true id (map bits_of l)) (vector-set e)
      go false e = refl

  pub op_bytes_lem : op_bytes upserts id (map bits_of vector) ≡ op_sent c i
  unfolding op_sent
  op_bytes_lem = ap (λ (w : WireOp). encode op_f (op_value w)) wire_is

  pub entry-bytes : bytes_of 8 (get_or c.epochs i 0) ++ (bytes_of 8 (get_or c.offsets i 0) ++ op_bytes upserts id (map bits_of vector)) ≡ entry_sent c i
  unfolding op_sent entry_sent entry_of
  entry-bytes = ap (λ (l : List ℕ). bytes_of 8 (get_or c.epochs i 0) ++ (bytes_of 8 (get_or c.offsets i 0) ++ l)) op_bytes_lem

  sent-size : op_size upserts (length (map bits_of vector)) ≡ op_size upserts (get_or c.lengths i 0)
  sent-size = ap (op_size upserts) (length-map vector bits_of) ∙ op-length

  pub entry_length_lem : length (entry_sent c i) ≡ 16 + op_size upserts (get_or c.lengths i 0)
  entry_length_lem =
      ap length (sym entry-bytes) ∙ entry-size (get_or c.epochs i 0) (get_or c.offsets i 0) upserts id (map bits_of vector)
      ∙ ap (λ (n : ℕ). 16 + n) sent-size

  -- ---- 20, under the primary's epoch

  module _ (name : List ℕ) (shard epoch : ℕ) (fits : length name ≤ 32) where
    pub lone-put : (l : List ℕ)
        → sets (sets (sets l 0 (head_bytes 0x20 name shard epoch)) 46 (bytes_of 8 (get_or c.offsets i 0))) 54 (op_bytes upserts id (map bits_of vector))
        ≡ sets l 0 (message_bytes (lone_of (key_named name shard) epoch (entry_of c i)))
    unfolding message_bytes encode_replicate entry_of op_sent
    lone-put l =
        let o = bytes_of 8 (get_or c.offsets i 0) in
        let l₁ = sets l 0 (head_bytes 0x20 name shard epoch) in
        sets_then l₁ 46 54 o (op_bytes upserts id (map bits_of vector)) refl
        ∙ ap (λ (b : List ℕ). sets l₁ 46 (o ++ b)) op_bytes_lem
        ∙ message-put 0x20 name shard epoch (u64 ▸ op_f) (get_or c.offsets i 0, op_value (wire_op (op_of c i))) l fits

    pub lone-length : length (message_bytes (lone_of (key_named name shard) epoch (entry_of c i))) ≡ 54 + op_size upserts (length vector)
    unfolding message_bytes encode_replicate entry_of op_sent
    lone-length =
        let z : length (op_sent c i) ≡ op_size upserts (length vector) =
        ap length (sym op_bytes_lem) ∙ op-size upserts id (map bits_of vector) ∙ ap (op_size upserts) (length-map vector bits_of) in
        message-length 0x20 name shard epoch (u64 ▸ op_f) (get_or c.offsets i 0, op_value (wire_op (op_of c i))) fits ∙ omega arith
