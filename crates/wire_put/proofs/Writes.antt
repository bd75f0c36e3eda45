-- Stores one after another, and what fits. Assumes nothing.
use Prim.Native.Nat.{ℕ, suc, ◌+◌, ◌-◌, ◌*◌, ◌%◌, ◌≤◌, ◌<◌, zero-le}
use mathlib.Core.Path.{◌≡◌, refl, sym, ap, ◌∙◌}
use mathlib.Core.Bool.{Bool, true, false}
use mathlib.Core.List.{List, [], ◌∷◌, ◌++◌, append_assoc}
use lib.ListN.{length, get_or, take, drop, set, replicate, length-append, length-replicate}
use lib.Seq.{sets, sets-eq, drop-cons, drop-length, take-length}
use borrow.Rule.Slice.PartMut.{put_mid}
use Rattle.std.proofs.lemmas.Slice.{put_mid-paste}
use lib.Dec.{leb}
use native.Mathlib.Omega.{arith}
use native.Mathlib.Numerals.{add-one}
use native.Mathlib.Nat.{add-zero, add-suc, suc-add, mul-zero, mul-suc}
use borrow.Author.Tests.{leb-true}
use Rattle.spec.specs.Lists.{◌and◌}
use Rattle.spec.specs.Layout.Format.{Format, Value, code, text, ◌▸◌, bytes_of, concat_map, encode, in_range}
use Rattle.spec.specs.Layout.Parts.{u64, u32, key_f, vector_f}
use Rattle.spec_laws.proofs.Wire.Bytes.{length-bytes}
use Rattle.spec_laws.proofs.Wire.Tests.{and_left, and_right}
use Rattle.wire_put.specs.Fields.{text_fits, count_fits, op_fits, op_size, op_bytes, request_head}

-- ---- stores one after another

pub sets-append : (l : List ℕ) (i : ℕ) (a b : List ℕ) → sets l i (a ++ b) ≡ sets (sets l i a) (i + length a) b
sets-append l i [] b = rw add-zero
sets-append l i (x ∷ a) b = sets-append (set l i x) (suc i) a b ∙ (rw (add-suc, suc-add))

pub sets_then : (l : List ℕ) (i j : ℕ) (a b : List ℕ) → j ≡ i + length a → sets (sets l i a) j b ≡ sets l i (a ++ b)
sets_then l i j a b e = rw e (sym (sets-append l i a b))

-- ---- loops

-- what a part of the list was overwritten with is stored there
pub put-stored : (l v w : List ℕ) (at k : ℕ) → w ≡ v → k ≡ length v → at + length v ≤ length l → put_mid at k l w ≡ sets l at v
put-stored l v w at k e n h =
    put_mid-paste at k l w v (length v) e (sym n) refl
    ∙ ap (λ (x : List ℕ). take at l ++ x ++ drop (at + length v) l) (take-length v)
    ∙ sym (sets-eq v l at h)

-- numbers of k bytes, the first i of them stored: the rest, stored behind them, makes up the whole
module _ (k : ℕ) (out₀ : List ℕ) (at : ℕ) (v : List ℕ) (out : List ℕ) (i : ℕ) where
  abbrev pub WordsTo : Type 0
  WordsTo =
      (i ≤ length v)
      × (length out ≡ length out₀)
      × (sets out (at + k * i) (concat_map (bytes_of k) (drop i v)) ≡ sets out₀ at (concat_map (bytes_of k) v))

  pub words-all : length v ≤ i → WordsTo → out ≡ sets out₀ at (concat_map (bytes_of k) v)
  words-all h w =
      let z : i ≡ length v = omega (arith, w.0) in
      sym (ap (λ (j : ℕ). sets out (at + k * i) (concat_map (bytes_of k) (drop j v))) z ∙ (rw drop-length)) ∙ w.2

pub words-none : (k : ℕ) (out : List ℕ) (at : ℕ) (v : List ℕ) → WordsTo k out at v out 0
words-none k out at v = (zero-le, refl, rw (mul-zero, add-zero))

pub words_more : (k : ℕ) (out₀ : List ℕ) (at : ℕ) (v out new : List ℕ) (i : ℕ) → i < length v → length new ≡ length out
    → new ≡ sets out (at + k * i) (bytes_of k (get_or v i 0)) → WordsTo k out₀ at v out i → WordsTo k out₀ at v new (i + 1)
words_more k out₀ at v out new i h l e w =
    let x = bytes_of k (get_or v i 0) in
    let rest = concat_map (bytes_of k) (drop (i + 1) v) in
    let d : drop i v ≡ get_or v i 0 ∷ drop (i + 1) v = rw add-one (drop-cons v i 0 h) in
    let p : at + k * (i + 1) ≡ at + k * i + length x = omega (arith, length-bytes k (get_or v i 0), mul-suc k i, ap (λ (j : ℕ). k * j) (add-one i)) in (
      omega (arith, h),
      l ∙ w.1,
      ap (λ (o : List ℕ). sets o (at + k * (i + 1)) rest) e
          ∙ sets_then out (at + k * i) (at + k * (i + 1)) x rest p
          ∙ sym (ap (λ (u : List ℕ). sets out (at + k * i) (concat_map (bytes_of k) u)) d)
          ∙ w.2,
    )

pub range_step : (v : List ℕ) (i : ℕ) → i < length v
    → in_range 0x20 0x7E (drop i v) ≡ (leb 0x20 (get_or v i 0) and (leb (get_or v i 0) 0x7E and in_range 0x20 0x7E (drop (i + 1) v)))
range_step v i h =
    let d : drop i v ≡ get_or v i 0 ∷ drop (i + 1) v = rw add-one (drop-cons v i 0 h) in
    ap (in_range 0x20 0x7E) d

-- ---- lengths

pub length-text : (c : ℕ) (v : List ℕ) → length v ≤ c → length (encode (text c) v) ≡ 1 + c
length-text c v h =
    let e : length (v ++ replicate (c - length v) 0) ≡ c = rw (length-append, length-replicate) (omega arith) in
    ap suc e ∙ omega arith

pub length-words : (k : ℕ) (v : List ℕ) → length (concat_map (bytes_of k) v) ≡ k * length v
length-words k [] = sym (mul-zero k)
length-words k (x ∷ v) =
    length-append (bytes_of k x) (concat_map (bytes_of k) v) ∙ omega (arith, length-bytes k x, length-words k v, mul-suc k (length v))

pub length-key : (n : List ℕ) (sh : ℕ) → length n ≤ 32 → length (encode key_f (n, sh)) ≡ 37
length-key n sh h = length-append (encode (text 32) n) (bytes_of 4 sh) ∙ omega (arith, length-text 32 n h)

pub length_upsert : (id : ℕ) (bits : List ℕ) → length (op_bytes true id bits) ≡ 10 + 4 * length bits
length_upsert id bits = omega (arith, length-words 4 bits)

-- ---- fields

pub text-put : (l : List ℕ) (at c : ℕ) (v : List ℕ)
    → sets (sets (set l at (length v)) (at + 1) v) (at + 1 + length v) (replicate (c - length v) 0) ≡ sets l at (encode (text c) v)
text-put l at c v =
    let q : at + 1 ≡ suc at = omega arith in
    rw (sets_then (set l at (length v)) (at + 1) (at + 1 + length v) v (replicate (c - length v) 0) refl, q)

pub key-put : (l : List ℕ) (at : ℕ) (n : List ℕ) (sh : ℕ) → length n ≤ 32
    → sets (sets l at (encode (text 32) n)) (at + 33) (bytes_of 4 sh) ≡ sets l at (encode key_f (n, sh))
key-put l at n sh h = sets_then l at (at + 33) (encode (text 32) n) (bytes_of 4 sh) (omega (arith, length-text 32 n h))

pub head-put : (l : List ℕ) (c : ℕ) (n : List ℕ) (sh e : ℕ) → length n ≤ 32
    → sets (sets (set l 0 c) 1 (encode key_f (n, sh))) 38 (bytes_of 8 e) ≡ sets l 0 (encode (code c ▸ (key_f ▸ u64)) (tt, ((n, sh), e)))
head-put l c n sh e h = sets_then (set l 0 c) 1 38 (encode key_f (n, sh)) (bytes_of 8 e) (omega (arith, length-key n sh h))

module _ (l : List ℕ) (at id : ℕ) (bits : List ℕ) where
  pub upsert_put : length bits ≤ 32
      → sets (set (sets (set l at 1) (at + 1) (bytes_of 8 id)) (at + 9) (length bits)) (at + 10) (concat_map (bytes_of 4) bits)
      ≡ sets l at (op_bytes true id bits)
  upsert_put h =
      let m : length bits % 256 ≡ length bits = omega arith in
      let n = bytes_of 1 (length bits) in
      let w = concat_map (bytes_of 4) bits in
      let l₁ = sets l at (1 ∷ []) in
      let e₁ : at + 10 ≡ at + 9 + 1 = omega arith in
      let e₂ : at + 9 ≡ at + 1 + 8 = omega arith in
      ap (λ (x : ℕ). sets (set (sets l₁ (at + 1) (bytes_of 8 id)) (at + 9) x) (at + 10) w) (sym m)
      ∙ sets_then (sets l₁ (at + 1) (bytes_of 8 id)) (at + 9) (at + 10) n w e₁
      ∙ sets_then l₁ (at + 1) (at + 9) (bytes_of 8 id) (n ++ w) e₂
      ∙ sets_then l at (at + 1) (1 ∷ []) (bytes_of 8 id ++ (n ++ w)) refl

  pub delete_put : sets (set l at 2) (at + 1) (bytes_of 8 id) ≡ sets l at (op_bytes false id bits)
  delete_put = sets_then l at (at + 1) (2 ∷ []) (bytes_of 8 id) refl

-- ---- the size of an operation

pub upsert_size : (u : Bool) (id : ℕ) (bits : List ℕ) → u ≡ true → length (op_bytes u id bits) ≡ 10 + 4 * length bits
upsert_size u id bits e = rw e (length_upsert id bits)

pub delete_size : (u : Bool) (id : ℕ) (bits : List ℕ) → u ≡ false → length (op_bytes u id bits) ≡ 9
delete_size u id bits e = rw e

-- ---- what fits

pub count_fits_lem : (lo hi n : ℕ) → count_fits lo hi n ≡ true → (lo ≤ n) × (n ≤ hi)
unfolding count_fits
count_fits_lem lo hi n e = (leb-true _ _ (and_left _ _ e), leb-true _ _ (and_right _ _ e))

pub upsert_count : (u : Bool) (n : ℕ) → op_fits u n ≡ true → u ≡ true → n ≤ 32
upsert_count u n e t = (count_fits_lem 1 32 n (rw t at e)).1

pub text-short : (c : ℕ) (v : List ℕ) → text_fits c v ≡ true → length v ≤ c
unfolding text_fits
text-short c v e = leb-true _ _ (and_left _ _ e)

pub op-size : (u : Bool) (id : ℕ) (bits : List ℕ) → length (op_bytes u id bits) ≡ op_size u (length bits)
op-size true id bits = length_upsert id bits
op-size false id bits = refl

-- no operation that fits takes more than 138 bytes
pub op_small : (u : Bool) (n : ℕ) → op_fits u n ≡ true → op_size u n ≤ 138
op_small true n e = let h = upsert_count true n e refl in omega arith
op_small false n e = omega arith

-- ---- code, key and epoch, and then the rest

module _ (c : ℕ) (n : List ℕ) (sh e : ℕ) where
  abbrev pub head_bytes : List ℕ
  head_bytes = encode (code c ▸ (key_f ▸ u64)) (tt, ((n, sh), e))

  pub length-head : length n ≤ 32 → length head_bytes ≡ 46
  length-head h = ap suc (length-append (encode key_f (n, sh)) (bytes_of 8 e)) ∙ omega (arith, length-key n sh h)

  module _ (g : Format) (v : Value g) where
    pub message-bytes : head_bytes ++ encode g v ≡ encode (code c ▸ (key_f ▸ (u64 ▸ g))) (tt, ((n, sh), (e, v)))
    message-bytes = ap (λ (l : List ℕ). c ∷ l) (append_assoc (encode key_f (n, sh)) (bytes_of 8 e) (encode g v))

    pub message-length : length n ≤ 32 → length (encode (code c ▸ (key_f ▸ (u64 ▸ g))) (tt, ((n, sh), (e, v)))) ≡ 46 + length (encode g v)
    message-length h =
        ap length (sym message-bytes) ∙ length-append head_bytes (encode g v) ∙ ap (λ (m : ℕ). m + length (encode g v)) (length-head h)

    pub message-put : (l : List ℕ) → length n ≤ 32
        → sets (sets l 0 head_bytes) 46 (encode g v) ≡ sets l 0 (encode (code c ▸ (key_f ▸ (u64 ▸ g))) (tt, ((n, sh), (e, v))))
    message-put l h =
        sets_then l 0 46 head_bytes (encode g v) (omega (arith, length-head h)) ∙ ap (sets l 0) message-bytes

pub no_first : (a b : Bool) → a ≡ false → (a and b) ≡ false
unfolding ◌and◌
no_first a b e = rw e

pub no_second : (a b : Bool) → b ≡ false → (a and b) ≡ false
unfolding ◌and◌
no_second true b e = e
no_second false b e = refl

pub fits_count : (lo hi n : ℕ) → count_fits lo hi n ≡ true → n ≤ hi
fits_count lo hi n e = (count_fits_lem lo hi n e).1

-- k and the vector of a Search
pub search_put : (l : List ℕ) (k : ℕ) (bits : List ℕ) → length bits ≤ 32
    → sets (set (sets l 46 (bytes_of 4 k)) 50 (length bits)) 51 (concat_map (bytes_of 4) bits) ≡ sets l 46 (encode (u32 ▸ vector_f) (k, bits))
search_put l k bits h =
    let m : length bits % 256 ≡ length bits = omega arith in
    let n = bytes_of 1 (length bits) in
    let w = concat_map (bytes_of 4) bits in
    ap (λ (x : ℕ). sets (set (sets l 46 (bytes_of 4 k)) 50 x) 51 w) (sym m)
    ∙ sets_then (sets l 46 (bytes_of 4 k)) 50 51 n w refl
    ∙ sets_then l 46 50 (bytes_of 4 k) (n ++ w) refl

-- code, index, client, seq and the command's code
pub request_head_put : (l : List ℕ) (i c s k : ℕ)
    → set (sets (sets (sets (set l 0 1) 1 (bytes_of 8 i)) 9 (bytes_of 8 c)) 17 (bytes_of 8 s)) 25 k ≡ sets l 0 (request_head i c s k)
request_head_put l i c s k = refl
