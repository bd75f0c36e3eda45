-- Requests: the bytes before a command's operands, and the operands. Assumes nothing.
use Prim.Native.Nat.{ℕ, suc, ◌+◌, ◌%◌, ◌≤◌}
use mathlib.Core.Path.{◌≡◌, refl, sym, ap, ◌∙◌}
use mathlib.Core.List.{List, [], ◌∷◌, ◌++◌}
use lib.ListN.{length, length-append}
use lib.Seq.{sets}
use native.Mathlib.Omega.{arith}
use Rattle.spec.specs.Layout.Format.{Bytes, text, bytes_of, concat_map, encode}
use Rattle.spec.specs.Layout.Parts.{key_f, name_f}
use Rattle.spec.specs.Layout.Request.{add_f, ownership_f, register_f, bench_f, add_replica, bench, drop_collection, encode_request, mark_dead, register}
use Rattle.wire_write.specs.Requests.{request_given, change_given, change_code}
use Rattle.wire_put.specs.Fields.{request_head}
use Rattle.wire_write.specs.Written.{key_given}
use Rattle.wire_write.specs.declared.Change.{Change}
use Rattle.wire_write.specs.declared.Change.TheVariants.{Remove, Promote, Shrink, Expand}
use Rattle.wire_write.proofs.Writes.{sets_then, length-key, length-text}

module _ (i c s k : ℕ) (o : List ℕ) where
  -- a request with operands
  abbrev pub request_bytes : List ℕ
  request_bytes = 0x01 ∷ (bytes_of 8 i ++ (bytes_of 8 c ++ (bytes_of 8 s ++ (k ∷ o))))

  pub request-length : length request_bytes ≡ 26 + length o
  request-length = omega arith

  pub request-put : (l : List ℕ) → sets (sets l 0 (request_head i c s k)) 26 o ≡ sets l 0 request_bytes
  request-put l = sets_then l 0 26 (request_head i c s k) o refl

-- ---- operands

pub add_put : (l n : List ℕ) (sh node inc e : ℕ) → length n ≤ 32
    → sets (sets (sets (sets l 26 (encode key_f (n, sh))) 63 (bytes_of 8 node)) 71 (bytes_of 8 inc)) 79 (bytes_of 8 e)
    ≡ sets l 26 (encode add_f ((n, sh), (node, (inc, e))))
add_put l n sh node inc e h =
    let k = encode key_f (n, sh) in
    sets_then (sets (sets l 26 k) 63 (bytes_of 8 node)) 71 79 (bytes_of 8 inc) (bytes_of 8 e) refl
    ∙ sets_then (sets l 26 k) 63 71 (bytes_of 8 node) (bytes_of 8 inc ++ bytes_of 8 e) refl
    ∙ sets_then l 26 63 k (bytes_of 8 node ++ (bytes_of 8 inc ++ bytes_of 8 e)) (omega (arith, length-key n sh h))

pub add_length : (n : List ℕ) (sh node inc e : ℕ) → length n ≤ 32 → length (encode add_f ((n, sh), (node, (inc, e)))) ≡ 61
add_length n sh node inc e h =
    length-append (encode key_f (n, sh)) (bytes_of 8 node ++ (bytes_of 8 inc ++ bytes_of 8 e)) ∙ omega (arith, length-key n sh h)

pub change-put : (l n : List ℕ) (sh node e : ℕ) → length n ≤ 32
    → sets (sets (sets l 26 (encode key_f (n, sh))) 63 (bytes_of 8 node)) 71 (bytes_of 8 e) ≡ sets l 26 (encode ownership_f ((n, sh), (node, e)))
change-put l n sh node e h =
    let k = encode key_f (n, sh) in
    sets_then (sets l 26 k) 63 71 (bytes_of 8 node) (bytes_of 8 e) refl
    ∙ sets_then l 26 63 k (bytes_of 8 node ++ bytes_of 8 e) (omega (arith, length-key n sh h))

pub change-length : (n : List ℕ) (sh node e : ℕ) → length n ≤ 32 → length (encode ownership_f ((n, sh), (node, e))) ≡ 53
change-length n sh node e h =
    length-append (encode key_f (n, sh)) (bytes_of 8 node ++ bytes_of 8 e) ∙ omega (arith, length-key n sh h)

pub register_put : (l a : List ℕ) (node inc : ℕ) → length a ≤ 64
    → sets (sets (sets l 26 (bytes_of 8 node)) 34 (encode (text 64) a)) 99 (bytes_of 8 inc) ≡ sets l 26 (encode register_f (node, (a, inc)))
register_put l a node inc h =
    sets_then (sets l 26 (bytes_of 8 node)) 34 99 (encode (text 64) a) (bytes_of 8 inc) (omega (arith, length-text 64 a h))
    ∙ sets_then l 26 34 (bytes_of 8 node) (encode (text 64) a ++ bytes_of 8 inc) refl

pub register_length : (a : List ℕ) (node inc : ℕ) → length a ≤ 64 → length (encode register_f (node, (a, inc))) ≡ 81
register_length a node inc h = omega (arith, length-append (encode (text 64) a) (bytes_of 8 inc), length-text 64 a h)

pub dead-put : (l : List ℕ) (node inc : ℕ) → sets (sets l 26 (bytes_of 8 node)) 34 (bytes_of 8 inc) ≡ sets l 26 (bytes_of 8 node ++ bytes_of 8 inc)
dead-put l node inc = sets_then l 26 34 (bytes_of 8 node) (bytes_of 8 inc) refl

-- bytes are numbers of one byte
pub bytes-words : (v : List ℕ) → Bytes v → concat_map (bytes_of 1) v ≡ v
bytes-words [] b = refl
bytes-words (x ∷ xs) b =
    let m : x % 256 ≡ x = let h = b 0 in omega arith in
    let r = bytes-words xs (λ i. b (suc i)) in
    rw (m, r)

pub bench_put : (l v : List ℕ) → Bytes v → sets (sets l 26 (bytes_of 2 (length v))) 28 v ≡ sets l 26 (encode bench_f v)
bench_put l v b =
    sets_then l 26 28 (bytes_of 2 (length v)) v refl ∙ ap (λ (x : List ℕ). sets l 26 (bytes_of 2 (length v) ++ x)) (sym (bytes-words v b))

pub bench_length : (v : List ℕ) → Bytes v → length (encode bench_f v) ≡ 2 + length v
bench_length v b = omega (arith, ap length (bytes-words v b))

-- ---- whole requests

module _ (i c s : ℕ) where
  pub drop-bytes : (n : List ℕ) → encode_request (request_given i c s (drop_collection n)) ≡ request_bytes i c s 0x11 (encode name_f n)
  unfolding encode_request
  drop-bytes n = refl

  pub register_bytes : (node inc : ℕ) (a : List ℕ)
      → encode_request (request_given i c s (register node a inc)) ≡ request_bytes i c s 0x12 (encode register_f (node, (a, inc)))
  unfolding encode_request
  register_bytes node inc a = refl

  pub dead-bytes : (node inc : ℕ) → encode_request (request_given i c s (mark_dead node inc)) ≡ request_bytes i c s 0x13 (bytes_of 8 node ++ bytes_of 8 inc)
  unfolding encode_request
  dead-bytes node inc = refl

  pub add_bytes : (n : List ℕ) (sh node inc e : ℕ)
      → encode_request (request_given i c s (add_replica (key_given n sh) node inc e)) ≡ request_bytes i c s 0x14 (encode add_f ((n, sh), (node, (inc, e))))
  unfolding encode_request
  add_bytes n sh node inc e = refl

  pub change-bytes : (d : Change) (n : List ℕ) (sh node e : ℕ)
      → encode_request (request_given i c s (change_given d (key_given n sh) node e))
      ≡ request_bytes i c s (change_code d) (encode ownership_f ((n, sh), (node, e)))
  unfolding encode_request
  change-bytes Remove n sh node e = refl
  change-bytes Promote n sh node e = refl
  change-bytes Shrink n sh node e = refl
  change-bytes Expand n sh node e = refl

  pub bench_bytes : (v : List ℕ) → encode_request (request_given i c s (bench v)) ≡ request_bytes i c s 0x19 (encode bench_f v)
  unfolding encode_request
  bench_bytes v = refl
