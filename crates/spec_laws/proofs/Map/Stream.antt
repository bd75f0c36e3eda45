-- Paper 01, 'Program applymap', 'each taken by its own length': laws of what is read of some bytes. A request that stands in the bytes at hand
-- stands there whatever follows; none is longer than 1,113 bytes, so that where as many are at hand and none is found, none ever is; and an input
-- that comes in parts, each read behind what was left of those before, comes to the lines and the map of the whole. Assumes nothing.
use Prim.Native.Nat.{ℕ, zero, suc, ◌+◌, ◌*◌, ◌≤◌, ◌<◌}
use mathlib.Core.Path.{◌≡◌, refl, sym, ap, subst, ◌∙◌}
use mathlib.Core.List.{List, [], ◌∷◌, ◌++◌, append_assoc, append-nil, flatten}
use mathlib.Core.Option.{Option, none, some}
use native.Mathlib.Omega.{arith}
use native.Mathlib.Nat.{zero-mul, suc-mul}
use lib.ListN.{length, take, drop, get_or, length-append, length-drop, length-replicate, take-append-drop}
use lib.Seq.{length-take-le, take_at, drop-append-le, drop-drop, get_or-drop}
use Rattle.spec.specs.Map.Tables.{Map, empty_map}
use Rattle.spec.specs.Map.Calls.{Line, line_of, apply_call, requests_from, requests_in, end_in, lines_for, map_after, apply_stream}
use Rattle.spec.specs.Layout.Format.{Bytes, All, bytes_of, concat_map, encode, fits, next, value, word, many}
use Rattle.spec.specs.Limits.{max_listed}
use Rattle.spec.specs.Layout.Parts.{u64}
use Rattle.spec.specs.Layout.Request.{
  Request,
  request_f,
  request_of,
  command_f,
  command_value,
  Command,
  create,
  drop_collection,
  register,
  mark_dead,
  add_replica,
  remove_replica,
  promote_primary,
  shrink_in_sync,
  expand_in_sync,
  bench,
  encode_request,
  request_at,
}
use Rattle.spec.specs.Layout.Writable.{GoodList, GoodRequest, GoodCommand}
use Rattle.spec_laws.proofs.Lists.{none_some, some_same}
use Rattle.spec_laws.proofs.Wire.Bytes.{length-bytes}
use Rattle.spec_laws.proofs.Wire.Data.{whenever_some}
use Rattle.spec_laws.proofs.Wire.Formats.{reads}
use Rattle.spec_laws.proofs.Wire.Requests.{request_at_forth, request_at_back}

-- ---- bytes

bytes_left : (s t : List ℕ) → Bytes (s ++ t) → Bytes s
bytes_left [] t b i = omega arith
bytes_left (x ∷ s) t b zero = b 0
bytes_left (x ∷ s) t b (suc i) = bytes_left s t (λ j. b (suc j)) i

bytes_drop : (k : ℕ) (s : List ℕ) → Bytes s → Bytes (drop k s)
bytes_drop k s b i = rw (get_or-drop k s i 0) (b (k + i))

-- ---- one request

-- where a request is written, it is read
stands : (s : List ℕ) (at : ℕ) (rest : List ℕ) (r : Request) → GoodRequest r → at ≤ length s → drop at s ≡ encode_request r ++ rest
    → request_at s at ≡ some (r, at + length (encode_request r))
stands s at rest r g l w =
    sym (ap (λ (z : List ℕ). request_at z at) (ap (λ (z : List ℕ). take at s ++ z) (sym w) ∙ take-append-drop at s))
    ∙ subst (λ (n : ℕ). request_at (take at s ++ (encode_request r ++ rest)) n ≡ some (r, n + length (encode_request r))) (length-take-le at s l)
    (request_at_back (take at s) rest r g)

-- the numbers and codes of any request
no_shorter : (r : Request) → 25 ≤ length (encode_request r)
unfolding encode_request
no_shorter r = omega arith

module _ (s : List ℕ) (b : Bytes s) (at : ℕ) (r : Request) (end : ℕ) (e : request_at s at ≡ some (r, end)) where
  good : GoodRequest r
  good = (request_at_forth s b at r end e).0

  written : drop at s ≡ encode_request r ++ drop end s
  written = (request_at_forth s b at r end e).1

  pub ends_inside : end ≤ length s
  unfolding request_at
  ends_inside =
      let w = whenever_some (fits request_f s at) (request_of (value request_f s at), next request_f s at) (r, end) e in
      let l : next request_f s at ≤ length s = (reads s b request_f at w.0).within in
      rw (ap (λ (z : Request × ℕ). z.1) w.1) at l

  end_is : at + length (encode_request r) ≡ end
  end_is =
      let l = ends_inside in
      let k = no_shorter r in
      let h = simp (length-append, length-drop) at (ap length written) in
      omega arith

  pub ends_later : at + 25 ≤ end
  ends_later = omega (arith, end_is, no_shorter r)

  -- what stands in the bytes at hand stands there whatever follows
  pub more_bytes : (t : List ℕ) → request_at (s ++ t) at ≡ some (r, end)
  more_bytes t =
      let l : at ≤ length s = omega (arith, ends_inside, ends_later) in
      stands (s ++ t) at (drop end s ++ t) r good (rw length-append (omega arith))
      (drop-append-le at s t l ∙ ap (λ (z : List ℕ). z ++ t) written ∙ append_assoc (encode_request r) (drop end s) t)
      ∙ ap (λ (n : ℕ). some (r, n)) end_is

-- ---- how long a request is

words_size : (w : ℕ) (l : List ℕ) → length (concat_map (encode (word w)) l) ≡ length l * w
words_size w [] = omega (arith, zero-mul w)
words_size w (x ∷ xs) = rw length-append (omega (arith, length-bytes w x, words_size w xs, suc-mul (length xs) w))

lists_size_lem : (p : List (List ℕ)) → All GoodList p → length (concat_map (encode (many 1 0 max_listed u64)) p) ≤ length p * 65
lists_size_lem [] g = omega arith
lists_size_lem (l ∷ ls) g =
    let few : length l ≤ 8 = g.0.0 in
    rw length-append (omega (arith, length-append (bytes_of 1 (length l)) (concat_map (encode u64) l), words_size 8 l, lists_size_lem ls g.1))

-- a Create with 16 lists of 8 nodes is the longest
command_size : (c : Command) → GoodCommand c → length (encode command_f (command_value c)) ≤ 1088
command_size (create n s p) g =
    let l : length p ≤ 16 = g.2.0 in
    let k : length n ≤ 32 = g.0.0 in
    simp (length-append, length-replicate) (omega (arith, lists_size_lem p g.2.1))
command_size (drop_collection n) g = let k : length n ≤ 32 = g.0 in simp (length-append, length-replicate) (omega arith)
command_size (register n a i) g = let k : length a ≤ 64 = g.1.0 in simp (length-append, length-replicate) (omega arith)
command_size (mark_dead n i) g = omega arith
command_size (add_replica k n i e) g = let h : length k.collection ≤ 32 = g.0.0.0 in simp (length-append, length-replicate) (omega arith)
command_size (remove_replica k n e) g = let h : length k.collection ≤ 32 = g.0.0.0 in simp (length-append, length-replicate) (omega arith)
command_size (promote_primary k n e) g = let h : length k.collection ≤ 32 = g.0.0.0 in simp (length-append, length-replicate) (omega arith)
command_size (shrink_in_sync k n e) g = let h : length k.collection ≤ 32 = g.0.0.0 in simp (length-append, length-replicate) (omega arith)
command_size (expand_in_sync k n e) g = let h : length k.collection ≤ 32 = g.0.0.0 in simp (length-append, length-replicate) (omega arith)
command_size (bench bs) g = let h : length bs ≤ 1024 = g.0 in omega (arith, words_size 1 bs)

pub no_longer : (r : Request) → GoodRequest r → length (encode_request r) ≤ 1113
unfolding encode_request
no_longer r g = omega (arith, command_size r.command g.3)

-- ---- fewer bytes

module _ (s t : List ℕ) (b : Bytes (s ++ t)) (at : ℕ) (r : Request) (end : ℕ) (e : request_at (s ++ t) at ≡ some (r, end)) (l : at + 1113 ≤ length s) where
  end-within : end ≤ length s
  end-within = omega (arith, end_is (s ++ t) b at r end e, no_longer r (good (s ++ t) b at r end e))

  written_here : drop at s ≡ encode_request r ++ drop end s
  written_here =
      let x = encode_request r in
      let both : drop at s ++ t ≡ (x ++ drop end s) ++ t =
      sym (drop-append-le at s t (omega arith)) ∙ written (s ++ t) b at r end e ∙ ap (λ (z : List ℕ). x ++ z) (drop-append-le end s t end-within)
      ∙ sym (append_assoc x (drop end s) t) in
      let size : length (x ++ drop end s) ≡ length (drop at s) = rw (length-append, length-drop, length-drop) (omega (arith, end_is (s ++ t) b at r end e, end-within)) in
      sym (take_at (drop at s) t (length (drop at s)) refl) ∙ ap (take (length (drop at s))) both ∙ take_at (x ++ drop end s) t (length (drop at s)) size

  -- where as many bytes are at hand as the longest request has, one that stands there is found
  pub found_here : request_at s at ≡ some (r, end)
  found_here =
      stands s at (drop end s) r (good (s ++ t) b at r end e) (omega arith) written_here ∙ ap (λ (n : ℕ). some (r, n)) (end_is (s ++ t) b at r end e)

-- ---- the requests of some bytes, from a place on: one after the other up to a place where none begins

pub data Reads (s : List ℕ) : ℕ → List Request → ℕ → Type 0 where
  stops : {at : ℕ} → request_at s at ≡ none → Reads s at [] at
  takes : {at : ℕ} {r : Request} {next : ℕ} {rs : List Request} {end : ℕ} → request_at s at ≡ some (r, next) → Reads s next rs end → Reads s at (r ∷ rs) end

none_of : {A : Type 0} (o : Option A) → ((a : A) → o ≡ some a → ⊥) → o ≡ none
none_of none h = refl
none_of (some a) h = absurd (h a refl)

module _ (s : List ℕ) (b : Bytes s) where
  reads_from : (n at : ℕ) → length s ≤ n + at → (o : Option (Request × ℕ)) → request_at s at ≡ o
      → Reads s at (requests_from n s at o).0 (requests_from n s at o).1
  unfolding requests_from
  reads_from zero at h none e = stops e
  reads_from zero at h (some r) e = absurd (omega (arith, ends_later s b at r.0 r.1 e, ends_inside s b at r.0 r.1 e))
  reads_from (suc n) at h none e = stops e
  reads_from (suc n) at h (some r) e =
      takes e (reads_from n r.1 (omega (arith, ends_later s b at r.0 r.1 e)) (request_at s r.1) refl)

  -- the definition
  pub reads_in : Reads s 0 (requests_in s) (end_in s)
  unfolding requests_in end_in
  reads_in = reads_from (length s) 0 (omega arith) (request_at s 0) refl

  -- there is one way
  reads_once : {at end end' : ℕ} {rs rs' : List Request} → Reads s at rs end → Reads s at rs' end' → (rs ≡ rs') × (end ≡ end')
  reads_once (stops e) (stops f) = (refl, refl)
  reads_once (stops e) (takes f y) = none_some (sym e ∙ f)
  reads_once (takes e x) (stops f) = none_some (sym f ∙ e)
  reads_once (takes {r = r} {next = n} {rs = rs} {end = end} e x) (takes {r = q} {next = k} {rs = qs} {end = end'} f y) =
      let w : ◌≡◌ {A = Request × ℕ} (r, n) (q, k) = some_same (sym e ∙ f) in
      let v : (rs ≡ qs) × (end ≡ end') = reads_once (subst (λ (z : ℕ). Reads s z rs end) (ap (λ (z : Request × ℕ). z.1) w) x) y in
      (ap (λ (z : Request). z ∷ rs) (ap (λ (z : Request × ℕ). z.0) w) ∙ ap (λ (z : List Request). q ∷ z) v.0, v.1)

  pub reads_are : {rs : List Request} {end : ℕ} → Reads s 0 rs end → (requests_in s ≡ rs) × (end_in s ≡ end)
  reads_are x = reads_once reads_in x

  pub inside : {at end : ℕ} {rs : List Request} → at ≤ length s → Reads s at rs end → end ≤ length s
  inside h (stops e) = h
  inside h (takes e x) = inside (ends_inside s b _ _ _ e) x

  pub none_at_end : {at end : ℕ} {rs : List Request} → Reads s at rs end → request_at s end ≡ none
  none_at_end (stops e) = e
  none_at_end (takes e x) = none_at_end x

-- ---- more behind

module _ (s t : List ℕ) (b : Bytes (s ++ t)) where
  reads_more : {at end : ℕ} {rs : List Request} → Reads s at rs end → request_at (s ++ t) end ≡ none → Reads (s ++ t) at rs end
  reads_more (stops e) q = stops q
  reads_more (takes e x) q = takes (more_bytes s (bytes_left s t b) _ _ _ e t) (reads_more x q)

  -- what stands behind a request that does not decode changes nothing
  pub nothing_behind : request_at (s ++ t) (end_in s) ≡ none → (requests_in (s ++ t) ≡ requests_in s) × (end_in (s ++ t) ≡ end_in s)
  nothing_behind q = reads_are (s ++ t) b (reads_more (reads_in s (bytes_left s t b)) q)

  -- and where as many bytes are left as the longest request has, that is known before they are read
  pub ended : end_in s + 1113 ≤ length s → (requests_in (s ++ t) ≡ requests_in s) × (end_in (s ++ t) ≡ end_in s)
  ended l =
      nothing_behind
      (none_of (request_at (s ++ t) (end_in s)) (λ a e. none_some (sym (none_at_end s (bytes_left s t b) (reads_in s (bytes_left s t b))) ∙ found_here s t b (end_in s) a.0 a.1 e l)))

-- ---- what is left moves to the front

module _ (s : List ℕ) (b : Bytes s) (k : ℕ) (h : k ≤ length s) where
  later_there : (at : ℕ) (r : Request) (end : ℕ) → request_at (drop k s) at ≡ some (r, end) → request_at s (k + at) ≡ some (r, k + end)
  later_there at r end e =
      let d = bytes_drop k s b in
      let l = simp length-drop at (ends_inside (drop k s) d at r end e) in
      stands s (k + at) (drop end (drop k s)) r (good (drop k s) d at r end e) (omega (arith, ends_later (drop k s) d at r end e))
      (sym (drop-drop at k s) ∙ written (drop k s) d at r end e)
      ∙ (let q : k + at + length (encode_request r) ≡ k + end = omega (arith, end_is (drop k s) d at r end e) in ap (λ (n : ℕ). some (r, n)) q)

  earlier_there : (at : ℕ) (r : Request) (end : ℕ) → request_at s (k + at) ≡ some (r, end) → request_at (drop k s) at ≡ some (r, at + length (encode_request r))
  earlier_there at r end e =
      let l = ends_inside s b (k + at) r end e in
      let m = ends_later s b (k + at) r end e in
      stands (drop k s) at (drop end s) r (good s b (k + at) r end e) (rw length-drop (omega arith)) (drop-drop at k s ∙ written s b (k + at) r end e)

  none-there : (at : ℕ) → request_at (drop k s) at ≡ none → request_at s (k + at) ≡ none
  none-there at q = none_of (request_at s (k + at)) (λ a e. none_some (sym q ∙ earlier_there at a.0 a.1 e))

  none_here : request_at s k ≡ none → request_at (drop k s) 0 ≡ none
  none_here q =
      let z : k + 0 ≡ k = omega arith in
      none_of (request_at (drop k s) 0) (λ a e. none_some (sym q ∙ ap (request_at s) (sym z) ∙ later_there 0 a.0 a.1 e))

  moved : {at end : ℕ} {rs : List Request} → Reads (drop k s) at rs end → Reads s (k + at) rs (k + end)
  moved (stops e) = stops (none-there _ e)
  moved (takes e x) = takes (later_there _ _ _ e) (moved x)

-- the requests at hand, then those that stand in what is left with more behind it, are those of the whole
module _ (s t : List ℕ) (b : Bytes (s ++ t)) where
  reads_on : {at end end' : ℕ} {rs rs' : List Request} → at ≤ length s → Reads s at rs end → Reads (drop end s ++ t) 0 rs' end' → Reads (s ++ t) at (rs ++ rs') (end + end')
  reads_on {at} {end' = end'} {rs' = rs'} h (stops e) y =
      let z : at + 0 ≡ at = omega arith in
      let w : Reads (drop at (s ++ t)) 0 rs' end' = rw (drop-append-le at s t h) y in
      subst (λ (n : ℕ). Reads (s ++ t) n rs' (at + end')) z (moved (s ++ t) b at (rw length-append (omega arith)) w)
  reads_on h (takes e x) y =
      let c = bytes_left s t b in
      takes (more_bytes s c _ _ _ e t) (reads_on (ends_inside s c _ _ _ e) x y)

  rest-bytes : Bytes (drop (end_in s) s ++ t)
  rest-bytes =
      let l = inside s (bytes_left s t b) (omega arith) (reads_in s (bytes_left s t b)) in
      subst Bytes (drop-append-le (end_in s) s t l) (bytes_drop (end_in s) (s ++ t) b)

  pub in_turn : requests_in (s ++ t) ≡ requests_in s ++ requests_in (drop (end_in s) s ++ t)
  in_turn = (reads_are (s ++ t) b (reads_on (omega arith) (reads_in s (bytes_left s t b)) (reads_in (drop (end_in s) s ++ t) rest-bytes))).0

  rest-none : request_at (drop (end_in s) s) 0 ≡ none
  rest-none =
      let c = bytes_left s t b in
      none_here s c (end_in s) (inside s c (omega arith) (reads_in s c)) (none_at_end s c (reads_in s c))

-- ---- an input in parts

pub lines_append : (m : Map) (rs qs : List Request) → lines_for m (rs ++ qs) ≡ lines_for m rs ++ lines_for (map_after m rs) qs
unfolding lines_for map_after
lines_append m [] qs = refl
lines_append m (r ∷ rs) qs = ap (λ (l : List Line). line_of r.index (apply_call m r) ∷ l) (lines_append (apply_call m r).map rs qs)

pub after-append : (m : Map) (rs qs : List Request) → map_after m (rs ++ qs) ≡ map_after (map_after m rs) qs
unfolding map_after
after-append m [] qs = refl
after-append m (r ∷ rs) qs = after-append (apply_call m r).map rs qs

-- the turns of a program that reads an input part by part, each behind what was left of those before: what it prints, and the map that it comes to
unfoldable pub turn_lines : Map → (rest : List ℕ) → List (List ℕ) → List Line
turn_lines m rest [] = []
turn_lines m rest (p ∷ ps) = let s = rest ++ p in lines_for m (requests_in s) ++ turn_lines (map_after m (requests_in s)) (drop (end_in s) s) ps

unfoldable pub turn_map : Map → (rest : List ℕ) → List (List ℕ) → Map
turn_map m rest [] = m
turn_map m rest (p ∷ ps) = let s = rest ++ p in turn_map (map_after m (requests_in s)) (drop (end_in s) s) ps

no_requests : (s : List ℕ) → Bytes s → request_at s 0 ≡ none → requests_in s ≡ []
no_requests s b e = (reads_are s b (stops e)).0

turns : (m : Map) (rest : List ℕ) (ps : List (List ℕ)) → Bytes (rest ++ flatten ps) → request_at rest 0 ≡ none
    → (turn_lines m rest ps ≡ lines_for m (requests_in (rest ++ flatten ps))) × (turn_map m rest ps ≡ map_after m (requests_in (rest ++ flatten ps)))
unfolding lines_for map_after flatten turn_lines turn_map
turns m rest [] b e =
    let q : requests_in (rest ++ []) ≡ [] = ap requests_in (append-nil rest) ∙ no_requests rest (bytes_left rest [] b) e in
    (sym (ap (lines_for m) q), sym (ap (map_after m) q))
turns m rest (p ∷ ps) b e =
    let s = rest ++ p in
    let t = flatten ps in
    let w : (rest ++ p) ++ flatten ps ≡ rest ++ (p ++ flatten ps) = append_assoc rest p t in
    let c : Bytes ((rest ++ p) ++ flatten ps) = subst Bytes (sym w) b in
    let v = turns (map_after m (requests_in s)) (drop (end_in s) s) ps (rest-bytes s t c) (rest-none s t c) in
    let q : requests_in (rest ++ (p ++ flatten ps)) ≡ requests_in s ++ requests_in (drop (end_in s) s ++ t) = ap requests_in (sym w) ∙ in_turn s t c in (
      ap (λ (l : List Line). lines_for m (requests_in s) ++ l) v.0 ∙ sym (lines_append m (requests_in s) _) ∙ ap (lines_for m) (sym q),
      v.1
          ∙ sym (after-append m (requests_in s) _)
          ∙ ap (map_after m) (sym q),
    )

none_in_nothing : request_at [] 0 ≡ none
none_in_nothing =
    none_of (request_at [] 0) (λ a e.
    let b : Bytes [] = λ i. omega arith in
    omega (arith, ends_later [] b 0 a.0 a.1 e, ends_inside [] b 0 a.0 a.1 e))

-- in whatever parts it comes: the lines and the map of the input as a whole
pub applied_in_parts : (ps : List (List ℕ)) → Bytes (flatten ps)
    → (turn_lines empty_map [] ps ≡ apply_stream (flatten ps)) × (turn_map empty_map [] ps ≡ map_after empty_map (requests_in (flatten ps)))
unfolding apply_stream
applied_in_parts ps b = turns empty_map [] ps b none_in_nothing
