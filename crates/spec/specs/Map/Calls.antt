-- Paper 01, 'Who is turned down' and 'Program applymap': the calls on the map as they are lent bytes and a map that may be malformed.
-- Definitions only.
use Rattle.std.specs.Prelude.{ℕ, zero, suc, Bool, true, false, cond, List, [], ◌∷◌, length}
use Rattle.std.proofs.Math.Option.{Option, none, some}
use Rattle.spec.specs.Keys.{Key}
use Rattle.spec.specs.Refusals.{Refusal, undecodable, malformed, reason_of, number_of}
use Rattle.spec.specs.Map.Tables.{Spec, Outcome, applied, rejected, Map, empty_map, Answer, outcome, refused}
use Rattle.spec.specs.Map.Apply.{Applied, apply}
use Rattle.spec.specs.Map.Place.{Placed, place, not_placed, Replaced, replacement, not_replaced}
use Rattle.spec.specs.Map.WellFormed.{well_formed_map}
use Rattle.spec.specs.Layout.Request.{Request, decode_request, request_at}

-- 'a refusal': the number alone, and the map as it was
abbrev pub refused_with : Map → Refusal → Applied
refused_with m r = record { answer = refused r; map = m }

-- 24 before the call's own list
unfoldable pub apply_call : Map → Request → Applied
apply_call m r = cond (well_formed_map m) (apply m r) (refused_with m malformed)

-- 21 of what does not decode
unfoldable pub apply_decoded : Map → Option Request → Applied
apply_decoded m none = refused_with m undecodable
apply_decoded m (some r) = apply_call m r

-- 'Who is turned down': 21, then 24, then apply
unfoldable pub apply_bytes : Map → List ℕ → Applied
apply_bytes m bytes = apply_decoded m (decode_request bytes)

-- place refuses a malformed map as well
unfoldable pub place_call : Map → Spec → Placed
place_call m spec = cond (well_formed_map m) (place m spec) (not_placed malformed)

-- and so does replacement
unfoldable pub replacement_call : Map → Key → Replaced
replacement_call m k = cond (well_formed_map m) (replacement m k) (not_replaced malformed)

-- 'Program applymap': the word of a line
pub data Word : Type 0 where
  was_applied : Word
  was_rejected : Word
  was_refused : Word

-- 'Program applymap': index, word, reason, version
pub record Line : Type 0 where
  pub index : ℕ
  pub word : Word
  pub reason : ℕ
  pub version : ℕ

-- 'Program applymap': applied, rejected, or refused for 22 to 25
abbrev pub word_of : Answer → Word
word_of (outcome applied) = was_applied
word_of (outcome (rejected r)) = was_rejected
word_of (refused r) = was_refused

-- 'Program applymap': the reason, 0 if applied
abbrev pub reason_number : Answer → ℕ
reason_number (outcome applied) = 0
reason_number (outcome (rejected r)) = reason_of r
reason_number (refused r) = number_of r

-- 'Program applymap': the line of an answer
abbrev pub line_of : ℕ → Applied → Line
line_of index a = record { index = index; word = word_of a.answer; reason = reason_number a.answer; version = a.map.version }

-- 'Program applymap': requests that follow one another, each taken by its own length, until one does not decode or the end; and the
-- place after the last. There are no more of them than bytes
unfoldable pub requests_from : ℕ → List ℕ → (at : ℕ) → Option (Request × ℕ) → List Request × ℕ
requests_from zero bytes at o = ([], at)
requests_from (suc n) bytes at none = ([], at)
requests_from (suc n) bytes at (some r) = let t = requests_from n bytes r.1 (request_at bytes r.1) in (r.0 ∷ t.0, t.1)

-- 'Program applymap': the requests on standard input
unfoldable pub requests_in : List ℕ → List Request
requests_in bytes = (requests_from (length bytes) bytes 0 (request_at bytes 0)).0

-- 'Program applymap': the place after the last of them, where none begins
unfoldable pub end_in : List ℕ → ℕ
end_in bytes = (requests_from (length bytes) bytes 0 (request_at bytes 0)).1

-- 'Program applymap': a line for each request
unfoldable pub lines_for : Map → List Request → List Line
lines_for m [] = []
lines_for m (r ∷ rs) = let a = apply_call m r in line_of r.index a ∷ lines_for a.map rs

-- 'Program applymap': the map after the last request
unfoldable pub map_after : Map → List Request → Map
map_after m [] = m
map_after m (r ∷ rs) = map_after (apply_call m r).map rs

-- 'Program applymap': starts from an empty map
unfoldable pub apply_stream : List ℕ → List Line
apply_stream bytes = lines_for empty_map (requests_in bytes)
