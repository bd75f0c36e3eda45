-- The theorems put to values that a machine can have: two keys whose texts differ by the place of a slash, and a map that remembers a rejection
-- with the largest numbers. Assumes nothing.
use Prim.Native.Nat.{ℕ, zero, suc, ◌≤◌, ◌<◌}
use mathlib.Core.Path.{◌≡◌, refl, sym, ap, ◌∙◌}
use mathlib.Core.Bool.{true}
use mathlib.Core.List.{List, [], ◌∷◌}
use mathlib.Core.Option.{some}
use native.Mathlib.Omega.{arith}
use lib.ListN.{length, get_or}
use lib.Dec.{ltb}
use borrow.Author.Tests.{ltb-true}
use Rattle.spec.specs.Keys.{Key}
use Rattle.spec.specs.Limits.{max_u64}
use Rattle.spec.specs.Refusals.{Rejection, reason_of, exists, not_at_incarnation, no_shard, no_collection, malformed, last_epoch}
use Rattle.spec.specs.Map.Tables.{applied, rejected, Map, outcome, refused}
use Rattle.spec.specs.Map.Change.{node_id}
use Rattle.spec.specs.Map.Calls.{apply_call}
use Rattle.spec.specs.Lists.{every}
use Rattle.spec.specs.Layout.Format.{Bytes}
use Rattle.spec.specs.Layout.Request.{Request, drop_collection, register, promote_primary, encode_request}
use Rattle.spec.specs.Layout.Writable.{GoodRequest}
use Rattle.spec.proofs.Opened.{opened}
use Rattle.spec_laws.proofs.Wire.Requests.{request-back}
use Rattle.spec_laws.proofs.Map.Rows.{every_tail}
use Rattle.spec_words.specs.Decimal.{spelled, decimal, value}
use Rattle.spec_words.specs.Words.{words, text_of}
use Rattle.spec_words.specs.Calls.{said, short_buffer, AppliedInWords, in_words, apply_in_words}
use Rattle.spec_words.specs.Small.{MapNumbers}
use Rattle.spec_words.proofs.Decimal.{decimal-back, decimal-leads}
use Rattle.spec_words.proofs.Fixes.{words_fix, number_and_words_fix, no_numbers_share}
use Rattle.spec_words.proofs.Calls.{short-keeps, sent-again, again_with_room}
use Rattle.spec_words.proofs.Roomy.{roomy_is_apply, roomy_of_bytes}
use Rattle.spec_words.proofs.Cases.{slash_says}

-- ---- keys 'a1'/2 and 'a'/12: their texts are 'no shard a1/2' and 'no shard a/12'

abbrev left : Key
left = record { collection = 97 ∷ 49 ∷ []; shard = 2 }

abbrev right : Key
right = record { collection = 97 ∷ []; shard = 12 }

pub slash_parts_them : words (no_shard left) ≡ words (no_shard right) → ⊥
slash_parts_them e =
    let same = words_fix (no_shard left) (no_shard right) e in
    let key : left ≡ right = cc in
    let z : ◌≡◌ {A = ℕ} 2 12 = ap (λ (k : Key). k.shard) key in
    omega arith

-- 'no shard a/1/2' is said of the key 'a/1'/2 and of nothing else
abbrev slashed : Rejection
slashed = no_shard (record { collection = 97 ∷ 47 ∷ 49 ∷ []; shard = 2 })

pub one-reading : (r : Rejection) → words r ≡ 110 ∷ 111 ∷ 32 ∷ 115 ∷ 104 ∷ 97 ∷ 114 ∷ 100 ∷ 32 ∷ 97 ∷ 47 ∷ 49 ∷ 47 ∷ 50 ∷ [] → r ≡ slashed
one-reading r e = words_fix r slashed (e ∙ sym slash_says)

pub one_number : (r : Rejection) → words r ≡ words slashed → reason_of r ≡ 9
one_number r e = ap reason_of (number_and_words_fix r slashed (ap reason_of (words_fix r slashed e)) e)

-- 'collection  exists' and 'no collection ', of the empty name
pub two_and_six : words (exists []) ≡ words (no_collection []) → ⊥
two_and_six = no_numbers_share (exists []) (no_collection []) (λ e. omega arith)

-- ---- decimal: the largest number

pub largest-back : value (decimal 18446744073709551615) ≡ 18446744073709551615
largest-back = decimal-back 18446744073709551615

pub largest-leads : (0 < length (decimal 18446744073709551615)) × (48 < get_or (decimal 18446744073709551615) 0 0)
largest-leads = decimal-leads 18446744073709551615 (omega arith)

-- ---- a client that was told 8, with the largest numbers, sends that command again, now in other words

abbrev largest : Rejection
largest = not_at_incarnation 18446744073709551615 18446744073709551615

abbrev told : Map
told = record {
  version = 7;
  nodes = [];
  collections = [];
  shards = [];
  sessions = record { client = 9; seq = 3; outcome = rejected largest } ∷ [];
}

abbrev repeat : Request
repeat = record { index = 8; client = 9; seq = 3; command = drop_collection (109 ∷ []) }

-- the old command's words, 68 bytes
pub old-words : text_of (apply_call told repeat).answer ≡ words largest
unfolding opened text_of
old-words = refl

pub old-length : length (words largest) ≡ 68
unfolding spelled decimal words
old-length = refl

short : (apply_in_words told repeat 67).answer ≡ short_buffer
unfolding opened spelled decimal words text_of in_words apply_in_words
short = refl

pub exact : (apply_in_words told repeat 68).answer ≡ said (outcome (rejected largest))
unfolding opened spelled decimal words text_of in_words apply_in_words
exact = refl

pub kept : (apply_in_words told repeat 67).map ≡ told
kept = short-keeps told repeat 67 short

pub again : (apply_in_words (apply_in_words told repeat 67).map repeat 68).text ≡ words largest
again =
    let fits : length (text_of (apply_call told repeat).answer) ≤ 68 = omega (arith, ap length old-words, old-length) in
    ap (λ (x : AppliedInWords). x.text) (again_with_room told repeat 67 short 68 fits) ∙ old-words

told_numbers : MapNumbers told
told_numbers = record { nodes = tt; shards = tt; sessions = ((omega arith, omega arith), tt) }

good : GoodRequest repeat
unfolding opened
good = (omega arith, omega arith, omega arith, (omega arith, refl))

pub roomy : (apply_in_words told repeat 108).text ≡ words largest
roomy = ap (λ (x : AppliedInWords). x.text) (roomy_is_apply told told_numbers repeat good 108 (omega arith)) ∙ old-words

-- and as it comes, in bytes
bytes-by : (l : List ℕ) → every (λ b. ltb b 256) l ≡ true → Bytes l
bytes-by [] h i = omega arith
bytes-by (b ∷ bs) h zero = ltb-true b 256 (every_tail (λ b. ltb b 256) b bs h).0
bytes-by (b ∷ bs) h (suc i) = bytes-by bs (every_tail (λ b. ltb b 256) b bs h).1 i

in_bytes : every (λ b. ltb b 256) (encode_request repeat) ≡ true
unfolding opened
in_bytes = refl

pub roomy_in_bytes : (apply_in_words told repeat 108).text ≡ words largest
roomy_in_bytes =
    ap (λ (x : AppliedInWords). x.text)
    (roomy_of_bytes told told_numbers (encode_request repeat) (bytes-by (encode_request repeat) in_bytes) repeat (request-back repeat good) 108 (omega arith))
    ∙ old-words

-- ---- a new client's first command, rejected: without room for 'no collection m' the client takes no place

abbrev first : Request
first = record { index = 8; client = 10; seq = 1; command = drop_collection (109 ∷ []) }

first_short : (apply_in_words told first 14).answer ≡ short_buffer
unfolding opened words text_of in_words apply_in_words
first_short = refl

pub no_place : (apply_in_words told first 14).map ≡ told
no_place = short-keeps told first 14 first_short

pub place_with_room : length (apply_in_words (apply_in_words told first 14).map first 15).map.sessions ≡ 2
unfolding opened words text_of in_words apply_in_words
place_with_room = ap (λ (x : AppliedInWords). length x.map.sessions) (sent-again told first 14 first_short 15)

-- ---- with no room at all: an applied command, 24 and 25 have no text, so they are told

abbrev joins : Request
joins = record { index = 8; client = 10; seq = 1; command = register 1 [] 1 }

pub applied-told : (apply_in_words told joins 0).answer ≡ said (outcome applied)
unfolding opened words text_of in_words apply_in_words
applied-told = refl

-- one client twice
abbrev malformed_map : Map
malformed_map = record {
  version = 7;
  nodes = [];
  collections = [];
  shards = [];
  sessions = record { client = 9; seq = 3; outcome = applied } ∷ record { client = 9; seq = 3; outcome = applied } ∷ [];
}

pub malformed_told : (apply_in_words malformed_map repeat 0).answer ≡ said (refused malformed)
unfolding opened words text_of in_words apply_in_words
malformed_told = refl

-- a shard in its last epoch
abbrev last_map : Map
last_map = record {
  version = 7;
  nodes = [];
  collections = [];
  shards = record { key = right; replicas = record { node = node_id 1; incarnation = 1 } ∷ []; primary = some 1; insync = node_id 1 ∷ []; epoch = max_u64 } ∷ [];
  sessions = [];
}

pub last-told : (apply_in_words last_map (record { index = 8; client = 9; seq = 1; command = promote_primary right 1 max_u64 }) 0).answer ≡ said (refused last_epoch)
unfolding opened words text_of in_words apply_in_words
last-told = refl
