-- What apply in words answers of a map's image, and what it leaves of every byte (paper 02, 2.1). s, x and a are the bytes of the map, of the
-- text's buffer and of the answer's at entry, s', x' and a' at exit; r is the number that is answered. Definitions only.
use Rattle.std.specs.Prelude.{ℕ, ◌≤◌, ◌≡◌, Bool, true, false, cond, List, length, take, leb}
use Rattle.std.proofs.Math.Option.{none, some}
use Rattle.std.proofs.lemmas.List.Edits.{sets}
use Rattle.spec.specs.Refusals.{undecodable, no_room, malformed, number_of}
use Rattle.spec.specs.Layout.Request.{Request, decode_request}
use Rattle.spec_words.specs.Calls.{short_buffer, AppliedInWords, in_words, worded_number}
use Rattle.map_tables.specs.View.{view_map}
use Rattle.map_tables.specs.declared.ShardMap.{ShardMap}
use Rattle.map_words.specs.declared.Text.{Text}
use Rattle.map_apply.specs.Calls.{apply_lent}
use Rattle.image_map.specs.Image.{map_at, map_lent}
use Rattle.calls_map.specs.Calls.{AppliesImage}
use Rattle.calls_parts.specs.Answer.{answer_lent, number_put}

-- what the definition makes of the call, with room for so many bytes of text
abbrev pub asked : ShardMap → (bytes : List ℕ) → (room : ℕ) → AppliedInWords
asked m bytes room = in_words (view_map m) (apply_lent m (decode_request bytes)) room

-- apply's own definition in words, on the map that the bytes are read as
abbrev pub told_of : (s bytes x : List ℕ) → AppliedInWords
told_of s bytes x = asked (map_at s) bytes (length x)

-- the numbers that tell a length: 0 applied, 1 to 16 rejected
abbrev pub tells : ℕ → Bool
tells n = leb n 16

-- 23 comes last: an answer under 8 bytes, where there is a length to tell
abbrev pub host_number : ℕ → (a : List ℕ) → ℕ
host_number n a = cond (tells n) (cond (answer_lent a) n (number_of no_room)) n

-- with 0 to 16 the text stands from its buffer's start on, its length in `answer`, and the map is as apply leaves it; with any other
-- number no byte changes. 108 bytes are never too few
pub record SaysImage (s s' bytes x x' a a' : List ℕ) (r : ℕ) : Type 0 where
  pub number : r ≡ host_number (worded_number (told_of s bytes x).answer) a
  pub text : x' ≡ cond (tells r) (sets x 0 (told_of s bytes x).text) x
  pub answer : a' ≡ cond (tells r) (number_put a (length (told_of s bytes x).text)) a
  pub applies : tells r ≡ true → AppliesImage s s' bytes r
  pub kept : tells r ≡ false → s' ≡ s
  pub roomy : 108 ≤ length x → (told_of s bytes x).answer ≡ short_buffer → ⊥

-- a number, and every byte as it was
pub record Keeps (n : ℕ) (s s' x x' a a' : List ℕ) (r : ℕ) : Type 0 where
  pub number : r ≡ n
  pub map : s' ≡ s
  pub text : x' ≡ x
  pub answer : a' ≡ a

-- 21 before the image is looked at, then 24 for a buffer that lends no map
pub record AppliesInWordsTo (s s' bytes x x' a a' : List ℕ) (r : ℕ) : Type 0 where
  pub undecoded : decode_request bytes ≡ none → Keeps (number_of undecodable) s s' x x' a a' r
  pub unlent : (q : Request) → decode_request bytes ≡ some q → map_lent s ≡ false → Keeps (number_of malformed) s s' x x' a a' r
  pub lent : map_lent s ≡ true → SaysImage s s' bytes x x' a a' r

-- a text and its length put, where the answer has room for the length; without it no byte changes
pub record Tells (x x' a a' : List ℕ) (t : Text) (r : Bool) : Type 0 where
  pub room : r ≡ answer_lent a
  pub told : r ≡ true → (x' ≡ sets x 0 (take t.len t.bytes)) × (a' ≡ number_put a t.len)
  pub kept : r ≡ false → (x' ≡ x) × (a' ≡ a)
