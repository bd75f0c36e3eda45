-- What apply in words comes to on a map that passed its test (24), of a request that was read. Definitions only.
use Rattle.std.specs.Prelude.{ℕ, ◌≤◌, ◌≡◌, true, false, cond, List, length}
use Rattle.std.proofs.lemmas.List.Edits.{sets}
use Rattle.spec.specs.Map.Apply.{apply}
use Rattle.spec_words.specs.Calls.{short_buffer, AppliedInWords, in_words, worded_number}
use Rattle.map_tables.specs.View.{view_map, view_request}
use Rattle.map_tables.specs.declared.Request.{Request}
use Rattle.image_map.specs.Image.{map_at}
use Rattle.calls_apply.specs.Settles.{Settles}
use Rattle.calls_parts.specs.Answer.{number_put}
use Rattle.calls_apply_words.specs.Calls.{tells, host_number}

-- what the definition makes of the request, with a buffer x for the text
abbrev pub said_of : (s : List ℕ) → Request → (x padding : List ℕ) → AppliedInWords
said_of s q x padding = in_words (view_map (map_at s)) (apply (view_map (map_at s)) (view_request q padding)) (length x)

-- with 0 to 16 the text and its length stand in their buffers; with any other number no byte changes. 108 bytes are never too few
pub record Says (w : AppliedInWords) (x x' a a' : List ℕ) (r : ℕ) : Type 0 where
  pub number : r ≡ host_number (worded_number w.answer) a
  pub text : x' ≡ cond (tells r) (sets x 0 w.text) x
  pub answer : a' ≡ cond (tells r) (number_put a (length w.text)) a
  pub roomy : 108 ≤ length x → w.answer ≡ short_buffer → ⊥

-- with 0 to 16 the map is as the request leaves it, whatever the bytes of a Bench; with any other number no byte changes
pub record SettlesInWords (s s' : List ℕ) (q : Request) (x x' a a' : List ℕ) (r : ℕ) : Type 0 where
  pub says : (padding : List ℕ) → Says (said_of s q x padding) x x' a a' r
  pub settles : tells r ≡ true → Settles s s' q r
  pub kept : tells r ≡ false → s' ≡ s
