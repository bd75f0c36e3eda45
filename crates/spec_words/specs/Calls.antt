-- Paper 02, 2.1: apply with its text, for a caller who lends `room` bytes for it. Definitions only.
use Rattle.std.specs.Prelude.{ℕ, cond, List, [], length, leb}
use Rattle.std.proofs.Math.Option.{Option, none, some}
use Rattle.spec.specs.Map.Tables.{Map, Answer}
use Rattle.spec.specs.Map.Apply.{Applied}
use Rattle.spec.specs.Map.Calls.{apply_call, reason_number}
use Rattle.spec.specs.Layout.Request.{Request}
use Rattle.spec_words.specs.Words.{text_of}

-- what is answered: apply's own answer, or that its text does not fit
pub data Worded : Type 0 where
  said : Answer → Worded
  short_buffer : Worded

-- the number of each: 27, 'lent buffer shorter than the text'
abbrev pub worded_number : Worded → ℕ
worded_number (said a) = reason_number a
worded_number short_buffer = 27

-- the answer, the map afterwards, and the text
pub record AppliedInWords : Type 0 where
  pub answer : Worded
  pub map : Map
  pub text : List ℕ

-- what a call comes to, 27 'after all of the command's own checks; nothing is written and nothing remembered'
unfoldable pub in_words : Map → Applied → (room : ℕ) → AppliedInWords
in_words m a room =
    cond (leb (length (text_of a.answer)) room)
    (record { answer = said a.answer; map = a.map; text = text_of a.answer })
    (record { answer = short_buffer; map = m; text = [] })

-- apply (state.rs), its text into a buffer of so many bytes
unfoldable pub apply_in_words : Map → Request → (room : ℕ) → AppliedInWords
apply_in_words m r room = in_words m (apply_call m r) room
