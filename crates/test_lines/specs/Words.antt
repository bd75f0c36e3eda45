-- Paper 01, 'Program applymap': what a line says of an answer, which the code has as its number. Definitions only.
use Rattle.std.specs.Prelude.{ℕ, ◌≡◌}
use Rattle.spec.specs.Map.Apply.{Applied}
use Rattle.spec.specs.Map.Calls as calls
use Rattle.spec.specs.Map.Calls.{reason_number, word_of, line_of}
use Rattle.spec.specs.Map.Tables as tables
use Rattle.test_lines.specs.declared.Word.{Word}
use Rattle.test_lines.specs.declared.Word.TheVariants as word
use Rattle.test_lines.specs.declared.Line.{Line}

abbrev pub word_in : Word → calls.Word
word_in word.Applied = calls.was_applied
word_in word.Rejected = calls.was_rejected
word_in word.Refused = calls.was_refused

-- the word of every answer with that number
pub record WordFor (n : ℕ) (w : Word) : Type 0 where
  pub is : (a : tables.Answer) → n ≡ reason_number a → word_in w ≡ word_of a

abbrev pub view_line : Line → calls.Line
view_line l = record { index = l.index; word = word_in l.word; reason = l.reason; version = l.version }

-- the line of every answer with that number, and with that version of the map afterwards
pub record LineFor (index n version : ℕ) (l : Line) : Type 0 where
  pub is : (a : Applied) → n ≡ reason_number a.answer → version ≡ a.map.version → view_line l ≡ line_of index a
