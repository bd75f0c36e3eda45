-- What is written of a text, and what a text holds. Definitions only.
use Rattle.std.specs.Prelude.{ℕ, ◌+◌, ◌≤◌, ◌≡◌, List, length, take, drop}
use Rattle.std.proofs.lemmas.List.Edits.{sets}
use Rattle.spec_words.specs.Decimal.{decimal}
use Rattle.spec_words.specs.Words.{text_of}
use Rattle.map_tables.specs.View.{answer_of}
use Rattle.map_tables.specs.declared.Verdict.{Verdict}
use Rattle.map_words.specs.declared.Digits.{Digits}
use Rattle.map_words.specs.declared.Text.{Text}

-- the bytes of a part stand from `at` on, and the next place is behind them, within the buffer or at its end
pub record Puts (s t : List ℕ) (at : ℕ) (part : List ℕ) (next : ℕ) : Type 0 where
  pub bytes : t ≡ sets s at part
  pub place : next ≡ at + length part
  pub within : next ≤ length s

-- a number's digits
pub record Spells (n : ℕ) (d : Digits) : Type 0 where
  pub within : d.from ≤ 20
  pub digits : drop d.from d.bytes ≡ decimal n

-- the text of an answer, empty where it has none
pub record Says (v : Verdict) (t : Text) : Type 0 where
  pub bytes : take t.len t.bytes ≡ text_of (answer_of v)
  pub length : t.len ≡ length (text_of (answer_of v))
  pub within : t.len ≤ 108
