-- The number that stands for an answer of place in a row: 0 for lists, which follow, 1 for none, otherwise the number of the refusal. Definitions
-- only.
use Rattle.std.specs.Prelude.{ℕ}
use Rattle.spec.specs.Refusals.{number_of}
use Rattle.spec.specs.Map.Place.{Placed, nowhere, placed_on, not_placed}

abbrev pub code_of : Placed → ℕ
code_of nowhere = 1
code_of (placed_on ls) = 0
code_of (not_placed why) = number_of why
