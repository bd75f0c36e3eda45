-- The numbers that hosts see of an ack. Definitions only.
use Rattle.std.specs.Prelude.{ℕ, Result, Ok, Err}
use Rattle.calls_parts.specs.declared.refusal.Refusal.{Refusal}
use Rattle.calls_parts.specs.Refusals.{code_of}
use Rattle.calls_ack.specs.declared.told.Told.{Told}
use Rattle.calls_ack.specs.declared.told.Told.TheVariants.{Noted, Expand}

abbrev pub told_of : Told → ℕ
told_of Noted = 0
told_of Expand = 1

abbrev pub number_of : Result Told Refusal → ℕ
number_of (Ok said) = told_of said
number_of (Err why) = code_of why
