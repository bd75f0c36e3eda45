-- The numbers that hosts see of a wait. Definitions only.
use Rattle.std.specs.Prelude.{ℕ, Result, Ok, Err}
use Rattle.calls_parts.specs.declared.refusal.Refusal.{Refusal}
use Rattle.calls_parts.specs.Refusals.{code_of}
use Rattle.calls_wait.specs.declared.waited.Waited.{Waited}
use Rattle.calls_wait.specs.declared.waited.Waited.TheVariants.{Done, Waiting}

abbrev pub said_of : Waited → ℕ
said_of Done = 0
said_of Waiting = 1

-- what is said, by the number that its maker gives it, or the refusal's number
abbrev pub numbered : {A : Type 0} → (A → ℕ) → Result A Refusal → ℕ
numbered number (Ok said) = number said
numbered number (Err why) = code_of why

abbrev pub number_of : Result Waited Refusal → ℕ
number_of = numbered said_of
