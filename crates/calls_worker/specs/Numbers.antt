-- The numbers that hosts see of a worker's step. Definitions only.
use Rattle.std.specs.Prelude.{ℕ, Result, Ok, Err}
use Rattle.calls_parts.specs.declared.refusal.Refusal.{Refusal}
use Rattle.calls_parts.specs.Refusals as refusals
use Rattle.calls_worker.specs.declared.next.Next.{Next}
use Rattle.calls_worker.specs.declared.next.Next.TheVariants.{Wait, Stop, Align, Replicate, Copy}

abbrev pub code_of : Next → ℕ
code_of Wait = 0
code_of Stop = 1
code_of Align = 2
code_of Replicate = 3
code_of Copy = 4

abbrev pub number_of : Result Next Refusal → ℕ
number_of (Ok what) = code_of what
number_of (Err why) = refusals.code_of why
