-- The numbers that hosts see of a call's answer. Definitions only.
use Rattle.std.specs.Prelude.{ℕ, Result, Ok, Err}
use Rattle.calls_parts.specs.declared.refusal.Refusal.{Refusal}
use Rattle.calls_parts.specs.declared.refusal.Refusal.TheVariants.{
  UnknownShard,
  NotPrimary,
  NoLease,
  TooFewInSync,
  Undecodable,
  OutsideDomain,
  NoRoom,
  Malformed,
  LastEpoch,
  NoWorker,
}

abbrev pub code_of : Refusal → ℕ
code_of UnknownShard = 17
code_of NotPrimary = 18
code_of NoLease = 19
code_of TooFewInSync = 20
code_of Undecodable = 21
code_of OutsideDomain = 22
code_of NoRoom = 23
code_of Malformed = 24
code_of LastEpoch = 25
code_of NoWorker = 26

abbrev pub number_of : Result (Unit {0}) Refusal → ℕ
number_of (Ok done) = 0
number_of (Err why) = code_of why
