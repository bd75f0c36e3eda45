use mathlib.Core.Path.{sym, ap}
use Rattle.spec.specs.Refusals.{number_of}
use Rattle.map_tables.specs.View.{refusal_of}
use Rattle.map_tables.specs.declared.Refusal.{Refusal}
use Rattle.calls_map.proofs.numbers.refusal_number.Goals as goal

pub returns-in-Undecodable : goal.returns-in-Undecodable
returns-in-Undecodable c = sym (ap (λ (q : Refusal). number_of (refusal_of q)) c.in-Undecodable.is)

pub returns-in-NoRoom : goal.returns-in-NoRoom
returns-in-NoRoom c = sym (ap (λ (q : Refusal). number_of (refusal_of q)) c.in-NoRoom.is)

pub returns-in-Malformed : goal.returns-in-Malformed
returns-in-Malformed c = sym (ap (λ (q : Refusal). number_of (refusal_of q)) c.in-Malformed.is)

pub returns-in-LastEpoch : goal.returns-in-LastEpoch
returns-in-LastEpoch c = sym (ap (λ (q : Refusal). number_of (refusal_of q)) c.in-LastEpoch.is)
