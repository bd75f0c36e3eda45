-- The number of a refusal is none of those by which a host goes on: 0 to 4. Assumes nothing.
use Prim.Native.Nat.{ℕ}
use mathlib.Core.Path.{◌≡◌, refl}
use mathlib.Core.Bool.{false}
use lib.Dec.{eqb}
use mathlib.Core.Option.{none}
use Rattle.spec.specs.Refusals.{Refusal, unknown_shard, not_primary, no_lease, too_few_in_sync, undecodable, outside_domain, no_room, malformed, last_epoch, no_worker, number_of}
use Rattle.thm_durable_bytes.specs.Calls.{sent_by}

pub record Large (n : ℕ) : Type 0 where
  pub zero : eqb n 0 ≡ false
  pub one : eqb n 1 ≡ false
  pub sent : sent_by n ≡ none

pub refusal_number : (r : Refusal) → Large (number_of r)
refusal_number unknown_shard = record { zero = refl; one = refl; sent = refl }
refusal_number (not_primary e) = record { zero = refl; one = refl; sent = refl }
refusal_number no_lease = record { zero = refl; one = refl; sent = refl }
refusal_number too_few_in_sync = record { zero = refl; one = refl; sent = refl }
refusal_number undecodable = record { zero = refl; one = refl; sent = refl }
refusal_number outside_domain = record { zero = refl; one = refl; sent = refl }
refusal_number no_room = record { zero = refl; one = refl; sent = refl }
refusal_number malformed = record { zero = refl; one = refl; sent = refl }
refusal_number last_epoch = record { zero = refl; one = refl; sent = refl }
refusal_number no_worker = record { zero = refl; one = refl; sent = refl }
