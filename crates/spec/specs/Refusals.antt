-- Paper 01, 'Who is turned down': the numbers 1 to 26 with their operands. Definitions only.
use Rattle.std.specs.Prelude.{ℕ}
use Rattle.spec.specs.Keys.{Name, Key}

-- 1 to 16: why the shard map rejects a command, with the source's operands
pub data Rejection : Type 0 where
  older : Rejection
  exists : Name → Rejection
  zero_spec : Rejection
  placement_mismatch : Rejection
  not_alive : (node : ℕ) → Rejection
  no_collection : Name → Rejection
  known_incarnation : (node known : ℕ) → Rejection
  not_at_incarnation : (node given : ℕ) → Rejection
  no_shard : Key → Rejection
  other_epoch : Key → (own given : ℕ) → Rejection
  already_held : (node : ℕ) → Rejection
  removes_primary : Rejection
  not_held : (node : ℕ) → Rejection
  not_in_sync : (node : ℕ) → Rejection
  shrinks_primary : Rejection
  already_in_sync : (node : ℕ) → Rejection

-- 'Who is turned down': the number of a rejection
abbrev pub reason_of : Rejection → ℕ
reason_of older = 1
reason_of (exists n) = 2
reason_of zero_spec = 3
reason_of placement_mismatch = 4
reason_of (not_alive n) = 5
reason_of (no_collection n) = 6
reason_of (known_incarnation n i) = 7
reason_of (not_at_incarnation n i) = 8
reason_of (no_shard k) = 9
reason_of (other_epoch k o g) = 10
reason_of (already_held n) = 11
reason_of removes_primary = 12
reason_of (not_held n) = 13
reason_of (not_in_sync n) = 14
reason_of shrinks_primary = 15
reason_of (already_in_sync n) = 16

-- 17 to 26: why a call is refused. 18 tells the node's own epoch; of the others the caller gets the number alone
pub data Refusal : Type 0 where
  unknown_shard : Refusal
  not_primary : (own : ℕ) → Refusal
  no_lease : Refusal
  too_few_in_sync : Refusal
  undecodable : Refusal
  outside_domain : Refusal
  no_room : Refusal
  malformed : Refusal
  last_epoch : Refusal
  no_worker : Refusal

-- 'Who is turned down': the number of a refusal
abbrev pub number_of : Refusal → ℕ
number_of unknown_shard = 17
number_of (not_primary e) = 18
number_of no_lease = 19
number_of too_few_in_sync = 20
number_of undecodable = 21
number_of outside_domain = 22
number_of no_room = 23
number_of malformed = 24
number_of last_epoch = 25
number_of no_worker = 26
