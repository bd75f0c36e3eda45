-- What a machine can hold of a rejection and of a map: names of at most 32 bytes, shards' numbers of 32 bits, all other numbers of 64.
-- Definitions only.
use Rattle.std.specs.Prelude.{ℕ, ◌≤◌, List, length}
use Rattle.spec.specs.Keys.{Name, Key}
use Rattle.spec.specs.Limits.{max_name}
use Rattle.spec.specs.Refusals.{
  Rejection,
  older,
  exists,
  zero_spec,
  placement_mismatch,
  not_alive,
  no_collection,
  known_incarnation,
  not_at_incarnation,
  no_shard,
  other_epoch,
  already_held,
  removes_primary,
  not_held,
  not_in_sync,
  shrinks_primary,
  already_in_sync,
}
use Rattle.spec.specs.Map.Tables.{NodeInfo, ShardInfo, Outcome, applied, rejected, Session, Map, Answer, outcome, refused}
use Rattle.spec.specs.Layout.Format.{All}
use Rattle.spec.specs.Layout.Writable.{U32, U64}

abbrev pub SmallName : Name → Type 0
SmallName n = length n ≤ max_name

-- the numbers among the operands
abbrev pub Numbers : Rejection → Type 0
Numbers older = Unit {0}
Numbers (exists n) = Unit {0}
Numbers zero_spec = Unit {0}
Numbers placement_mismatch = Unit {0}
Numbers (not_alive n) = U64 n
Numbers (no_collection n) = Unit {0}
Numbers (known_incarnation n i) = U64 n × U64 i
Numbers (not_at_incarnation n i) = U64 n × U64 i
Numbers (no_shard k) = U32 k.shard
Numbers (other_epoch k o g) = U32 k.shard × U64 o × U64 g
Numbers (already_held n) = U64 n
Numbers removes_primary = Unit {0}
Numbers (not_held n) = U64 n
Numbers (not_in_sync n) = U64 n
Numbers shrinks_primary = Unit {0}
Numbers (already_in_sync n) = U64 n

-- the name among them
abbrev pub Named : Rejection → Type 0
Named older = Unit {0}
Named (exists n) = SmallName n
Named zero_spec = Unit {0}
Named placement_mismatch = Unit {0}
Named (not_alive n) = Unit {0}
Named (no_collection n) = SmallName n
Named (known_incarnation n i) = Unit {0}
Named (not_at_incarnation n i) = Unit {0}
Named (no_shard k) = SmallName k.collection
Named (other_epoch k o g) = SmallName k.collection
Named (already_held n) = Unit {0}
Named removes_primary = Unit {0}
Named (not_held n) = Unit {0}
Named (not_in_sync n) = Unit {0}
Named shrinks_primary = Unit {0}
Named (already_in_sync n) = Unit {0}

-- of an outcome that is remembered
abbrev pub OutcomeNumbers : Outcome → Type 0
OutcomeNumbers applied = Unit {0}
OutcomeNumbers (rejected r) = Numbers r

-- of what is answered
abbrev pub SmallAnswer : Answer → Type 0
SmallAnswer (outcome applied) = Unit {0}
SmallAnswer (outcome (rejected r)) = Named r × Numbers r
SmallAnswer (refused why) = Unit {0}

-- the numbers of a map that a text can show
pub record MapNumbers (m : Map) : Type 0 where
  pub nodes : All (λ (i : NodeInfo). U64 i.incarnation) m.nodes
  pub shards : All (λ (s : ShardInfo). U64 s.epoch) m.shards
  pub sessions : All (λ (s : Session). OutcomeNumbers s.outcome) m.sessions
