-- Paper 01, 'Rules of a run': the events of a run. Each is a call of the map or of a node, or something that happens to what is under
-- way; which of them may happen when is in Rules.antt, what they do in Step.antt. Definitions only.
use Rattle.std.specs.Prelude.{ℕ, List}
use Rattle.spec.specs.Keys.{Key}
use Rattle.spec.specs.declared.Metric.{Metric}

-- A `place` counts from 0 among what is under way, or among the accepted writes; where nothing stands there, nothing happens
pub data Event : Type 0 where
  -- 'Commands': a request from anyone
  command : (bytes : List ℕ) → Event
  -- 'At a node': the map of that moment is shown; a lease grant; Write and Search of any bytes
  map_shown : (node fresh : ℕ) → Event
  lease_granted : (node incarnation sent lease : ℕ) → Event
  client_writes : (node now least : ℕ) → (bytes : List ℕ) → Event
  client_searches : (node now room : ℕ) → (bytes : List ℕ) → Event
  -- 'At a node': a wait for an accepted write
  node_waits : (place now timeout : ℕ) → Event
  -- 'At a node': a worker's step, whose request fits into `room` bytes
  worker_steps : (node : ℕ) → Key → (epoch peer : ℕ) → Metric → (room : ℕ) → Event
  -- 'Messages'; request 2.3: one under way repeats, and stands there once more
  request_arrives : (from to place : ℕ) → Event
  request_lost : (from to place : ℕ) → Event
  request_repeats : (from to place : ℕ) → Event
  reply_arrives : (place : ℕ) → Event
  reply_lost : (place : ℕ) → Event
  reply_repeats : (place : ℕ) → Event
  -- 'Commands': proposals and their outcomes
  offer_arrives : (place index seq : ℕ) → Event
  offer_lost : (place : ℕ) → Event
  offer_times_out : (place : ℕ) → Event
  outcome_arrives : (place : ℕ) → Event
  outcome_lost : (place : ℕ) → Event
  outcome_times_out : (place : ℕ) → Event
