-- Paper 01, 'Rules of a run': which events may happen. Each rule of the paper is here, or in the step itself, or is dropped, which
-- allows more runs than the paper does and none fewer: Paper.antt has the paper's rules to the letter, `Paper.Allowed.paper-allowed` in
-- proofs that every run of theirs is one of these. Definitions only.
--
-- In the step itself: each call gets what the last one left; a shown map is the map of that moment; a wait names an accepted write; a
-- request that arrives is the call of its kind, and its answer goes back unless it is a refusal number; a proposal and its outcome each
-- arrive once or never, a timeout is that outcome, and none follows it. How a lone older entry goes is the worker's to choose (request 2.5)
-- and no rule.
--
-- Lifted by request 2.3: between two nodes order holds, and nothing repeats. Any request or reply under way may arrive next, may be lost, and
-- may be doubled, any number of times.
--
-- Dropped: indexes rise; seqs rise, and client numbers differ (kept of both: a proposal's seq is not the one that the map remembers for
-- its client, so that the map never answers it from memory); Promote comes under a client number of its own; a worker's step names a
-- worker that was started, with its metric; replies count only for their worker's latest request. Clocks, leases, timeouts and min_in_sync
-- are arguments of the events and free.
use Rattle.std.specs.Prelude.{ℕ, ◌^◌, Bool, true, false, not, cond, List, [], ◌∷◌, eqb, ltb, leb}
use Rattle.std.proofs.Math.Option.{Option, none, some}
use Rattle.spec.specs.Lists.{◌and◌, every, nth}
use Rattle.spec.specs.Limits.{max_u64}
use Rattle.spec.specs.Map.Tables.{Map, Session}
use Rattle.spec.specs.Map.Apply.{session_at}
use Rattle.spec.specs.Layout.Request as layout
use Rattle.spec.specs.Layout.Request.{Command, decode_request}
use Rattle.spec_run.specs.State.{State, Offer}
use Rattle.spec_run.specs.Step.{step}
use Rattle.spec_run.specs.Event.{
  Event,
  command,
  map_shown,
  lease_granted,
  client_writes,
  client_searches,
  node_waits,
  worker_steps,
  request_arrives,
  request_lost,
  request_repeats,
  reply_arrives,
  reply_lost,
  reply_repeats,
  offer_arrives,
  offer_lost,
  offer_times_out,
  outcome_arrives,
  outcome_lost,
  outcome_times_out,
}

-- bytes are numbers below 256
unfoldable pub is_bytes : List ℕ → Bool
is_bytes bytes = every (λ b. ltb b 256) bytes

-- indexes and seqs are u64
unfoldable pub is_u64 : ℕ → Bool
is_u64 n = leb n max_u64

-- 'Commands': only Promote
abbrev pub is_promote : Command → Bool
is_promote (layout.create n s p) = false
is_promote (layout.drop_collection n) = false
is_promote (layout.register n a i) = false
is_promote (layout.mark_dead n i) = false
is_promote (layout.add_replica k n i e) = false
is_promote (layout.remove_replica k n e) = false
is_promote (layout.promote_primary k n e) = true
is_promote (layout.shrink_in_sync k n e) = false
is_promote (layout.expand_in_sync k n e) = false
is_promote (layout.bench b) = false

-- 'Commands': only Promote; bytes that are no request are refused, and may come too
abbrev pub promotes : Option layout.Request → Bool
promotes none = true
promotes (some r) = is_promote r.command

-- a seq that is not the remembered one
abbrev pub not_last : Option Session → ℕ → Bool
not_last none seq = true
not_last (some x) seq = not (eqb x.seq seq)

-- 'Commands': a proposal's seq is none that its client's last request had
unfoldable pub fresh_seq : State → ℕ → Option Offer → Bool
fresh_seq s seq none = true
fresh_seq s seq (some o) = not_last (session_at s.map.sessions (s.clients o.node)) seq

-- 'Rules of a run': whether an event may happen
unfoldable pub allowed : State → Event → Bool
allowed s (command bytes) = is_bytes bytes and promotes (decode_request bytes)
allowed s (map_shown n fresh) = true
allowed s (lease_granted n i sent lease) = true
allowed s (client_writes n now least bytes) = is_bytes bytes
allowed s (client_searches n now room bytes) = is_bytes bytes
allowed s (node_waits i now timeout) = true
allowed s (worker_steps n k epoch peer metric room) = true
allowed s (request_arrives from to i) = true
allowed s (request_repeats from to i) = true
allowed s (reply_repeats i) = true
allowed s (request_lost from to i) = true
allowed s (reply_arrives i) = true
allowed s (reply_lost i) = true
allowed s (offer_arrives i index seq) = is_u64 index and is_u64 seq and fresh_seq s seq (nth s.offers i)
allowed s (offer_lost i) = true
allowed s (offer_times_out i) = true
allowed s (outcome_arrives i) = true
allowed s (outcome_lost i) = true
allowed s (outcome_times_out i) = true

-- 'Rules of a run': a list of events, each of which may happen when its turn comes
unfoldable pub allowed_run : State → List Event → Bool
allowed_run s [] = true
allowed_run s (e ∷ es) = allowed s e and allowed_run (step s e) es
