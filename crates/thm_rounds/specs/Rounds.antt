-- Paper 02, request 2.13: one node is primary at the highest epoch that any holder has, and nothing is under way between nodes. A round is
-- any list of events in which each of that primary's workers steps, and after which nothing is under way again: steps and deliveries in any
-- order, more of them than one a worker, and those of other nodes too. Definitions only.
--
-- Not asked: that no proposal be unanswered. Neither logs nor acks read what becomes of one.
use Rattle.std.specs.Prelude.{ℕ, ◌≤◌, ◌*◌, ◌≡◌, Bool, true, false, not, List, [], ◌∷◌, eqb, leb, length}
use Rattle.std.proofs.Math.Option.{Option, none, some}
use Rattle.spec.specs.Keys.{Key, same_key}
use Rattle.spec.specs.Lists.{◌and◌, ◌or◌, every}
use Rattle.spec.specs.Limits.{max_batch}
use Rattle.spec.specs.Map.Tables.{Map, ShardInfo}
use Rattle.spec.specs.Map.Apply.{shard_at}
use Rattle.spec.specs.Map.Change.{holds}
use Rattle.spec.specs.Node.Held.{Held}
use Rattle.spec.specs.Node.Shards.{held_shard, leads_at}
use Rattle.spec.specs.Node.Worker.{Message, message_bytes}
use Rattle.spec.specs.Node.Calls.{request_of}
use Rattle.spec.specs.declared.Replica.{Replica}
use Rattle.spec_run.specs.State.{State}
use Rattle.spec_run.specs.Step.{step, run}
use Rattle.spec_run.specs.Rules.{allowed_run}
use Rattle.spec_run.specs.Claim.{log_of}
use Rattle.spec_run.specs.Event.{
  Event,
  command,
  map_shown,
  lease_granted,
  client_writes,
  client_searches,
  node_waits,
  worker_steps,
  request_arrives,
  request_lost,
  request_repeats,
  reply_arrives,
  reply_lost,
  reply_repeats,
  offer_arrives,
  offer_lost,
  offer_times_out,
  outcome_arrives,
  outcome_lost,
  outcome_times_out,
}

-- ---- the situation

-- 'one node be primary at the highest epoch any holder has': node a, at epoch e
pub record Leads (s : State) (k : Key) (a e : ℕ) : Type 0 where
  pub held : Held
  pub found : held_shard (s.nodes a) k ≡ some held
  pub role : leads_at held.role e ≡ true
  pub highest : (n : ℕ) (h : Held) → held_shard (s.nodes n) k ≡ some h → h.replica.epoch ≤ e

-- 'no older message be under way'
pub record Still (s : State) : Type 0 where
  pub requests : (a b : ℕ) → s.requests a b ≡ []
  pub replies : s.replies ≡ []

-- the holders of a shard that the map may lack
abbrev pub holders_in : Option ShardInfo → List Replica
holders_in none = []
holders_in (some i) = i.replicas

unfoldable pub is_holder : Map → Key → ℕ → Bool
is_holder m k n = holds n (holders_in (shard_at m.shards k))

-- ---- a round

-- 'no further writes or promotions come, no map be shown', and no message between nodes is lost
abbrev pub in_round : Event → Bool
in_round (command bytes) = false
in_round (map_shown n fresh) = false
in_round (lease_granted n i sent lease) = true
in_round (client_writes n now least bytes) = false
in_round (client_searches n now room bytes) = true
in_round (node_waits i now timeout) = true
in_round (worker_steps n k epoch peer metric room) = true
in_round (request_arrives from to i) = true
in_round (request_lost from to i) = false
in_round (request_repeats from to i) = true
in_round (reply_arrives i) = true
in_round (reply_lost i) = false
in_round (reply_repeats i) = true
in_round (offer_arrives i index seq) = true
in_round (offer_lost i) = true
in_round (offer_times_out i) = true
in_round (outcome_arrives i) = true
in_round (outcome_lost i) = true
in_round (outcome_times_out i) = true

-- the output lent to a step has room for its request, if there is one
abbrev pub room_for : ℕ → Option Message → Bool
room_for room none = true
room_for room (some m) = leb (length (message_bytes m)) room

module _ (k : Key) (a e : ℕ) where
  -- a step of a's worker for p
  unfoldable pub step_for : (p : ℕ) → State → Event → Bool
  step_for p s (command bytes) = false
  step_for p s (map_shown n fresh) = false
  step_for p s (lease_granted n i sent lease) = false
  step_for p s (client_writes n now least bytes) = false
  step_for p s (client_searches n now room bytes) = false
  step_for p s (node_waits i now timeout) = false
  step_for p s (worker_steps n key epoch peer metric room) =
      eqb n a and same_key key k and eqb epoch e and eqb peer p and room_for room (request_of (s.nodes n) key epoch peer metric)
  step_for p s (request_arrives from to i) = false
  step_for p s (request_lost from to i) = false
  step_for p s (request_repeats from to i) = false
  step_for p s (reply_arrives i) = false
  step_for p s (reply_lost i) = false
  step_for p s (reply_repeats i) = false
  step_for p s (offer_arrives i index seq) = false
  step_for p s (offer_lost i) = false
  step_for p s (offer_times_out i) = false
  step_for p s (outcome_arrives i) = false
  step_for p s (outcome_lost i) = false
  step_for p s (outcome_times_out i) = false

  -- 'every worker take one step a round': one at least
  unfoldable pub steps_for : (p : ℕ) → State → List Event → Bool
  steps_for p s [] = false
  steps_for p s (v ∷ vs) = step_for p s v or steps_for p (step s v) vs

  -- a round, from a state in which nothing is under way
  pub record Round (s : State) (es : List Event) : Type 0 where
    pub rules : allowed_run s es ≡ true
    pub kinds : every in_round es ≡ true
    pub steps : (p : ℕ) → is_holder s.map k p ≡ true → (a ≡ p → ⊥) → steps_for p s es ≡ true
    pub ends : Still (run s es)

  -- rounds, one after the other
  abbrev pub Rounds : State → List (List Event) → Type 0
  Rounds s [] = Unit {0}
  Rounds s (es ∷ rs) = Round s es × Rounds (run s es) rs

abbrev pub run_rounds : State → List (List Event) → State
run_rounds s [] = s
run_rounds s (es ∷ rs) = run_rounds (run s es) rs

-- ---- the claim

-- 'every holder's log has exactly the primary's offsets and operations', and epochs; the primary's is the one it had before
abbrev pub CaughtUp : (before after : State) → Key → (a : ℕ) → Type 0
CaughtUp before after k a = (p : ℕ) → is_holder before.map k p ≡ true → log_of (after.nodes p) k ≡ log_of (before.nodes a) k

-- 'one round to align and one for each 256 entries begun': so many batches hold a log of n entries
abbrev pub Enough : (n batches : ℕ) → Type 0
Enough n batches = n ≤ batches * max_batch
