-- What the calls on one held shard promise: the answer, with paper 01's number and values for each case, and the shard after, are those
-- of the definition, whatever the shard's key, log and vectors are (they are not lent). Definitions only.
use Rattle.std.specs.Prelude.{ℕ, Bool, cond, not, ◌≡◌, List, [], length, take}
use Rattle.spec.specs.Lists.{◌or◌}
use Rattle.spec.specs.Keys.{Key}
use Rattle.spec.specs.Log.{Log, Vectors}
use Rattle.spec.specs.Refusals.{Refusal, unknown_shard, not_primary, no_lease, too_few_in_sync, undecodable, outside_domain, no_room, malformed, last_epoch, no_worker, number_of}
use Rattle.spec.specs.Node.Held as held
use Rattle.spec.specs.Node.Shards.{Result, gives}
use Rattle.spec.specs.Node.Client as client
use Rattle.spec.specs.Node.Ack as ack
use Rattle.spec.specs.Node.Calls.{late_time}
use Rattle.spec.specs.declared.DataNodeId.{DataNodeId}
use Rattle.node_shard.specs.declared.Held.{Held}
use Rattle.node_shard.specs.declared.Waited.{Waited}
use Rattle.node_shard.specs.declared.WaitAnswer.{WaitAnswer}
use Rattle.node_shard.specs.declared.WaitAnswer.TheVariants as W
use Rattle.node_shard.specs.declared.Settled.{Settled}
use Rattle.node_shard.specs.declared.OutcomeAnswer.{OutcomeAnswer}
use Rattle.node_shard.specs.declared.OutcomeAnswer.TheVariants as O
use Rattle.node_shard.specs.Formed.{formed_held}
use Rattle.node_shard.specs.View.{view_held}

-- ---- waiting for acks

-- 18 tells the own epoch, every other refusal its number alone
abbrev pub wait_refusal : Refusal → WaitAnswer
wait_refusal unknown_shard = W.Refused (number_of unknown_shard)
wait_refusal (not_primary e) = W.NotPrimary e
wait_refusal no_lease = W.Refused (number_of no_lease)
wait_refusal too_few_in_sync = W.Refused (number_of too_few_in_sync)
wait_refusal undecodable = W.Refused (number_of undecodable)
wait_refusal outside_domain = W.Refused (number_of outside_domain)
wait_refusal no_room = W.Refused (number_of no_room)
wait_refusal malformed = W.Refused (number_of malformed)
wait_refusal last_epoch = W.Refused (number_of last_epoch)
wait_refusal no_worker = W.Refused (number_of no_worker)

abbrev pub wait_word : client.WaitAnswer → WaitAnswer
wait_word (client.done l) = W.Done
wait_word (client.waiting l) = W.Waiting
wait_word (client.wait_refused r) = wait_refusal r

abbrev pub shrink_of : client.WaitAnswer → List DataNodeId
shrink_of (client.done l) = l
shrink_of (client.waiting l) = l
shrink_of (client.wait_refused r) = []

-- what the caller of a wait gets
pub record WaitAnswered : Type 0 where
  pub answer : WaitAnswer
  pub shrink : List DataNodeId
  pub held : held.Held

abbrev pub wait_answered : Result client.WaitAnswer held.Held → WaitAnswered
wait_answered r = record { answer = wait_word r.answer; shrink = shrink_of r.answer; held = r.after }

abbrev pub view_waited : Key → Log → Vectors → Waited → WaitAnswered
view_waited k l v r = record { answer = r.answer; shrink = take r.shrink.count r.shrink.items; held = view_held k l v r.held }

-- internal: past the checks
abbrev pub WaitsHeld : Held → (epoch offset now timeout : ℕ) → Waited → Type 0
WaitsHeld h epoch offset now timeout r =
    (k : Key) (l : Log) (v : Vectors) → length l ≡ h.last
    → view_waited k l v r ≡ wait_answered (client.wait_held now timeout epoch offset (view_held k l v h))

-- 'Who is turned down', waiting for acks: 21, 24, then the wait
unfoldable pub wait_call : (lent : Bool) → (now timeout epoch offset : ℕ) → held.Held → Result client.WaitAnswer held.Held
wait_call lent now timeout epoch offset h =
    cond (late_time now or late_time timeout) (gives (client.wait_refused undecodable) h)
    (cond (not lent) (gives (client.wait_refused malformed) h)
    (client.wait_held now timeout epoch offset h))

abbrev pub Waits : Held → (epoch offset now timeout : ℕ) → Waited → Type 0
Waits h epoch offset now timeout r =
    (k : Key) (l : Log) (v : Vectors) → length l ≡ h.last
    → view_waited k l v r ≡ wait_answered (wait_call (formed_held h) now timeout epoch offset (view_held k l v h))

-- ---- outcome of a proposal

-- internal: past the checks
abbrev pub OutcomesHeld : Held → (me epoch peer : ℕ) → Bool → Held → Type 0
OutcomesHeld h me epoch peer left r =
    (k : Key) (l : Log) (v : Vectors) → view_held k l v r ≡ ack.outcome_held me epoch peer left (view_held k l v h)

abbrev pub outcome_word : ack.OutcomeAnswer → OutcomeAnswer
outcome_word ack.settled = O.Noted
outcome_word (ack.outcome_refused r) = O.Refused (number_of r)

pub record OutcomeAnswered : Type 0 where
  pub answer : OutcomeAnswer
  pub held : held.Held

abbrev pub outcome_answered : Result ack.OutcomeAnswer held.Held → OutcomeAnswered
outcome_answered r = record { answer = outcome_word r.answer; held = r.after }

abbrev pub view_settled : Key → Log → Vectors → Settled → OutcomeAnswered
view_settled k l v r = record { answer = r.answer; held = view_held k l v r.held }

-- 'Outcome of a proposal': 24, then the outcome
unfoldable pub outcome_call : (lent : Bool) → (me epoch peer : ℕ) → Bool → held.Held → Result ack.OutcomeAnswer held.Held
outcome_call lent me epoch peer left h =
    cond (not lent) (gives (ack.outcome_refused malformed) h) (gives ack.settled (ack.outcome_held me epoch peer left h))

abbrev pub Settles : Held → (me epoch peer : ℕ) → Bool → Settled → Type 0
Settles h me epoch peer left r =
    (k : Key) (l : Log) (v : Vectors) → view_settled k l v r ≡ outcome_answered (outcome_call (formed_held h) me epoch peer left (view_held k l v h))
