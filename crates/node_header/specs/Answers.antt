-- What the calls on a header promise: the answer, with paper 01's number and values for each case, and the node after are those of the
-- definition, whatever its stores hold (they are not lent). Definitions only.
use Rattle.std.specs.Prelude.{ℕ, Bool, ◌≡◌, List, take}
use Rattle.std.proofs.Math.Option.{some}
use Rattle.spec.specs.Keys.{Key}
use Rattle.spec.specs.Refusals.{number_of}
use Rattle.spec.specs.Node.Held as held
use Rattle.spec.specs.Node.Shards.{Result}
use Rattle.spec.specs.Node.Lease as leases
use Rattle.spec.specs.Node.Client as client
use Rattle.spec.specs.Node.Ack as ack
use Rattle.spec.specs.Node.Calls as calls
use Rattle.spec.specs.declared.DataNodeId.{DataNodeId}
use Rattle.node_shard.specs.declared.WaitAnswer.{WaitAnswer}
use Rattle.node_shard.specs.declared.AckAnswer.{AckAnswer}
use Rattle.node_shard.specs.declared.OutcomeAnswer.{OutcomeAnswer}
use Rattle.node_shard.specs.declared.Sent.{Sent}
use Rattle.node_shard.specs.declared.Reply.{Reply}
use Rattle.node_shard.specs.Answers.{wait_word, shrink_of, outcome_word}
use Rattle.node_shard.specs.Acks.{ack_word, sent_of, reply_of}
use Rattle.std.specs.Prelude.{Option}
use Rattle.node_admit.specs.View.{view_expiry, with_expiry}
use Rattle.node_admit.specs.Steps.{step_word}
use Rattle.node_header.specs.declared.Node.{Node}
use Rattle.node_header.specs.declared.GrantAnswer.{GrantAnswer}
use Rattle.node_header.specs.declared.GrantAnswer.TheVariants as G
use Rattle.node_header.specs.declared.NodeGranted.{NodeGranted}
use Rattle.node_header.specs.declared.NodeWaited.{NodeWaited}
use Rattle.node_header.specs.declared.NodeAcked.{NodeAcked}
use Rattle.node_header.specs.declared.Proposal.{Proposal}
use Rattle.node_header.specs.declared.Proposal.TheVariants as P
use Rattle.node_header.specs.declared.NodeSettled.{NodeSettled}
use Rattle.node_header.specs.declared.StepAnswer.{StepAnswer}
use Rattle.node_header.specs.declared.StepAnswer.TheVariants as S
use Rattle.node_header.specs.View.{Stores, view_node}
use Rattle.node_header.specs.Formed.{lent_node}

-- an answer with the node after
pub record Answered (A : Type 0) : Type 0 where
  pub answer : A
  pub node : held.Node

abbrev pub answered_as : {A B : Type 0} → (A → B) → Result A held.Node → Answered B
answered_as f r = record { answer = f r.answer; node = r.after }

-- ---- lease grant

-- internal: nothing but the expiry changes
abbrev pub ReExpires : Node → Option ℕ → Node → Type 0
ReExpires n e r = (s : Stores) → view_node s r ≡ with_expiry (view_node s n) (view_expiry e)

abbrev pub grant_word : leases.GrantAnswer → GrantAnswer
grant_word leases.granted = G.Granted
grant_word (leases.grant_refused r) = G.Refused (number_of r)

abbrev pub view_granted : Stores → NodeGranted → Answered GrantAnswer
view_granted s r = record { answer = r.answer; node = view_node s r.node }

abbrev pub GrantsNode : Node → (incarnation sent lease : ℕ) → NodeGranted → Type 0
GrantsNode n i sent lease r =
    (s : Stores) → view_granted s r ≡ answered_as grant_word (calls.grant_with (lent_node s n) (view_node s n) i sent lease)

-- ---- waiting for acks

-- what the caller of a wait gets
pub record WaitAnswered : Type 0 where
  pub answer : WaitAnswer
  pub shrink : List DataNodeId
  pub node : held.Node

abbrev pub wait_answered : Result client.WaitAnswer held.Node → WaitAnswered
wait_answered r = record { answer = wait_word r.answer; shrink = shrink_of r.answer; node = r.after }

abbrev pub view_waited : Stores → NodeWaited → WaitAnswered
view_waited s r = record { answer = r.answer; shrink = take r.shrink.count r.shrink.items; node = view_node s r.node }

-- internal: past the checks
abbrev pub WaitsIn : Node → Key → (epoch offset now timeout : ℕ) → NodeWaited → Type 0
WaitsIn n k epoch offset now timeout r =
    (s : Stores) → view_waited s r ≡ wait_answered (client.on_wait (view_node s n) now timeout k epoch offset)

abbrev pub WaitsNode : Node → Key → (epoch offset now timeout : ℕ) → NodeWaited → Type 0
WaitsNode n k epoch offset now timeout r =
    (s : Stores) → view_waited s r ≡ wait_answered (calls.wait_with (lent_node s n) (view_node s n) now timeout k epoch offset)

-- ---- ack

abbrev pub view_acked : Stores → NodeAcked → Answered AckAnswer
view_acked s r = record { answer = r.answer; node = view_node s r.node }

-- internal: past the checks
abbrev pub AcksIn : Node → Key → (epoch peer : ℕ) → Sent → Reply → NodeAcked → Type 0
AcksIn n k epoch peer step reply r =
    (s : Stores) → view_acked s r ≡ answered_as ack_word (ack.on_ack (view_node s n) k epoch peer (sent_of step) (reply_of reply))

abbrev pub AcksNode : Node → Key → (epoch peer : ℕ) → Sent → Reply → NodeAcked → Type 0
AcksNode n k epoch peer step reply r =
    (s : Stores) → view_acked s r ≡ answered_as ack_word (calls.ack_of (lent_node s n) (view_node s n) k epoch peer (sent_of step) (some (reply_of reply)))

-- ---- outcome of a proposal

abbrev pub proposal_of : Proposal → ack.Proposal
proposal_of P.Shrink = ack.shrink
proposal_of P.Grow = ack.grow

abbrev pub view_settled : Stores → NodeSettled → Answered OutcomeAnswer
view_settled s r = record { answer = r.answer; node = view_node s r.node }

-- internal: past the checks
abbrev pub OutcomesIn : Node → Key → (epoch peer : ℕ) → Bool → Node → Type 0
OutcomesIn n k epoch peer left r =
    (s : Stores) (what : ack.Proposal) (applied : Bool) → ack.leaves what applied ≡ left
    → record { answer = outcome_word ack.settled; node = view_node s r } ≡ answered_as outcome_word (ack.on_outcome (view_node s n) k epoch peer what applied)

abbrev pub OutcomesNode : Node → Key → (epoch peer : ℕ) → Proposal → Bool → NodeSettled → Type 0
OutcomesNode n k epoch peer what applied r =
    (s : Stores)
    → view_settled s r ≡ answered_as outcome_word (calls.outcome_with (lent_node s n) (view_node s n) k epoch peer (proposal_of what) applied)

-- ---- the worker's step

abbrev pub step_answered : calls.StepAnswer → StepAnswer
step_answered (calls.stepped x) = S.Stepped (step_word x)
step_answered (calls.step_refused r) = S.Refused (number_of r)

abbrev pub StepsNode : Node → Key → (epoch peer : ℕ) → StepAnswer → Type 0
StepsNode n k epoch peer r =
    (s : Stores) → r ≡ step_answered (calls.step_with (λ x. lent_node s n) (view_node s n) k epoch peer)
