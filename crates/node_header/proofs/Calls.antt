-- Laws of the calls on a header, one for each way out. Assumes nothing.
use mathlib.Core.Path.{◌≡◌, refl, sym, ap, ◌∙◌}
use mathlib.Core.Bool.{Bool, true, false}
use mathlib.Core.List.{List, []}
use Prim.Native.Nat.{ℕ, ◌<◌, ◌≤◌}
use lib.Dec.{ltb}
use lib.ListN.{length, take, get_or}
use Rattle.spec.specs.Lists.{◌or◌, lead}
use Rattle.spec.specs.Limits.{max_time}
use Rattle.spec.specs.Keys.{Key}
use Rattle.spec.specs.Refusals.{unknown_shard}
use Rattle.spec.specs.Node.Held as held
use Rattle.spec.specs.Node.Shards.{gives}
use Rattle.spec.specs.Node.Client as client
use Rattle.spec.specs.Node.Ack as ack
use Rattle.spec.specs.Node.Worker as worker
use Rattle.spec.specs.Node.Calls as calls
use Rattle.spec.specs.declared.DataNodeId.{DataNodeId}
use Rattle.node_shard.specs.declared.Held.{Held}
use Rattle.node_shard.specs.declared.Nodes.{Nodes}
use Rattle.node_shard.specs.declared.Waited.{Waited}
use Rattle.node_shard.specs.declared.WaitAnswer.TheVariants as W
use Rattle.node_shard.specs.declared.Acked.{Acked}
use Rattle.node_shard.specs.declared.AckAnswer.TheVariants as A
use Rattle.node_shard.specs.declared.OutcomeAnswer.TheVariants as O
use Rattle.node_shard.specs.declared.Sent.{Sent}
use Rattle.node_shard.specs.declared.Reply.{Reply}
use Rattle.node_shard.specs.Answers as answers
use Rattle.node_shard.specs.Acks as acks
use Rattle.std.specs.Prelude.{Option}
use Rattle.node_admit.specs.declared.Step.{Step}
use Rattle.node_admit.specs.declared.Step.TheVariants as D
use Rattle.node_admit.specs.View.{Grants}
use Rattle.node_admit.specs.Steps.{Steps}
use Rattle.map_tables.specs.Names.{view_key}
use Rattle.node_header.specs.declared.Node.{Node}
use Rattle.node_header.specs.declared.GrantAnswer.TheVariants as G
use Rattle.node_header.specs.declared.NodeWaited.{NodeWaited}
use Rattle.node_header.specs.declared.NodeAcked.{NodeAcked}
use Rattle.node_header.specs.declared.Proposal.{Proposal}
use Rattle.node_header.specs.declared.StepAnswer.TheVariants as S
use Rattle.node_header.specs.View.{Stores, view_held_row, view_node, used, other_key, no_held_row, with_shard}
use Rattle.node_header.specs.Formed.{lent_node}
use Rattle.node_header.specs.Arrays.{Trims}
use Rattle.node_header.specs.Answers.{
  ReExpires,
  GrantsNode,
  WaitAnswered,
  wait_answered,
  WaitsIn,
  WaitsNode,
  answered_as,
  AcksIn,
  AcksNode,
  OutcomesIn,
  OutcomesNode,
  proposal_of,
  StepsNode,
}
use Rattle.node_header.proofs.Shards.{shard-none, shard_some, call-absent, call-held}

-- the tests agree on a header that is not malformed, and on one that is
abbrev Lent : Node → Bool → Type 0
Lent n b = (s : Stores) → b ≡ lent_node s n

-- ---- lease grant

module _ (n : Node) (i sent lease : ℕ) where
  module _ (early : ltb max_time sent ≡ false) where
    module _ (short : ltb max_time lease ≡ false) where
      pub grant_malformed : Lent n false → GrantsNode n i sent lease (record { answer = G.Refused 24; node = n })
      unfolding calls.grant_with ◌or◌
      grant_malformed a s = rw early (rw short (rw (← a s)))

      pub grant-done : Lent n true → (e : Option ℕ) → Grants n.incarnation n.expiry i sent lease e → (m : Node) → ReExpires n e m
          → GrantsNode n i sent lease (record { answer = G.Granted; node = m })
      unfolding calls.grant_with ◌or◌
      grant-done a e g m x s =
          rw early (rw short (rw (← a s) (ap (λ (v : held.Node). record { answer = G.Granted; node = v }) (x s ∙ g (view_node s n) refl refl))))

-- ---- waiting for acks

module _ (n : Node) (k : Key) (epoch offset now timeout : ℕ) where
  module _ (none : Nodes) (free : take none.count none.items ≡ []) where
    pub wait_malformed : ltb max_time now ≡ false → ltb max_time timeout ≡ false → Lent n false
        → WaitsNode n k epoch offset now timeout (record { answer = W.Refused 24; shrink = none; node = n })
    unfolding calls.wait_with ◌or◌
    wait_malformed a b m s = rw a (rw b (rw (← m s) (ap (λ (l : List DataNodeId). record { answer = W.Refused 24; shrink = l; node = view_node s n }) free)))

  pub wait_formed : ltb max_time now ≡ false → ltb max_time timeout ≡ false → Lent n true → (r : NodeWaited)
      → WaitsIn n k epoch offset now timeout r → WaitsNode n k epoch offset now timeout r
  unfolding calls.wait_with ◌or◌
  wait_formed a b m r e s = rw a (rw b (rw (← m s) (e s)))

  module _ (le : n.count ≤ length n.held) (at : ℕ) (is : at ≡ lead (other_key k) (used n)) where
    pub wait_absent : n.count ≤ at → (none : Nodes) → take none.count none.items ≡ []
        → WaitsIn n k epoch offset now timeout (record { answer = W.Refused 17; shrink = none; node = n })
    unfolding client.on_wait
    wait_absent h none free s =
        ap (λ (l : List DataNodeId). record { answer = W.Refused 17; shrink = l; node = view_node s n }) free
        ∙ ap wait_answered (call-absent s n k le at is (client.wait_refused unknown_shard) (client.wait_held now timeout epoch offset) h)

    pub wait_done : at < n.count → (r : Waited) → answers.WaitsHeld (get_or n.held at no_held_row).held epoch offset now timeout r
        → (g : Held) → Trims r.held g → (m : Node) → m ≡ with_shard n at g
        → WaitsIn n k epoch offset now timeout (record { answer = r.answer; shrink = r.shrink; node = m })
    unfolding client.on_wait
    wait_done h r e g trims m put s =
        let x = get_or n.held at no_held_row in
        let f = client.wait_held now timeout epoch offset in
        let q = e (view_key x.key) (s.log x.slot x.held.last) (s.vectors x.slot x.held.last x.stored) (s.long x.slot x.held.last) in
        let after = trims.seen (view_key x.key) (s.log x.slot x.held.last) (s.vectors x.slot x.held.last x.stored) ∙ ap (λ (t : answers.WaitAnswered). t.held) q in
        ap (λ (w : Node). record { answer = r.answer; shrink = take r.shrink.count r.shrink.items; node = view_node s w }) put
        ∙ ap (λ (t : answers.WaitAnswered). record { answer = t.answer; shrink = t.shrink; node = view_node s (with_shard n at g) }) q
        ∙ ap wait_answered
        (call-held s n k le at is (client.wait_refused unknown_shard) f h (f (view_held_row s x)).answer g
        (ap (gives (f (view_held_row s x)).answer) after))

-- ---- ack

module _ (n : Node) (k : Key) (epoch peer : ℕ) (step : Sent) (reply : Reply) where
  abbrev refused_reply : Bool
  refused_reply = ack.bad_reply (acks.reply_of reply)

  pub ack_bad : refused_reply ≡ true → AcksNode n k epoch peer step reply (record { answer = A.Refused 21; node = n })
  ack_bad b s = rw b

  module _ (good : refused_reply ≡ false) where
    pub ack_malformed : Lent n false → AcksNode n k epoch peer step reply (record { answer = A.Refused 24; node = n })
    ack_malformed a s = rw good (rw (← a s))

    pub ack_formed : Lent n true → (r : NodeAcked) → AcksIn n k epoch peer step reply r → AcksNode n k epoch peer step reply r
    ack_formed a r e s = rw good (rw (← a s) (e s))

    module _ (le : n.count ≤ length n.held) (at : ℕ) (is : at ≡ lead (other_key k) (used n)) where
      pub ack_absent : n.count ≤ at → AcksIn n k epoch peer step reply (record { answer = A.Noted; node = n })
      unfolding ack.on_ack
      ack_absent h s = rw good (ap (answered_as acks.ack_word) (call-absent s n k le at is ack.noted (ack.ack_held epoch peer (acks.sent_of step) (acks.reply_of reply)) h))

      pub ack_done : at < n.count → (r : Acked) → acks.AcksHeld (get_or n.held at no_held_row).held epoch peer step reply r
          → (g : Held) → Trims r.held g → (m : Node) → m ≡ with_shard n at g → AcksIn n k epoch peer step reply (record { answer = r.answer; node = m })
      unfolding ack.on_ack
      ack_done h r e g trims m put s =
          let x = get_or n.held at no_held_row in
          let f = ack.ack_held epoch peer (acks.sent_of step) (acks.reply_of reply) in
          let q = e (view_key x.key) (s.log x.slot x.held.last) (s.vectors x.slot x.held.last x.stored) (s.long x.slot x.held.last) in
          let after = trims.seen (view_key x.key) (s.log x.slot x.held.last) (s.vectors x.slot x.held.last x.stored) ∙ ap (λ (t : acks.AckAnswered). t.held) q in
          rw good
          (ap (λ (w : Node). record { answer = r.answer; node = view_node s w }) put
          ∙ ap (λ (t : acks.AckAnswered). record { answer = t.answer; node = view_node s (with_shard n at g) }) q
          ∙ ap (answered_as acks.ack_word)
          (call-held s n k le at is ack.noted f h (f (view_held_row s x)).answer g (ap (gives (f (view_held_row s x)).answer) after)))

-- ---- outcome of a proposal

module _ (n : Node) (k : Key) (epoch peer : ℕ) where
  module _ (left : Bool) (le : n.count ≤ length n.held) (at : ℕ) (is : at ≡ lead (other_key k) (used n)) where
    pub outcome-absent : n.count ≤ at → OutcomesIn n k epoch peer left n
    unfolding ack.on_outcome
    outcome-absent h s what applied l =
        ap (answered_as answers.outcome_word) (call-absent s n k le at is ack.settled (ack.outcome_at n.id.0 epoch peer (ack.leaves what applied)) h)

    pub outcome-done : at < n.count → (r : Held) → answers.OutcomesHeld (get_or n.held at no_held_row).held n.id.0 epoch peer left r → (g : Held) → Trims r g
        → (m : Node) → m ≡ with_shard n at g → OutcomesIn n k epoch peer left m
    unfolding ack.on_outcome
    outcome-done h r e g trims m put s what applied l =
        let x = get_or n.held at no_held_row in
        let q = trims.seen (view_key x.key) (s.log x.slot x.held.last) (s.vectors x.slot x.held.last x.stored) ∙ e (view_key x.key) (s.log x.slot x.held.last) (s.vectors x.slot x.held.last x.stored) in
        rw l
        (ap (λ (w : Node). record { answer = O.Noted; node = view_node s w }) put
        ∙ ap (answered_as answers.outcome_word)
        (call-held s n k le at is ack.settled (ack.outcome_at n.id.0 epoch peer left) h ack.settled g (ap (gives ack.settled) q)))

  module _ (what : Proposal) (applied : Bool) where
    pub outcome_malformed : Lent n false → OutcomesNode n k epoch peer what applied (record { answer = O.Refused 24; node = n })
    unfolding calls.outcome_with
    outcome_malformed a s = rw (← a s)

    pub outcome-formed : Lent n true → (left : Bool) → left ≡ ack.leaves (proposal_of what) applied → (m : Node) → OutcomesIn n k epoch peer left m
        → OutcomesNode n k epoch peer what applied (record { answer = O.Noted; node = m })
    unfolding calls.outcome_with
    outcome-formed a left l m e s = rw (← a s) (e s (proposal_of what) applied (sym l))

-- ---- the worker's step

module _ (n : Node) (k : Key) (epoch peer : ℕ) where
  pub step_malformed : Lent n false → StepsNode n k epoch peer (S.Refused 24)
  unfolding calls.step_with
  step_malformed a s = rw (← a s)

  module _ (formed : Lent n true) (le : n.count ≤ length n.held) (at : ℕ) (is : at ≡ lead (other_key k) (used n)) where
    pub step-absent : n.count ≤ at → StepsNode n k epoch peer (S.Stepped D.Stop)
    unfolding calls.step_with worker.on_step
    step-absent h s = rw (← formed s) (rw (shard-none s n k le at is h))

    pub step-done : at < n.count → (r : Step) → Steps (get_or n.held at no_held_row).held epoch peer r → StepsNode n k epoch peer (S.Stepped r)
    unfolding calls.step_with worker.on_step
    step-done h r e s =
        let x = get_or n.held at no_held_row in
        rw (← formed s)
        (rw (shard_some s n k le at is h)
        (ap S.Stepped (e (view_key x.key) (s.log x.slot x.held.last) (s.vectors x.slot x.held.last x.stored) (s.long x.slot x.held.last))))
