-- The calls that are lent a header alone (map shown, grant, wait, ack, outcome) are runs of `spec_run`. Assumes nothing.
use Prim.Native.Nat.{ℕ}
use mathlib.Core.Path.{◌≡◌, refl, sym, ap, ◌∙◌}
use mathlib.Core.Bool.{true}
use mathlib.Core.List.{List, []}
use mathlib.Core.Option.{Option, none, some}
use lib.ListN.{take}
use Rattle.spec.specs.Lists.{◌and◌, nth}
use Rattle.spec.specs.Refusals.{Refusal, unknown_shard, not_primary, no_lease, too_few_in_sync, undecodable, outside_domain, no_room, malformed, last_epoch, no_worker}
use Rattle.spec.specs.Node.Held as held
use Rattle.spec.specs.Node.Shards.{Result}
use Rattle.spec.specs.Node.Lease.{grant_refused}
use Rattle.spec.specs.Node.Client as client
use Rattle.spec.specs.Node.Ack as ack
use Rattle.spec.specs.Node.Shown.{shown_refused}
use Rattle.spec.specs.Node.Calls.{grant_with, call_grant, wait_with, call_wait, ack_with, call_ack, outcome_with, call_outcome, shown_with, call_shown}
use Rattle.spec.specs.declared.DataNodeId.{DataNodeId}
use Rattle.spec_run.specs.State.{State, Write, Reply, Outcome, set_node, set_replies, set_offers, set_outcomes, set_writes}
use Rattle.spec_run.specs.Event.{map_shown, lease_granted, node_waits, reply_arrives, reply_lost, outcome_arrives, outcome_lost}
use Rattle.spec_run.specs.Rules.{allowed}
use Rattle.spec_run.specs.Step.{removed, on_shown, on_grant, waited, wait_for, on_wait, acked, replies, on_reply, on_reply_lost, learnt, on_outcome, on_outcome_lost, step}
use Rattle.map_tables.specs.View.{view_map}
use Rattle.map_check.specs.Lent.{well_formed_lent}
use Rattle.node_shard.specs.declared.WaitAnswer.{WaitAnswer}
use Rattle.node_shard.specs.declared.WaitAnswer.TheVariants as W
use Rattle.node_shard.specs.declared.AckAnswer.{AckAnswer}
use Rattle.node_shard.specs.declared.AckAnswer.TheVariants as A
use Rattle.node_shard.specs.Answers.{wait_word, shrink_of}
use Rattle.node_shard.specs.Acks.{ack_word, sent_of}
use Rattle.node_header.specs.View.{view_node}
use Rattle.node_header.specs.Formed.{lent_node}
use Rattle.node_header.specs.Answers.{Answered, WaitAnswered, proposal_of}
use Rattle.node_show.specs.Shows.{ShownAnswered}
use Rattle.thm_durable.specs.Engine.{Engine, stores_of, seen}
use Rattle.thm_durable.specs.Calls.{wait_said, Waits, sent_word, ack_said, Acks, proposal_word, Outcomes, Called}
use Rattle.thm_durable.proofs.Simulated.{Simulated, nothing, one}
use Rattle.thm_durable.proofs.Seen.{seen-node, Beside, given-node}
use Rattle.thm_durable.proofs.Ways.{called}
use Rattle.thm_durable.proofs.Tested.{grant_as, wait_as, outcome_as_lem, ack_as_lem, shown_as_lem}

-- ---- map shown, lease grant

module _ (e f : Engine) where
  pub on-shown : (n fresh : ℕ) → allowed (seen e) (map_shown n fresh) ≡ true → Called e (map_shown n fresh) f → Simulated (seen e) (seen f)
  unfolding Called step on_shown seen
  on-shown n fresh may c =
      let t = stores_of (e.lent_stores n) in
      let x = e.nodes n in
      let m = view_map e.map in
      let z = shown_with (lent_node t x and well_formed_lent e.map) (view_node t x) fresh m in
      called shown_refused e f n z (call_shown (view_node t x) fresh m) (λ a s. s)
      (ap seen c.2 ∙ seen-node e n c.0.node ∙ ap (λ (y : ShownAnswered). set_node (seen e) n y.node) (c.1.same t))
      (shown_as_lem t x fresh e.map) (map_shown n fresh) may refl
      (λ r. nothing (seen e) (seen e) refl)

  pub on-grant : (n i sent lease : ℕ) → allowed (seen e) (lease_granted n i sent lease) ≡ true → Called e (lease_granted n i sent lease) f
      → Simulated (seen e) (seen f)
  unfolding Called step on_grant seen
  on-grant n i sent lease may c =
      let t = stores_of (e.lent_stores n) in
      let x = e.nodes n in
      let z = grant_with (lent_node t x) (view_node t x) i sent lease in
      called grant_refused e f n z (call_grant (view_node t x) i sent lease) (λ a s. s)
      (ap seen c.2 ∙ seen-node e n c.0.node ∙ ap (λ (y : Answered _). set_node (seen e) n y.node) (c.1 t))
      (grant_as t x i sent lease) (lease_granted n i sent lease) may refl
      (λ r. nothing (seen e) (seen e) refl)

-- ---- waiting for acks

wait_beside : (s : State) (w : Write) (a : WaitAnswer) (ps : List DataNodeId) → Beside s (wait_said s w a ps)
unfolding waited set_writes set_offers
wait_beside s w W.Done ps = record { map = refl; nodes = refl; clients = refl }
wait_beside s w W.Waiting ps = record { map = refl; nodes = refl; clients = refl }
wait_beside s w (W.NotPrimary n) ps = record { map = refl; nodes = refl; clients = refl }
wait_beside s w (W.Refused r) ps = record { map = refl; nodes = refl; clients = refl }

wait_refused_lem : (s : State) (w : Write) (r : Refusal) (ps : List DataNodeId) → wait_said s w (wait_word (client.wait_refused r)) ps ≡ s
wait_refused_lem s w unknown_shard ps = refl
wait_refused_lem s w (not_primary n) ps = refl
wait_refused_lem s w no_lease ps = refl
wait_refused_lem s w too_few_in_sync ps = refl
wait_refused_lem s w undecodable ps = refl
wait_refused_lem s w outside_domain ps = refl
wait_refused_lem s w no_room ps = refl
wait_refused_lem s w malformed ps = refl
wait_refused_lem s w last_epoch ps = refl
wait_refused_lem s w no_worker ps = refl

-- the host does with the answer what `spec_run` does with the definition's
wait_said_lem : (s : State) (w : Write) (a : client.WaitAnswer) → wait_said s w (wait_word a) (shrink_of a) ≡ waited s w a
unfolding waited
wait_said_lem s w (client.done ps) = refl
wait_said_lem s w (client.waiting ps) = refl
wait_said_lem s w (client.wait_refused r) = wait_refused_lem s w r []

module _ (e f : Engine) (i now timeout : ℕ) (may : allowed (seen e) (node_waits i now timeout) ≡ true) where
  waits : (w : Write) → nth (seen e).accepted i ≡ some w → Waits e now timeout (some w) f → Simulated (seen e) (seen f)
  unfolding step on_wait wait_for waited seen
  waits w found c =
      let n = w.node in
      let t = stores_of (e.lent_stores n) in
      let x = e.nodes n in
      let z = wait_with (lent_node t x) (view_node t x) now timeout w.key w.epoch w.offset in
      let shrinks = take c.0.shrink.count c.0.shrink.items in
      called client.wait_refused e f n z (call_wait (view_node t x) now timeout w.key w.epoch w.offset) (λ a s. waited s w a)
      (given-node e f n c.0.node (λ s. wait_said s w c.0.answer shrinks) (λ s. wait_beside s w c.0.answer shrinks) c.2
      ∙ ap (λ (y : WaitAnswered). wait_said (set_node (seen e) n y.node) w y.answer y.shrink) (c.1 t)
      ∙ wait_said_lem (set_node (seen e) n z.after) w z.answer)
      (wait_as t x now timeout w.key w.epoch w.offset) (node_waits i now timeout) may (rw found)
      (λ r. nothing (seen e) (seen e) refl)

  pub on_wait_lem : Called e (node_waits i now timeout) f → Simulated (seen e) (seen f)
  unfolding Called seen
  on_wait_lem c = go (nth e.accepted i) refl c
    where
      go : (o : Option Write) → nth e.accepted i ≡ o → Waits e now timeout o f → Simulated (seen e) (seen f)
      go none q c = nothing (seen e) (seen f) (sym (ap seen c))
      go (some w) q c = waits w q c

-- ---- ack

ack_beside : (s : State) (q : Reply) (a : AckAnswer) → Beside s (ack_said s q a)
unfolding acked set_offers
ack_beside s q A.Noted = record { map = refl; nodes = refl; clients = refl }
ack_beside s q A.Expand = record { map = refl; nodes = refl; clients = refl }
ack_beside s q (A.Refused r) = record { map = refl; nodes = refl; clients = refl }

ack_said_lem : (s : State) (q : Reply) (a : ack.AckAnswer) → ack_said s q (ack_word a) ≡ acked s q a
unfolding acked
ack_said_lem s q ack.noted = refl
ack_said_lem s q ack.expand = refl
ack_said_lem s q (ack.ack_refused r) = refl

sent_word_lem : (x : ack.Sent) → sent_of (sent_word x) ≡ x
sent_word_lem ack.sent_align = refl
sent_word_lem ack.sent_replicate = refl
sent_word_lem ack.sent_copy = refl

module _ (e f : Engine) (i : ℕ) (may : allowed (seen e) (reply_arrives i) ≡ true) where
  abbrev gone : State → State
  gone s = set_replies s (removed s.replies i)

  acks : (q : Reply) → nth (seen e).replies i ≡ some q → Acks e i (some q) f → Simulated (seen e) (seen f)
  unfolding step on_reply on_reply_lost replies acked seen set_replies set_node allowed
  acks q found c =
      let n = q.node in
      let t = stores_of (e.lent_stores n) in
      let x = e.nodes n in
      let made : ack.Sent → Result ack.AckAnswer held.Node =
      λ (y : ack.Sent). ack_with (lent_node t x) (view_node t x) q.key q.epoch q.peer y q.bytes in
      let u = made (sent_of (sent_word q.sent)) in
      let deed : ack.AckAnswer → State → State = λ (a : ack.AckAnswer) (s : State). acked (gone s) q a in
      called ack.ack_refused e f n (made q.sent) (call_ack (view_node t x) q.key q.epoch q.peer q.sent q.bytes) deed
      (given-node e f n c.0.node (λ s. ack_said (gone s) q c.0.answer)
      (λ s. let b = ack_beside (gone s) q c.0.answer in record { map = b.map; nodes = b.nodes; clients = b.clients }) c.2
      ∙ ap (λ (y : Answered _). ack_said (gone (set_node (seen e) n y.node)) q y.answer) (c.1 t)
      ∙ ack_said_lem (gone (set_node (seen e) n u.after)) q u.answer
      ∙ ap (λ (y : ack.Sent). deed (made y).answer (set_node (seen e) n (made y).after)) (sent_word_lem q.sent))
      (ack_as_lem t x q.key q.epoch q.peer q.sent q.bytes) (reply_arrives i) may (rw found)
      (λ r. one (seen e) (gone (seen e)) (reply_lost i) refl refl)

  pub on-reply : Called e (reply_arrives i) f → Simulated (seen e) (seen f)
  unfolding Called seen
  on-reply c = go (nth e.replies i) refl c
    where
      go : (o : Option Reply) → nth e.replies i ≡ o → Acks e i o f → Simulated (seen e) (seen f)
      go none q c = nothing (seen e) (seen f) (sym (ap seen c))
      go (some w) q c = acks w q c

-- ---- outcome of a proposal

proposal_word_lem : (x : ack.Proposal) → proposal_of (proposal_word x) ≡ x
proposal_word_lem ack.shrink = refl
proposal_word_lem ack.grow = refl

module _ (e f : Engine) (i : ℕ) (may : allowed (seen e) (outcome_arrives i) ≡ true) where
  abbrev heard : State → State
  heard s = set_outcomes s (removed s.outcomes i)

  settles : (o : Outcome) → nth (seen e).outcomes i ≡ some o → Outcomes e i (some o) f → Simulated (seen e) (seen f)
  unfolding step on_outcome on_outcome_lost learnt seen set_outcomes set_node allowed
  settles o found c =
      let n = o.node in
      let t = stores_of (e.lent_stores n) in
      let x = e.nodes n in
      let made : ack.Proposal → Result ack.OutcomeAnswer held.Node =
      λ (y : ack.Proposal). outcome_with (lent_node t x) (view_node t x) o.key o.epoch o.peer y o.applied in
      called ack.outcome_refused e f n (made o.what) (call_outcome (view_node t x) o.key o.epoch o.peer o.what o.applied) (λ a s. heard s)
      (given-node e f n c.0.node heard (λ s. record { map = refl; nodes = refl; clients = refl }) c.2
      ∙ ap (λ (y : Answered _). heard (set_node (seen e) n y.node)) (c.1 t)
      ∙ ap (λ (y : ack.Proposal). heard (set_node (seen e) n (made y).after)) (proposal_word_lem o.what))
      (outcome_as_lem t x o.key o.epoch o.peer o.what o.applied) (outcome_arrives i) may (rw found)
      (λ r. one (seen e) (heard (seen e)) (outcome_lost i) refl refl)

  pub on-outcome : Called e (outcome_arrives i) f → Simulated (seen e) (seen f)
  unfolding Called seen
  on-outcome c = go (nth e.outcomes i) refl c
    where
      go : (o : Option Outcome) → nth e.outcomes i ≡ o → Outcomes e i o f → Simulated (seen e) (seen f)
      go none q c = nothing (seen e) (seen f) (sym (ap seen c))
      go (some w) q c = settles w q c
