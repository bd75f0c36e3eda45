-- The calls on a header's image that answer a number alone (map shown, lease grant, ack, outcome) are runs of `spec_run`. Assumes nothing.
use Prim.Native.Nat.{ℕ}
use mathlib.Core.Path.{◌≡◌, refl, sym, ap, ◌∙◌}
use mathlib.Core.Bool.{Bool, true, false}
use mathlib.Core.List.{List}
use mathlib.Core.Option.{Option, none, some}
use lib.Dec.{eqb}
use lib.ListN.{take}
use Rattle.spec.specs.Lists.{◌and◌, ◌or◌, nth}
use Rattle.spec.specs.Refusals.{malformed}
use Rattle.spec.specs.Node.Held as held
use Rattle.spec.specs.Node.Shards.{Result}
use Rattle.spec.specs.Node.Lease.{grant_refused}
use Rattle.spec.specs.Node.Ack as ack
use Rattle.spec.specs.Node.Shown as show
use Rattle.spec.specs.Node.Calls.{late_time, call_grant, ack_with, call_ack, outcome_with, call_outcome, call_shown}
use Rattle.spec_run.specs.State.{State, Reply, Outcome, set_node, set_replies, set_offers, set_outcomes}
use Rattle.spec_run.specs.Event.{map_shown, lease_granted, reply_arrives, reply_lost, outcome_arrives, outcome_lost}
use Rattle.spec_run.specs.Rules.{allowed}
use Rattle.spec_run.specs.Step.{removed, on_shown, on_grant, acked, replies, on_reply, on_reply_lost, learnt, on_outcome, on_outcome_lost, step}
use Rattle.map_tables.specs.View.{view_map}
use Rattle.node_shard.specs.Acks.{ack_word, sent_of}
use Rattle.node_shard.specs.declared.AckAnswer.{AckAnswer}
use Rattle.node_show.specs.declared.ShownAnswer.{ShownAnswer}
use Rattle.node_show.specs.declared.ShownAnswer.TheVariants as S
use Rattle.node_show.specs.Shows.{view_starts}
use Rattle.node_header.specs.declared.Node.{Node}
use Rattle.node_header.specs.Formed.{lent_node}
use Rattle.node_header.specs.Answers.{Answered, proposal_of}
use Rattle.node_header.proofs.Lists.{by_case}
use Rattle.image_header.specs.Image.{header_lent, node_at}
use Rattle.image_map.specs.Image.{map_at, map_lent}
use Rattle.image_node.specs.State.{stores_in, state_at}
use Rattle.calls_header.specs.Waits.{Left, rows_room}
use Rattle.calls_header.specs.Grants.{is_granted, granted, GrantsImage}
use Rattle.calls_header.specs.Shows.{worker_bytes, show_said, is_shown, show_writes, shown_call, ShowsImage}
use Rattle.calls_header.specs.Acks.{sent_at, unread_ack, ack_number, is_acked, AcksImage}
use Rattle.calls_header.specs.Outcomes.{proposal_at, unread_outcome, is_settled, OutcomesImage}
use Rattle.thm_durable.proofs.Simulated.{Simulated, nothing, one}
use Rattle.thm_durable.proofs.Seen.{Beside}
use Rattle.thm_durable.proofs.Tested.{grant_as, outcome_as_lem, ack_as_lem, shown_as_lem}
use Rattle.thm_durable_bytes.specs.Cluster.{Cluster, seen}
use Rattle.thm_durable_bytes.specs.Calls.{sent_code, ack_said, Acks, proposal_code, applied_code, Outcomes, Called}
use Rattle.thm_durable_bytes.proofs.Asked.{asked}
use Rattle.thm_durable_bytes.proofs.Numbers.{refusal_number}
use Rattle.thm_durable_bytes.proofs.Seen.{seen-header, left-header}
use Rattle.thm_durable_bytes.proofs.Ways.{called, turned_away}

-- ---- map shown, lease grant

-- without room for the workers, as where the map is refused, no byte of the header changes
unwritten : (w : ShownAnswer) (s p a : List ℕ) (l : List show.Worker) (n : Node) → (is_shown w and rows_room worker_bytes 54 p a l) ≡ false
    → (show_said w s p a l n).header ≡ s
unfolding ◌and◌
unwritten S.Shown s p a l n e = rw e
unwritten (S.Refused k) s p a l n e = refl

module _ (d f : Cluster) where
  pub on-shown : (n fresh : ℕ) → allowed (seen d) (map_shown n fresh) ≡ true → Called d (map_shown n fresh) f → Simulated (seen d) (seen f)
  unfolding Called step on_shown seen
  on-shown n fresh may c =
      let h = d.headers n in
      let b = d.stores n in
      let st = stores_in b in
      let m = view_map (map_at d.map) in
      let to : seen f ≡ set_node (seen d) n (state_at c.0 b) = ap seen c.7 ∙ seen-header d n c.0 in
      let stays : c.0 ≡ h → Simulated (seen d) (seen f) =
      λ (e : c.0 ≡ h).
      turned_away show.shown_refused (seen d) n (call_shown (state_at h b) fresh m) (λ a s. s) (map_shown n fresh) may refl (λ r. nothing (seen d) (seen d) refl)
      (seen f) malformed (to ∙ ap (λ (l : List ℕ). set_node (seen d) n (state_at l b)) e) in
      asked false (header_lent h and map_lent d.map) c.5 c.6 (λ why number e. stays e.0)
      (λ (g : ShowsImage h c.0 d.map c.1 c.2 c.3 c.4 fresh c.5).
      let x = g.after in
      by_case (show_writes c.1 c.3 x)
      (λ e.
      called show.shown_refused (seen d) n (call_shown (state_at h b) fresh m) (λ a s. s) (map_shown n fresh) may refl (λ r. nothing (seen d) (seen d) refl)
      (seen f) (shown_call h d.map fresh st) (shown_as_lem st (node_at h) fresh (map_at d.map))
      (to ∙ ap (set_node (seen d) n) ((g.leaves e).read st)))
      (λ e.
      stays
      (ap (λ (l : Left). l.header) g.buffers
      ∙ unwritten x.answer h c.1 c.3 (view_starts (take x.count x.starts)) x.node e)))

  pub on-grant : (n i sent lease : ℕ) → allowed (seen d) (lease_granted n i sent lease) ≡ true → Called d (lease_granted n i sent lease) f
      → Simulated (seen d) (seen f)
  unfolding Called step on_grant seen
  on-grant n i sent lease may c =
      let h = d.headers n in
      let b = d.stores n in
      let st = stores_in b in
      let y = call_grant (state_at h b) i sent lease in
      let to : seen f ≡ set_node (seen d) n (state_at c.0 b) = ap seen c.3 ∙ seen-header d n c.0 in
      asked (late_time sent or late_time lease) (header_lent h) c.1 c.2
      (λ why number e.
      turned_away grant_refused (seen d) n y (λ a s. s) (lease_granted n i sent lease) may refl (λ r. nothing (seen d) (seen d) refl)
      (seen f) why (to ∙ ap (λ (l : List ℕ). set_node (seen d) n (state_at l b)) e))
      (λ (g : GrantsImage h c.0 i sent lease c.1).
      called grant_refused (seen d) n y (λ a s. s) (lease_granted n i sent lease) may refl (λ r. nothing (seen d) (seen d) refl)
      (seen f) (granted h i sent lease st) (grant_as st (node_at h) i sent lease)
      (to
      ∙ ap (set_node (seen d) n)
      (by_case (is_granted g.after.answer) (λ e. (g.leaves e).read st) (λ e. (g.stays e).read st))))

-- ---- ack

ack_beside : (s : State) (m : Reply) (r : ℕ) → Beside s (ack_said s m r)
unfolding acked set_offers
ack_beside s m r =
    by_case (eqb r 1) (λ e. rw e (record { map = refl; nodes = refl; clients = refl })) (λ e. rw e (record { map = refl; nodes = refl; clients = refl }))

ack_said_lem : (s : State) (m : Reply) (a : ack.AckAnswer) → ack_said s m (ack_number (ack_word a)) ≡ acked s m a
unfolding acked
ack_said_lem s m ack.noted = refl
ack_said_lem s m ack.expand = refl
ack_said_lem s m (ack.ack_refused r) = rw (refusal_number r).one

sent-code : (x : ack.Sent) → sent_of (sent_at (sent_code x)) ≡ x
sent-code ack.sent_align = refl
sent-code ack.sent_replicate = refl
sent-code ack.sent_copy = refl

module _ (d f : Cluster) (i : ℕ) (may : allowed (seen d) (reply_arrives i) ≡ true) where
  abbrev gone : State → State
  gone s = set_replies s (removed s.replies i)

  acks : (m : Reply) → nth (seen d).replies i ≡ some m → Acks d i (some m) f → Simulated (seen d) (seen f)
  unfolding step on_reply on_reply_lost replies acked seen set_replies set_node allowed
  acks m found c =
      let n = m.node in
      let h = d.headers n in
      let b = d.stores n in
      let st = stores_in b in
      let v = state_at h b in
      let made : ack.Sent → Result ack.AckAnswer held.Node =
      λ (y : ack.Sent). ack_with (lent_node st (node_at h)) v m.key m.epoch m.peer y m.bytes in
      let x = made (sent_of (sent_at (sent_code m.sent))) in
      let y = call_ack v m.key m.epoch m.peer m.sent m.bytes in
      let deed : ack.AckAnswer → State → State = λ (a : ack.AckAnswer) (s : State). acked (gone s) m a in
      let to : seen f ≡ ack_said (gone (set_node (seen d) n (state_at c.0 b))) m c.1 =
      left-header d f n (λ s. ack_said (gone s) m c.1)
      (λ s. let q = ack_beside (gone s) m c.1 in record { map = q.map; nodes = q.nodes; clients = q.clients }) c.0 c.3 in
      asked (unread_ack m.key.collection (sent_code m.sent) m.bytes) (header_lent h) c.1 c.2
      (λ why number e.
      turned_away ack.ack_refused (seen d) n y deed (reply_arrives i) may (rw found) (λ r. one (seen d) (gone (seen d)) (reply_lost i) refl refl)
      (seen f) why
      (to ∙ ap (λ (l : List ℕ). ack_said (gone (set_node (seen d) n (state_at l b))) m c.1) e
      ∙ ap (ack_said (gone (set_node (seen d) n v)) m) number
      ∙ ack_said_lem (gone (set_node (seen d) n v)) m (ack.ack_refused why)))
      (λ (g : AcksImage h c.0 m.key.collection m.bytes m.key.shard m.epoch m.peer (sent_code m.sent) c.1).
      called ack.ack_refused (seen d) n y deed (reply_arrives i) may (rw found) (λ r. one (seen d) (gone (seen d)) (reply_lost i) refl refl)
      (seen f) (made m.sent) (ack_as_lem st (node_at h) m.key m.epoch m.peer m.sent m.bytes)
      (to
      ∙ ap (λ (z : held.Node). ack_said (gone (set_node (seen d) n z)) m c.1)
      (by_case (is_acked g.after.answer) (λ e. (g.leaves e).read st) (λ e. (g.stays e).read st))
      ∙ ap (ack_said (gone (set_node (seen d) n x.after)) m)
      (g.answer ∙ ap ack_number (ap (λ (z : Answered AckAnswer). z.answer) (g.call st)))
      ∙ ack_said_lem (gone (set_node (seen d) n x.after)) m x.answer
      ∙ ap (λ (z : ack.Sent). deed (made z).answer (set_node (seen d) n (made z).after)) (sent-code m.sent)))

  pub on-reply : Called d (reply_arrives i) f → Simulated (seen d) (seen f)
  unfolding Called seen
  on-reply c = go (nth d.replies i) refl c
    where
      go : (o : Option Reply) → nth d.replies i ≡ o → Acks d i o f → Simulated (seen d) (seen f)
      go none q c = nothing (seen d) (seen f) (sym (ap seen c))
      go (some m) q c = acks m q c

-- ---- outcome of a proposal

proposal_code_lem : (x : ack.Proposal) → proposal_of (proposal_at (proposal_code x)) ≡ x
proposal_code_lem ack.shrink = refl
proposal_code_lem ack.grow = refl

applied-code : (b : Bool) → eqb (applied_code b) 1 ≡ b
applied-code true = refl
applied-code false = refl

module _ (d f : Cluster) (i : ℕ) (may : allowed (seen d) (outcome_arrives i) ≡ true) where
  abbrev heard : State → State
  heard s = set_outcomes s (removed s.outcomes i)

  settles : (o : Outcome) → nth (seen d).outcomes i ≡ some o → Outcomes d i (some o) f → Simulated (seen d) (seen f)
  unfolding step on_outcome on_outcome_lost learnt seen set_outcomes set_node allowed
  settles o found c =
      let n = o.node in
      let h = d.headers n in
      let b = d.stores n in
      let st = stores_in b in
      let v = state_at h b in
      let made : ack.Proposal → Bool → Result ack.OutcomeAnswer held.Node =
      λ (y : ack.Proposal) (z : Bool). outcome_with (lent_node st (node_at h)) v o.key o.epoch o.peer y z in
      let y = call_outcome v o.key o.epoch o.peer o.what o.applied in
      let code = proposal_code o.what in
      let flag = applied_code o.applied in
      let to : seen f ≡ heard (set_node (seen d) n (state_at c.0 b)) =
      left-header d f n heard (λ s. record { map = refl; nodes = refl; clients = refl }) c.0 c.3 in
      asked (unread_outcome o.key.collection code flag) (header_lent h) c.1 c.2
      (λ why number e.
      turned_away ack.outcome_refused (seen d) n y (λ a s. heard s) (outcome_arrives i) may (rw found)
      (λ r. one (seen d) (heard (seen d)) (outcome_lost i) refl refl)
      (seen f) why (to ∙ ap (λ (l : List ℕ). heard (set_node (seen d) n (state_at l b))) e))
      (λ (g : OutcomesImage h c.0 o.key.collection o.key.shard o.epoch o.peer code flag c.1).
      called ack.outcome_refused (seen d) n y (λ a s. heard s) (outcome_arrives i) may (rw found)
      (λ r. one (seen d) (heard (seen d)) (outcome_lost i) refl refl)
      (seen f) (made o.what o.applied) (outcome_as_lem st (node_at h) o.key o.epoch o.peer o.what o.applied)
      (to
      ∙ ap (λ (z : held.Node). heard (set_node (seen d) n z))
      (by_case (is_settled g.after.answer) (λ e. (g.leaves e).read st) (λ e. (g.stays e).read st))
      ∙ ap (λ (z : ack.Proposal). heard (set_node (seen d) n (made z (eqb flag 1)).after)) (proposal_code_lem o.what)
      ∙ ap (λ (z : Bool). heard (set_node (seen d) n (made o.what z).after)) (applied-code o.applied)))

  pub on-outcome : Called d (outcome_arrives i) f → Simulated (seen d) (seen f)
  unfolding Called seen
  on-outcome c = go (nth d.outcomes i) refl c
    where
      go : (o : Option Outcome) → nth d.outcomes i ≡ o → Outcomes d i o f → Simulated (seen d) (seen f)
      go none q c = nothing (seen d) (seen f) (sym (ap seen c))
      go (some o) q c = settles o q c
