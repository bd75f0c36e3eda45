-- A run of the engine's calls. Each event of `spec_run` is here the call of an exported function: what it was lent and what it gives back are
-- related by that function's own contract, and by nothing else. What the host does with the answer is what `spec_run` says, in paper 01's words
-- ('Rules of a run'). Definitions only.
use Rattle.std.specs.Prelude.{ℕ, ◌≡◌, true, List, [], ◌∷◌, length, take}
use Rattle.std.proofs.Math.Option.{Option, none, some}
use Rattle.spec.specs.Keys.{Key}
use Rattle.spec.specs.Lists.{nth}
use Rattle.spec.specs.Layout.Message as message
use Rattle.spec.specs.Node.Client as client
use Rattle.spec.specs.Node.Backup.{replied}
use Rattle.spec.specs.Node.Calls as calls
use Rattle.spec.specs.Node.Ack as ack
use Rattle.spec.specs.declared.DataNodeId.{DataNodeId}
use Rattle.spec.specs.declared.Metric.{Metric}
use Rattle.spec_run.specs.State.{Request, Reply, Offer, Outcome, Write, State, set_requests, set_replies, set_offers, set_outcomes}
use Rattle.spec_run.specs.Step as run
use Rattle.spec_run.specs.Step.{removed}
use Rattle.spec_run.specs.Rules.{allowed}
use Rattle.spec_run.specs.Event.{
  Event,
  command,
  map_shown,
  lease_granted,
  client_writes,
  client_searches,
  node_waits,
  worker_steps,
  request_arrives,
  request_lost,
  request_repeats,
  reply_arrives,
  reply_lost,
  reply_repeats,
  offer_arrives,
  offer_lost,
  offer_times_out,
  outcome_arrives,
  outcome_lost,
  outcome_times_out,
}
use Rattle.map_tables.specs.View.{answer_of}
use Rattle.map_apply.specs.declared.Settled.{Settled}
use Rattle.map_apply.specs.Calls.{AppliesBytes}
use Rattle.node_shard.specs.declared.Sent.{Sent}
use Rattle.node_shard.specs.declared.Sent.TheVariants as S
use Rattle.node_shard.specs.declared.WaitAnswer.{WaitAnswer}
use Rattle.node_shard.specs.declared.WaitAnswer.TheVariants as W
use Rattle.node_shard.specs.declared.AckAnswer.{AckAnswer}
use Rattle.node_shard.specs.declared.AckAnswer.TheVariants as A
use Rattle.node_header.specs.declared.Node.{Node}
use Rattle.node_header.specs.declared.NodeGranted.{NodeGranted}
use Rattle.node_header.specs.declared.NodeWaited.{NodeWaited}
use Rattle.node_header.specs.declared.NodeAcked.{NodeAcked}
use Rattle.node_header.specs.declared.NodeSettled.{NodeSettled}
use Rattle.node_header.specs.declared.Proposal.{Proposal}
use Rattle.node_header.specs.declared.Proposal.TheVariants as P
use Rattle.node_header.specs.Answers.{GrantsNode, WaitsNode, OutcomesNode}
use Rattle.node_show.specs.declared.NodeShown.{NodeShown}
use Rattle.node_hear.specs.Hears.{HearsMap, HearsReply}
use Rattle.node_lent.specs.Lend.{LentStore, slot_of}
use Rattle.node_replicate.specs.declared.PeerAnswer.{PeerAnswer}
use Rattle.node_replicate.specs.declared.PeerReply.{PeerReply}
use Rattle.node_replicate.specs.declared.PeerReply.TheVariants as R
use Rattle.node_replicate.specs.Peers.{ReplicateSlot, ReplicatesAt, CopySlot, CopiesAt}
use Rattle.node_epoch.specs.NewEpochs.{NewEpochSlot, NewEpochsAt}
use Rattle.node_write.specs.declared.WriteAnswer.{WriteAnswer}
use Rattle.node_write.specs.declared.WriteReply.{WriteReply}
use Rattle.node_write.specs.declared.WriteReply.TheVariants as C
use Rattle.node_write.specs.ClientWrites.{WriteSlot, WritesAt}
use Rattle.node_search.specs.declared.NodeSearched.{NodeSearched}
use Rattle.node_search.specs.Searches.{Output, room, SearchSlot, SearchesAt}
use Rattle.node_send.specs.declared.Request as outgoing
use Rattle.node_send.specs.declared.Request.TheVariants as Q
use Rattle.node_step.specs.Requests.{Requests}
use Rattle.thm_durable.specs.Engine.{Engine, seen, with_map, with_node, with_store, host}

-- ---- clients

-- what the host does with the answer of a Write: an accepted one is remembered with its offset, a refusal does nothing
abbrev pub write_said : State → (node : ℕ) → Option message.Write → WriteReply → State
write_said s n m (C.Accepted o) = run.record_write s n m (client.accepted o.0)
write_said s n m (C.NotPrimary e) = s
write_said s n m (C.Refused r) = s

-- `node_write::write`, lent the columns of a slot, which is the named shard's, and any count of refused calls
abbrev pub Writes : Engine → (node now least : ℕ) → List ℕ → Engine → Type 0
Writes e n now least m f =
    (slot : ℕ) × (b : LentStore) × (count : ℕ) × (r : WriteAnswer) × WriteSlot (e.nodes n) m slot
    × WritesAt (e.nodes n) (e.lent_stores n slot) b now least m count r
    × (f ≡ host (with_store e n r.node slot b) (λ s. write_said s n (message.decode_write m) r.answer))

-- `node_search::search`, with room for so many neighbours: header and store are lent for reading, and stay
abbrev pub Searches : Engine → (node now space : ℕ) → List ℕ → Engine → Type 0
Searches e n now space m f =
    (slot : ℕ) × (o p : Output) × (count : ℕ) × (r : NodeSearched) × SearchSlot (e.nodes n) m slot × (room o ≡ space)
    × SearchesAt (e.nodes n) (e.lent_stores n slot) m now o p count r × (f ≡ e)

-- ---- waiting for acks

-- what the host does with the answer of a wait, and the peers that it names: Done acknowledges the write, a refusal does nothing
abbrev pub wait_said : State → Write → WaitAnswer → List DataNodeId → State
wait_said s w W.Done ps = run.waited s w (client.done ps)
wait_said s w W.Waiting ps = run.waited s w (client.waiting ps)
wait_said s w (W.NotPrimary e) ps = s
wait_said s w (W.Refused r) ps = s

-- `node_header::wait::wait`, for a write that the node accepted
abbrev pub Waits : Engine → (now timeout : ℕ) → Option Write → Engine → Type 0
Waits e now timeout none f = f ≡ e
Waits e now timeout (some w) f =
    (r : NodeWaited) × WaitsNode (e.nodes w.node) w.key w.epoch w.offset now timeout r
    × (f ≡ host (with_node e w.node r.node) (λ s. wait_said s w r.answer (take r.shrink.count r.shrink.items)))

-- ---- messages

-- the request that a step wrote into the output goes under way
abbrev pub request_said : State → (node : ℕ) → Key → (epoch peer : ℕ) → outgoing.Request → (output : List ℕ) → State
request_said s n k epoch peer Q.Unsent out = s
request_said s n k epoch peer (Q.Written count) out = run.posted s n k epoch peer (calls.written (take count out))
request_said s n k epoch peer (Q.Refused r) out = s

-- `node_step::request`, with an output of so many bytes: header and store are lent for reading, and stay
abbrev pub Asks : Engine → (node : ℕ) → Key → (epoch peer : ℕ) → Metric → (space : ℕ) → Engine → Type 0
Asks e n k epoch peer metric space f =
    (before after : List ℕ) × (r : outgoing.Request) × (length before ≡ space)
    × Requests (e.nodes n) (e.lent_stores n (slot_of (e.nodes n) k)) k epoch peer metric before after r
    × (f ≡ host e (λ s. request_said s n k epoch peer r after))

-- a reply goes under way, and a refusal does not
abbrev pub peer_said : State → (from to : ℕ) → Request → PeerReply → State
peer_said s from to q (R.Stored o) = run.answered s from to q (replied (message.reply_stored o.0))
peer_said s from to q (R.Gap o) = run.answered s from to q (replied (message.reply_gap o.0))
peer_said s from to q (R.StaleEpoch e) = run.answered s from to q (replied (message.reply_stale e.0))
peer_said s from to q (R.Adopted o) = run.answered s from to q (replied (message.reply_adopted o.0))
peer_said s from to q (R.Refused r) = s

-- `node_epoch::new_epoch`, `node_replicate::replicate::replicate`, `node_replicate::copy::copy`: the call of the request's kind, lent the columns a
-- of a slot, leaves b
abbrev pub Hears : ack.Sent → Node → (slot : ℕ) → (a b : LentStore) → List ℕ → PeerAnswer → Type 0
Hears ack.sent_align n slot a b m r = NewEpochSlot n m slot × NewEpochsAt n a b m r
Hears ack.sent_replicate n slot a b m r = ReplicateSlot n m slot × ReplicatesAt n a b m r
Hears ack.sent_copy n slot a b m r = CopySlot n m slot × CopiesAt n a b m r

-- a request that arrives at `to` leaves its link
abbrev pub Arrives : Engine → (from to place : ℕ) → Option Request → Engine → Type 0
Arrives e from to i none f = f ≡ e
Arrives e from to i (some q) f =
    (slot : ℕ) × (b : LentStore) × (r : PeerAnswer) × Hears q.sent (e.nodes to) slot (e.lent_stores to slot) b q.bytes r
    × (f
    ≡ host (with_store e to r.node slot b)
    (λ s. peer_said (set_requests s from to (removed (s.requests from to) i)) from to q r.answer))

-- the step that a reply answers, as the call takes it
abbrev pub sent_word : ack.Sent → Sent
sent_word ack.sent_align = S.Align
sent_word ack.sent_replicate = S.Replicate
sent_word ack.sent_copy = S.Copy

-- what the host does with the answer of an ack: Expand is proposed
abbrev pub ack_said : State → Reply → AckAnswer → State
ack_said s q A.Noted = s
ack_said s q A.Expand = run.acked s q ack.expand
ack_said s q (A.Refused r) = s

-- `node_hear::ack::ack`: a reply that arrives is under way no more
abbrev pub Acks : Engine → (place : ℕ) → Option Reply → Engine → Type 0
Acks e i none f = f ≡ e
Acks e i (some q) f =
    (r : NodeAcked) × HearsReply (e.nodes q.node) q.key q.epoch q.peer (sent_word q.sent) q.bytes r
    × (f ≡ host (with_node e q.node r.node) (λ s. ack_said (set_replies s (removed s.replies i)) q r.answer))

-- ---- proposals and outcomes

-- apply: a proposal that reaches the map, and its outcome goes under way
abbrev pub Offers : Engine → (place index seq : ℕ) → Option Offer → Engine → Type 0
Offers e i index seq none f = f ≡ e
Offers e i index seq (some o) f =
    (r : Settled) × AppliesBytes e.map (run.offer_bytes (seen e) o index seq) r
    × (f
    ≡ host (with_map e r.map)
    (λ s. run.told (set_offers s (removed s.offers i)) o (run.is_applied (answer_of r.verdict))))

-- what was proposed, as the call takes it
abbrev pub proposal_word : ack.Proposal → Proposal
proposal_word ack.shrink = P.Shrink
proposal_word ack.grow = P.Grow

-- `node_header::outcome::outcome`: an outcome that is told is under way no more
abbrev pub Outcomes : Engine → (place : ℕ) → Option Outcome → Engine → Type 0
Outcomes e i none f = f ≡ e
Outcomes e i (some o) f =
    (r : NodeSettled) × OutcomesNode (e.nodes o.node) o.key o.epoch o.peer (proposal_word o.what) o.applied r
    × (f ≡ host (with_node e o.node r.node) (λ s. set_outcomes s (removed s.outcomes i)))

-- ---- the run

-- 'Rules of a run': an event of the engine e leaves f
unfoldable pub Called : Engine → Event → Engine → Type 0
-- apply
Called e (command bytes) f = (r : Settled) × AppliesBytes e.map bytes r × (f ≡ with_map e r.map)
-- `node_hear::show::show`
Called e (map_shown n fresh) f = (r : NodeShown) × HearsMap (e.nodes n) e.map fresh r × (f ≡ with_node e n r.node)
-- `node_header::grant::grant`
Called e (lease_granted n i sent lease) f = (r : NodeGranted) × GrantsNode (e.nodes n) i sent lease r × (f ≡ with_node e n r.node)
Called e (client_writes n now least bytes) f = Writes e n now least bytes f
Called e (client_searches n now space bytes) f = Searches e n now space bytes f
Called e (node_waits i now timeout) f = Waits e now timeout (nth e.accepted i) f
Called e (worker_steps n k epoch peer metric space) f = Asks e n k epoch peer metric space f
Called e (request_arrives from to i) f = Arrives e from to i (nth (e.requests from to) i) f
Called e (reply_arrives i) f = Acks e i (nth e.replies i) f
Called e (offer_arrives i index seq) f = Offers e i index seq (nth e.offers i) f
Called e (outcome_arrives i) f = Outcomes e i (nth e.outcomes i) f
-- no calls: losses, repeats and timeouts, as in `spec_run`
Called e (request_lost from to i) f = f ≡ host e (λ s. run.on_request_lost s from to i)
Called e (request_repeats from to i) f = f ≡ host e (λ s. run.on_request_repeats s from to i)
Called e (reply_lost i) f = f ≡ host e (λ s. run.on_reply_lost s i)
Called e (reply_repeats i) f = f ≡ host e (λ s. run.on_reply_repeats s i)
Called e (offer_lost i) f = f ≡ host e (λ s. run.on_offer_lost s i)
Called e (offer_times_out i) f = f ≡ host e (λ s. run.on_offer_timeout s i)
Called e (outcome_lost i) f = f ≡ host e (λ s. run.on_outcome_lost s i)
Called e (outcome_times_out i) f = f ≡ host e (λ s. run.on_outcome_timeout s i)

-- 'Rules of a run': a list of events, each of which may happen when its turn comes
unfoldable pub Calls : Engine → List Event → Engine → Type 0
Calls e [] f = f ≡ e
Calls e (v ∷ vs) f = (g : Engine) × (allowed (seen e) v ≡ true) × Called e v g × Calls g vs f
