-- A run of the entry points for C (include/catalogue.h). Each event of `spec_run` is here the call of an entry point: the bytes of its buffers at
-- entry and at exit and the number that it answers are related by its own contract, and by nothing else. What the host does with the number
-- and with the bytes of its outputs is what `spec_run` says, in paper 01's words ('Rules of a run'). Buffers that are no image are of any length:
-- where an output is too short (23) nothing happens. Definitions only.
use Rattle.std.specs.Prelude.{ℕ, ◌^◌, ◌<◌, ◌≡◌, Bool, true, false, cond, List, [], ◌∷◌, ◌++◌, eqb, length, take}
use Rattle.std.proofs.Math.Option.{Option, none, some}
use Rattle.spec.specs.Keys.{Key}
use Rattle.spec.specs.Lists.{nth}
use Rattle.spec.specs.Layout.Format.{number_at}
use Rattle.spec.specs.Layout.Parts.{metric_code}
use Rattle.spec.specs.Layout.Message as message
use Rattle.spec.specs.Node.Client as client
use Rattle.spec.specs.Node.Ack as ack
use Rattle.spec.specs.declared.DataNodeId.{DataNodeId}
use Rattle.spec.specs.declared.Metric.{Metric}
use Rattle.spec_run.specs.State.{Request, Reply, Offer, Outcome, Write, State, set_requests, set_replies, set_offers, set_outcomes}
use Rattle.spec_run.specs.Step as run
use Rattle.spec_run.specs.Step.{removed}
use Rattle.spec_run.specs.Rules.{allowed}
use Rattle.spec_run.specs.Event.{
  Event,
  command,
  map_shown,
  lease_granted,
  client_writes,
  client_searches,
  node_waits,
  worker_steps,
  request_arrives,
  request_lost,
  request_repeats,
  reply_arrives,
  reply_lost,
  reply_repeats,
  offer_arrives,
  offer_lost,
  offer_times_out,
  outcome_arrives,
  outcome_lost,
  outcome_times_out,
}
use Rattle.image_parts.specs.Shape.{items}
use Rattle.image_parts.specs.Codes.{id_of}
use Rattle.calls_map.specs.Calls.{AppliesTo}
use Rattle.calls_header.specs.Shows.{Shows}
use Rattle.calls_header.specs.Grants.{Grants}
use Rattle.calls_header.specs.Waits as waits
use Rattle.calls_header.specs.Acks as acks
use Rattle.calls_header.specs.Outcomes as settles
use Rattle.calls_client.specs.Written as write
use Rattle.calls_client.specs.Written.{WritesImages}
use Rattle.calls_client.specs.Searched.{SearchesImages}
use Rattle.calls_peer.specs.PeerCalls.{buffers, ReplicatesImage, NewEpochsImage, CopiesImage}
use Rattle.calls_worker.specs.Steps.{asking, outputs, StepsImage}
use Rattle.thm_durable_bytes.specs.Cluster.{Cluster, seen, InMemory, with_map, with_header, with_node, host}

-- the number beside an answer: `catalogue_u64`
abbrev pub beside : List ℕ → ℕ
beside answer = number_at 8 answer 0

-- ---- clients

-- 0 accepted, and the offset stands in `answer`; every other number is a refusal
abbrev pub offset_in : (number : ℕ) → (answer : List ℕ) → Option ℕ
offset_in r answer = cond (eqb r 0) (some (beside answer)) none

-- an accepted write is remembered with its offset, a refusal does nothing
abbrev pub write_said : State → (node : ℕ) → Option message.Write → Option ℕ → State
write_said s n m none = s
write_said s n m (some o) = run.record_write s n m (client.accepted o)

-- `catalogue_write`, with any `answer` (a, then b) and count of refused calls
abbrev pub Writes : Cluster → (node now least : ℕ) → List ℕ → Cluster → Type 0
Writes d n now least m f =
    (h s a b count counted : List ℕ) × (r : ℕ)
    × WritesImages (write.buffers (d.headers n) (d.stores n) a) (write.buffers h s b) count counted now least m r
    × (f ≡ host (with_node d n h s) (λ x. write_said x n (message.decode_write m) (offset_in r b)))

-- `catalogue_search`: header and stores are lent for reading, and stay
abbrev pub Searches : Cluster → (node now : ℕ) → List ℕ → Cluster → Type 0
Searches d n now m f =
    (hits answer count found told counted : List ℕ) × (r : ℕ)
    × SearchesImages (d.headers n) (d.stores n) count now m hits answer counted found told r × (f ≡ d)

-- ---- waiting for acks

-- the peers that a wait names: how many stands in `answer`, each in `peers`
abbrev pub named : (peers answer : List ℕ) → List DataNodeId
named peers answer = items (beside answer) (λ at. id_of (number_at 8 peers at)) 8 0

-- 0 done: the write is acknowledged; 1 waiting; either way a Shrink of each named peer is proposed; a refusal does nothing
abbrev pub wait_said : State → Write → (number : ℕ) → (peers answer : List ℕ) → State
wait_said s w r peers answer =
    cond (eqb r 0) (run.waited s w (client.done (named peers answer)))
    (cond (eqb r 1) (run.waited s w (client.waiting (named peers answer))) s)

-- `catalogue_wait`, for a write that the node accepted; `peers` is p, then q, `answer` a, then b
abbrev pub Waits : Cluster → (now timeout : ℕ) → Option Write → Cluster → Type 0
Waits d now timeout none f = f ≡ d
Waits d now timeout (some w) f =
    (h p q a b : List ℕ) × (r : ℕ)
    × waits.Waits (d.headers w.node) h p q a b w.key.collection w.key.shard w.epoch w.offset now timeout r
    × (f ≡ host (with_header d w.node h) (λ s. wait_said s w r q b))

-- ---- messages

-- 2 align, 3 replicate, 4 copy; 0 and 1 put nothing under way, and no refusal does
abbrev pub sent_by : ℕ → Option ack.Sent
sent_by r =
    cond (eqb r 2) (some ack.sent_align) (cond (eqb r 3) (some ack.sent_replicate) (cond (eqb r 4) (some ack.sent_copy) none))

-- the request stands in `request` from its start, and its length in `answer`
abbrev pub posted : State → (node : ℕ) → Key → (epoch peer : ℕ) → Option ack.Sent → (request answer : List ℕ) → State
posted s n k epoch peer none request answer = s
posted s n k epoch peer (some sent) request answer =
    set_requests s n peer
    (s.requests n peer ++ (record { sent = sent; key = k; epoch = epoch; bytes = take (beside answer) request } ∷ []))

-- `catalogue_step`, with a `request` (q, then p) of so many bytes, a `size_t`: header and stores are lent for reading, and stay
abbrev pub Asks : Cluster → (node : ℕ) → Key → (epoch peer : ℕ) → Metric → (space : ℕ) → Cluster → Type 0
Asks d n k epoch peer metric space f =
    (q p a b : List ℕ) × (r : ℕ) × (length q ≡ space) × (space < 256 ^ 8)
    × StepsImage (d.headers n) (d.stores n) (asking k.collection k.shard epoch peer (metric_code metric)) (outputs q a) (outputs p b) r
    × (f ≡ host d (λ s. posted s n k epoch peer (sent_by r) p b))

-- a reply goes under way back, as bytes
abbrev pub replying : State → (from to : ℕ) → Request → List ℕ → State
replying s from to q bytes =
    set_replies s
    (s.replies
    ++ (record { node = from; peer = to; sent = q.sent; key = q.key; epoch = q.epoch; bytes = bytes } ∷ []))

-- 0: the nine bytes in `reply` go back; a refusal does not
abbrev pub answered : State → (from to : ℕ) → Request → (number : ℕ) → (reply : List ℕ) → State
answered s from to q r reply = cond (eqb r 0) (replying s from to q (take 9 reply)) s

-- `catalogue_new_epoch`, `catalogue_replicate`, `catalogue_copy`: the call of the request's kind, with any `reply` (p, then q)
abbrev pub Hears : ack.Sent → (header stores header' stores' p q m : List ℕ) → ℕ → Type 0
Hears ack.sent_align h s h' s' p q m r = NewEpochsImage m (buffers h s p) (buffers h' s' q) r
Hears ack.sent_replicate h s h' s' p q m r = ReplicatesImage m (buffers h s p) (buffers h' s' q) r
Hears ack.sent_copy h s h' s' p q m r = CopiesImage m (buffers h s p) (buffers h' s' q) r

-- a request that arrives at `to` leaves its link
abbrev pub Arrives : Cluster → (from to place : ℕ) → Option Request → Cluster → Type 0
Arrives d from to i none f = f ≡ d
Arrives d from to i (some m) f =
    (h s p q : List ℕ) × (r : ℕ) × Hears m.sent (d.headers to) (d.stores to) h s p q m.bytes r
    × (f
    ≡ host (with_node d to h s)
    (λ x. answered (set_requests x from to (removed (x.requests from to) i)) from to m r q))

-- the codes of the steps
abbrev pub sent_code : ack.Sent → ℕ
sent_code ack.sent_align = 2
sent_code ack.sent_replicate = 3
sent_code ack.sent_copy = 4

-- 1: an Expand is proposed for the peer
abbrev pub ack_said : State → Reply → (number : ℕ) → State
ack_said s m r = cond (eqb r 1) (run.acked s m ack.expand) s

-- `catalogue_ack`: a reply that arrives is under way no more
abbrev pub Acks : Cluster → (place : ℕ) → Option Reply → Cluster → Type 0
Acks d i none f = f ≡ d
Acks d i (some m) f =
    (h : List ℕ) × (r : ℕ)
    × acks.Acks (d.headers m.node) h m.key.collection m.bytes m.key.shard m.epoch m.peer (sent_code m.sent) r
    × (f ≡ host (with_header d m.node h) (λ s. ack_said (set_replies s (removed s.replies i)) m r))

-- ---- proposals and outcomes

-- `catalogue_apply`: a proposal that reaches the map, and its outcome goes under way: applied if the number is 0
abbrev pub Offers : Cluster → (place index seq : ℕ) → Option Offer → Cluster → Type 0
Offers d i index seq none f = f ≡ d
Offers d i index seq (some o) f =
    (m : List ℕ) × (r : ℕ) × AppliesTo d.map m (run.offer_bytes (seen d) o index seq) r
    × (f ≡ host (with_map d m) (λ s. run.told (set_offers s (removed s.offers i)) o (eqb r 0)))

-- the codes of the commands, and of an outcome
abbrev pub proposal_code : ack.Proposal → ℕ
proposal_code ack.shrink = 0x17
proposal_code ack.grow = 0x18

abbrev pub applied_code : Bool → ℕ
applied_code true = 1
applied_code false = 0

-- `catalogue_outcome`: an outcome that is told is under way no more
abbrev pub Outcomes : Cluster → (place : ℕ) → Option Outcome → Cluster → Type 0
Outcomes d i none f = f ≡ d
Outcomes d i (some o) f =
    (h : List ℕ) × (r : ℕ)
    × settles.Outcomes (d.headers o.node) h o.key.collection o.key.shard o.epoch o.peer (proposal_code o.what) (applied_code o.applied) r
    × (f ≡ host (with_header d o.node h) (λ s. set_outcomes s (removed s.outcomes i)))

-- ---- the run

-- 'Rules of a run': an event of the cluster d leaves f
unfoldable pub Called : Cluster → Event → Cluster → Type 0
-- `catalogue_apply`
Called d (command bytes) f = (m : List ℕ) × (r : ℕ) × AppliesTo d.map m bytes r × (f ≡ with_map d m)
-- `catalogue_show_map`, with any `starts` (p, then q) and `answer` (a, then b)
Called d (map_shown n fresh) f =
    (h p q a b : List ℕ) × (r : ℕ) × Shows (d.headers n) h d.map p q a b fresh r × (f ≡ with_header d n h)
-- `catalogue_grant`
Called d (lease_granted n i sent lease) f = (h : List ℕ) × (r : ℕ) × Grants (d.headers n) h i sent lease r × (f ≡ with_header d n h)
Called d (client_writes n now least bytes) f = Writes d n now least bytes f
Called d (client_searches n now space bytes) f = Searches d n now bytes f
Called d (node_waits i now timeout) f = Waits d now timeout (nth d.accepted i) f
Called d (worker_steps n k epoch peer metric space) f = Asks d n k epoch peer metric space f
Called d (request_arrives from to i) f = Arrives d from to i (nth (d.requests from to) i) f
Called d (reply_arrives i) f = Acks d i (nth d.replies i) f
Called d (offer_arrives i index seq) f = Offers d i index seq (nth d.offers i) f
Called d (outcome_arrives i) f = Outcomes d i (nth d.outcomes i) f
-- no calls: losses, repeats and timeouts, as in `spec_run`
Called d (request_lost from to i) f = f ≡ host d (λ s. run.on_request_lost s from to i)
Called d (request_repeats from to i) f = f ≡ host d (λ s. run.on_request_repeats s from to i)
Called d (reply_lost i) f = f ≡ host d (λ s. run.on_reply_lost s i)
Called d (reply_repeats i) f = f ≡ host d (λ s. run.on_reply_repeats s i)
Called d (offer_lost i) f = f ≡ host d (λ s. run.on_offer_lost s i)
Called d (offer_times_out i) f = f ≡ host d (λ s. run.on_offer_timeout s i)
Called d (outcome_lost i) f = f ≡ host d (λ s. run.on_outcome_lost s i)
Called d (outcome_times_out i) f = f ≡ host d (λ s. run.on_outcome_timeout s i)

-- 'Rules of a run': a list of events, each of which may happen when its turn comes
unfoldable pub Calls : Cluster → List Event → Cluster → Type 0
Calls d [] f = f ≡ d
Calls d (v ∷ vs) f = (g : Cluster) × InMemory d × (allowed (seen d) v ≡ true) × Called d v g × Calls g vs f
