-- Paper 01, 'Rules of a run': what each event does. Every call is the one that `spec` defines on bytes and on the state that the last
-- call left, with its refusals; a refused call leaves the state. Definitions only.
use Rattle.std.specs.Prelude.{ℕ, zero, suc, Bool, true, false, cond, List, [], ◌∷◌, ◌++◌, map, eqb, get_or}
use Rattle.std.proofs.Math.Option.{Option, none, some}
use Rattle.spec.specs.Keys.{Key}
use Rattle.spec.specs.Lists.{nth}
use Rattle.spec.specs.Map.Tables as tables
use Rattle.spec.specs.Map.Tables.{Map, Answer}
use Rattle.spec.specs.Map.Calls.{apply_bytes}
use Rattle.spec.specs.Layout.Request.{Command, shrink_in_sync, expand_in_sync, encode_request}
use Rattle.spec.specs.Layout.Message.{decode_write, encode_reply}
use Rattle.spec.specs.Layout.Message as message
use Rattle.spec.specs.Node.Held.{Node}
use Rattle.spec.specs.Node.Shards.{Result}
use Rattle.spec.specs.Node.Wire.{stored_op}
use Rattle.spec.specs.Node.Client as client
use Rattle.spec.specs.Node.Client.{WriteAnswer, WaitAnswer}
use Rattle.spec.specs.Node.Backup.{BackupAnswer, replied, backup_refused}
use Rattle.spec.specs.Node.Ack.{Sent, sent_align, sent_replicate, sent_copy, AckAnswer, noted, expand, ack_refused, Proposal, shrink, grow}
use Rattle.spec.specs.Node.Calls.{call_write, call_search, call_replicate, call_new_epoch, call_copy, call_grant, call_wait, call_request, RequestAnswer, unsent, written, request_refused, call_ack, call_outcome, call_shown}
use Rattle.spec.specs.declared.DataNodeId.{DataNodeId}
use Rattle.spec.specs.declared.Metric.{Metric}
use Rattle.spec_run.specs.State.{Request, Reply, Offer, Outcome, Write, State, set_map, set_node, set_requests, set_replies, set_offers, set_outcomes, set_writes}
use Rattle.spec_run.specs.Event.{
  Event,
  command,
  map_shown,
  lease_granted,
  client_writes,
  client_searches,
  node_waits,
  worker_steps,
  request_arrives,
  request_lost,
  request_repeats,
  reply_arrives,
  reply_lost,
  reply_repeats,
  offer_arrives,
  offer_lost,
  offer_times_out,
  outcome_arrives,
  outcome_lost,
  outcome_times_out,
}

-- what is left under way when the one at a place is gone
unfoldable pub removed : {A : Type 0} → List A → ℕ → List A
removed [] i = []
removed (x ∷ xs) zero = xs
removed (x ∷ xs) (suc i) = x ∷ removed xs i

-- one under way, put in the place of another
unfoldable pub replaced : {A : Type 0} → List A → ℕ → A → List A
replaced [] i y = []
replaced (x ∷ xs) zero y = y ∷ xs
replaced (x ∷ xs) (suc i) y = x ∷ replaced xs i y

-- ---- commands and calls of one node

-- 'Commands': a request reaches the map
unfoldable pub on_command : State → List ℕ → State
on_command s bytes = set_map s (apply_bytes s.map bytes).map

-- 'At a node': maps shown, each the map of that moment
unfoldable pub on_shown : State → (node fresh : ℕ) → State
on_shown s n fresh = set_node s n (call_shown (s.nodes n) fresh s.map).after

-- 'At a node': lease grants
unfoldable pub on_grant : State → (node incarnation sent lease : ℕ) → State
on_grant s n i sent lease = set_node s n (call_grant (s.nodes n) i sent lease).after

-- 'At a node': an accepted Write is remembered with the offset it was answered; only a message that decodes is accepted
unfoldable pub record_write : State → ℕ → Option message.Write → WriteAnswer → State
record_write s n none a = s
record_write s n (some m) (client.write_refused r) = s
record_write s n (some m) (client.accepted o) =
    set_writes s
    (s.accepted ++ (record { node = n; key = m.key; epoch = m.epoch; offset = o; op = stored_op m.op } ∷ []))
    s.acknowledged

-- 'At a node': Write of any bytes
unfoldable pub on_write : State → (node now least : ℕ) → List ℕ → State
on_write s n now least bytes =
    let r = call_write (s.nodes n) now least bytes in
    record_write (set_node s n r.after) n (decode_write bytes) r.answer

-- 'At a node': Search of any bytes
unfoldable pub on_search : State → (node now room : ℕ) → List ℕ → State
on_search s n now room bytes = set_node s n (call_search (s.nodes n) now room bytes).after

-- ---- waiting for acks

-- 'Commands': the Shrink of one peer that a wait proposes
abbrev pub shrink_of : Write → DataNodeId → Offer
shrink_of w p = record { node = w.node; key = w.key; peer = p.0; epoch = w.epoch; what = shrink; awaited = true }

-- 'At a node': when the wait says done, the Write is acknowledged; the Shrinks that it answers are proposed
unfoldable pub waited : State → Write → WaitAnswer → State
waited s w (client.wait_refused r) = s
waited s w (client.waiting ps) = set_offers s (s.offers ++ map (shrink_of w) ps)
waited s w (client.done ps) =
    set_writes (set_offers s (s.offers ++ map (shrink_of w) ps)) s.accepted (s.acknowledged ++ (w ∷ []))

-- 'At a node': a wait for a write, if one stands at the place
unfoldable pub wait_for : State → (now timeout : ℕ) → Option Write → State
wait_for s now timeout none = s
wait_for s now timeout (some w) =
    let r = call_wait (s.nodes w.node) now timeout w.key w.epoch w.offset in
    waited (set_node s w.node r.after) w r.answer

-- 'At a node': a wait names only the epoch and offset of a Write which that node accepted
unfoldable pub on_wait : State → (place now timeout : ℕ) → State
on_wait s i now timeout = wait_for s now timeout (nth s.accepted i)

-- ---- messages

-- 'Messages': which step a request's bytes are, by their code
unfoldable pub sent_of : List ℕ → Sent
sent_of bytes = cond (eqb (get_or bytes 0 0) 0x21) sent_align (cond (eqb (get_or bytes 0 0) 0x20) sent_replicate sent_copy)

-- 'Messages': the request of a step goes under way, if there is one
unfoldable pub posted : State → (node : ℕ) → Key → (epoch peer : ℕ) → RequestAnswer → State
posted s n k epoch peer unsent = s
posted s n k epoch peer (request_refused r) = s
posted s n k epoch peer (written bytes) =
    set_requests s n peer
    (s.requests n peer ++ (record { sent = sent_of bytes; key = k; epoch = epoch; bytes = bytes } ∷ []))

-- 'Messages': an Align or Send puts its request under way
unfoldable pub on_work : State → (node : ℕ) → Key → (epoch peer : ℕ) → Metric → (room : ℕ) → State
on_work s n k epoch peer metric room =
    posted s n k epoch peer (call_request (s.nodes n) room k epoch peer metric)

-- 'Messages': a request that arrives is the call of its kind
unfoldable pub heard : Node → Sent → List ℕ → Result BackupAnswer Node
heard x sent_align bytes = call_new_epoch x bytes
heard x sent_replicate bytes = call_replicate x bytes
heard x sent_copy bytes = call_copy x bytes

-- 'Messages': the answer, unless a refusal number, goes under way back
unfoldable pub answered : State → (from to : ℕ) → Request → BackupAnswer → State
answered s from to q (backup_refused r) = s
answered s from to q (replied r) =
    set_replies s
    (s.replies
    ++ (record { node = from; peer = to; sent = q.sent; key = q.key; epoch = q.epoch; bytes = encode_reply r } ∷ []))

-- 'Messages': what arrives is heard, and leaves its link
unfoldable pub arrives : State → (from to place : ℕ) → Option Request → State
arrives s from to i none = s
arrives s from to i (some q) =
    let r = heard (s.nodes to) q.sent q.bytes in
    answered (set_requests (set_node s to r.after) from to (removed (s.requests from to) i)) from to q r.answer

-- 'Messages': a request arrives
unfoldable pub on_arrival : State → (from to place : ℕ) → State
on_arrival s from to i = arrives s from to i (nth (s.requests from to) i)

-- request 2.3: a request under way comes once more
unfoldable pub doubled : State → (from to : ℕ) → Option Request → State
doubled s from to none = s
doubled s from to (some q) = set_requests s from to (s.requests from to ++ (q ∷ []))

-- request 2.3: requests repeat
unfoldable pub on_request_repeats : State → (from to place : ℕ) → State
on_request_repeats s from to i = doubled s from to (nth (s.requests from to) i)

-- request 2.3: a reply under way comes once more
unfoldable pub reply_doubled : State → Option Reply → State
reply_doubled s none = s
reply_doubled s (some q) = set_replies s (s.replies ++ (q ∷ []))

-- request 2.3: replies repeat
unfoldable pub on_reply_repeats : State → (place : ℕ) → State
on_reply_repeats s i = reply_doubled s (nth s.replies i)

-- 'Messages': loss is allowed
unfoldable pub on_request_lost : State → (from to place : ℕ) → State
on_request_lost s from to i = set_requests s from to (removed (s.requests from to) i)

-- 'The node': a peer that has caught up is proposed for the in_sync_lem set
unfoldable pub acked : State → Reply → AckAnswer → State
acked s q noted = s
acked s q (ack_refused r) = s
acked s q expand =
    set_offers s
    (s.offers
    ++ (record { node = q.node; key = q.key; peer = q.peer; epoch = q.epoch; what = grow; awaited = true } ∷ []))

-- 'Messages': a reply is an Ack, and is under way no more
unfoldable pub replies : State → (place : ℕ) → Option Reply → State
replies s i none = s
replies s i (some q) =
    let r = call_ack (s.nodes q.node) q.key q.epoch q.peer q.sent q.bytes in
    acked (set_replies (set_node s q.node r.after) (removed s.replies i)) q r.answer

-- 'Messages': a reply that arrives is an Ack for the step it answers
unfoldable pub on_reply : State → (place : ℕ) → State
on_reply s i = replies s i (nth s.replies i)

-- 'Messages': loss is allowed
unfoldable pub on_reply_lost : State → (place : ℕ) → State
on_reply_lost s i = set_replies s (removed s.replies i)

-- ---- proposals and outcomes

-- 'Commands': the command of a proposal
abbrev pub command_of : Offer → Proposal → Command
command_of o shrink = shrink_in_sync o.key o.peer o.epoch
command_of o grow = expand_in_sync o.key o.peer o.epoch

-- 'Commands': a proposal's bytes, under its node's one client number
unfoldable pub offer_bytes : State → Offer → (index seq : ℕ) → List ℕ
offer_bytes s o index seq =
    encode_request (record { index = index; client = s.clients o.node; seq = seq; command = command_of o o.what })

-- 'Outcome of a proposal': a rejection or a refusal counts as not applied
abbrev pub is_applied : Answer → Bool
is_applied (tables.outcome tables.applied) = true
is_applied (tables.outcome (tables.rejected r)) = false
is_applied (tables.refused r) = false

-- 'Commands': the outcome of a proposal
abbrev pub outcome_of : Offer → Bool → Outcome
outcome_of o applied = record {
  node = o.node;
  key = o.key;
  peer = o.peer;
  epoch = o.epoch;
  what = o.what;
  applied = applied;
}

-- 'Commands': no outcome follows a timeout
unfoldable pub told : State → Offer → Bool → State
told s o applied = cond o.awaited (set_outcomes s (s.outcomes ++ (outcome_of o applied ∷ []))) s

-- 'Commands': what reaches the map is applied, and its outcome goes under way
unfoldable pub offered : State → (place index seq : ℕ) → Option Offer → State
offered s i index seq none = s
offered s i index seq (some o) =
    let r = apply_bytes s.map (offer_bytes s o index seq) in
    told (set_offers (set_map s r.map) (removed s.offers i)) o (is_applied r.answer)

-- 'Commands': a proposal reaches the map
unfoldable pub on_offer : State → (place index seq : ℕ) → State
on_offer s i index seq = offered s i index seq (nth s.offers i)

-- 'Commands': a proposal that never arrives
unfoldable pub on_offer_lost : State → (place : ℕ) → State
on_offer_lost s i = set_offers s (removed s.offers i)

-- 'Commands': a proposal whose outcome is no longer awaited
abbrev pub unawaited : Offer → Offer
unawaited o = record {
  node = o.node;
  key = o.key;
  peer = o.peer;
  epoch = o.epoch;
  what = o.what;
  awaited = false;
}

-- 'Commands': a timeout of the proposal at a place
unfoldable pub given_up : State → (place : ℕ) → Option Offer → State
given_up s i none = s
given_up s i (some o) = set_offers (told s o false) (replaced s.offers i (unawaited o))

-- 'Commands': a timeout is the outcome; the proposal may still arrive
unfoldable pub on_offer_timeout : State → (place : ℕ) → State
on_offer_timeout s i = given_up s i (nth s.offers i)

-- 'Commands': an outcome is told, and is under way no more
unfoldable pub learnt : State → (place : ℕ) → Option Outcome → State
learnt s i none = s
learnt s i (some o) =
    set_outcomes
    (set_node s o.node
    (call_outcome (s.nodes o.node) o.key o.epoch o.peer o.what o.applied).after)
    (removed s.outcomes i)

-- 'Commands': an outcome reaches its node
unfoldable pub on_outcome : State → (place : ℕ) → State
on_outcome s i = learnt s i (nth s.outcomes i)

-- 'Commands': an outcome that never arrives
unfoldable pub on_outcome_lost : State → (place : ℕ) → State
on_outcome_lost s i = set_outcomes s (removed s.outcomes i)

-- 'Outcome of a proposal': a timeout counts as not applied
abbrev pub not_applied : Outcome → Outcome
not_applied o = record {
  node = o.node;
  key = o.key;
  peer = o.peer;
  epoch = o.epoch;
  what = o.what;
  applied = false;
}

-- 'Commands': a timeout of the outcome at a place
unfoldable pub late : State → (place : ℕ) → Option Outcome → State
late s i none = s
late s i (some o) = set_outcomes s (replaced s.outcomes i (not_applied o))

-- 'Commands': a timeout in the place of an outcome that is on its way
unfoldable pub on_outcome_timeout : State → (place : ℕ) → State
on_outcome_timeout s i = late s i (nth s.outcomes i)

-- ---- the run

-- 'Rules of a run': what an event makes of the state
unfoldable pub step : State → Event → State
step s (command bytes) = on_command s bytes
step s (map_shown n fresh) = on_shown s n fresh
step s (lease_granted n i sent lease) = on_grant s n i sent lease
step s (client_writes n now least bytes) = on_write s n now least bytes
step s (client_searches n now room bytes) = on_search s n now room bytes
step s (node_waits i now timeout) = on_wait s i now timeout
step s (worker_steps n k epoch peer metric room) = on_work s n k epoch peer metric room
step s (request_arrives from to i) = on_arrival s from to i
step s (request_lost from to i) = on_request_lost s from to i
step s (request_repeats from to i) = on_request_repeats s from to i
step s (reply_arrives i) = on_reply s i
step s (reply_repeats i) = on_reply_repeats s i
step s (reply_lost i) = on_reply_lost s i
step s (offer_arrives i index seq) = on_offer s i index seq
step s (offer_lost i) = on_offer_lost s i
step s (offer_times_out i) = on_offer_timeout s i
step s (outcome_arrives i) = on_outcome s i
step s (outcome_lost i) = on_outcome_lost s i
step s (outcome_times_out i) = on_outcome_timeout s i

-- 'Rules of a run': a list of events
unfoldable pub run : State → List Event → State
run s [] = s
run s (e ∷ es) = run (step s e) es
