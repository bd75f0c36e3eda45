-- Paper 01, 'Who is turned down': a call whose lent state passes the test does not answer 24. Assumes nothing.
use Prim.Native.Nat.{ℕ}
use mathlib.Core.Path.{◌≡◌, refl}
use mathlib.Core.Bool.{Bool, true, false, cond, not}
use mathlib.Core.List.{List, map}
use mathlib.Core.Option.{Option, none, some}
use lib.Dec.{eqb, leb, ltb}
use lib.Ieee.{Float}
use lib.ListN.{length}
use Rattle.spec.specs.Lists.{◌or◌, any, every, find}
use Rattle.spec.specs.Limits.{max_held}
use Rattle.spec.specs.Keys.{Key}
use Rattle.spec.specs.Log.{Op, Entry, End, append, store, store_all, last_offset}
use Rattle.spec.specs.Layout.Message.{
  Write,
  decode_write,
  Query,
  decode_search,
  Replicated,
  decode_replicate,
  NewEpoch,
  decode_new_epoch,
  Copied,
  decode_copy_shard,
  Reply,
  reply_stored,
  reply_gap,
  reply_stale,
  reply_adopted,
  decode_reply,
}
use Rattle.spec.specs.Map.Tables.{Map}
use Rattle.spec.specs.Nearest.Search.{hits}
use Rattle.spec.specs.Node.Held.{Held, Node}
use Rattle.spec.specs.Node.Shards.{Result, leads_at, of_node, held_shard, begun}
use Rattle.spec.specs.Node.Wire.{op_in_domain, patterns_in_domain, entry_in_domain, stored_op, stored_entry, floats_of}
use Rattle.spec.specs.Node.Lease.{GrantAnswer}
use Rattle.spec.specs.Node.Client.{WriteAnswer, ack_count, overfull, write_held, on_write, SearchAnswer, search_held, on_search, WaitAnswer, has_acked, wait_held, on_wait}
use Rattle.spec.specs.Node.Backup.{BackupAnswer, replied, leads_from, is_empty, reply_of, replicate_held, on_replicate, new_epoch_held, new_epoch_at, on_new_epoch, copy_held, on_copy}
use Rattle.spec.specs.Node.Worker.{Message, message_bytes}
use Rattle.spec.specs.Node.Ack.{AckAnswer, Sent, bad_reply, Deed, nothing, step_down, unalign, record_ack, deed_of, joins, do_deed, deed_at, ack_held, on_ack, OutcomeAnswer, Proposal, on_outcome}
use Rattle.spec.specs.Node.Shown.{ShownAnswer, dead_as, too_many, showings, take_map, on_map}
use Rattle.spec.specs.Node.Calls.{
  late_time,
  write_of,
  write_with,
  search_of,
  search_with,
  replicate_of,
  replicate_with,
  new_epoch_of,
  new_epoch_with,
  copy_of,
  copy_with,
  grant_with,
  wait_with,
  ack_of,
  ack_with,
  outcome_with,
  shown_with,
  StepAnswer,
  step_with,
  RequestAnswer,
  written_in,
  request_of,
  request_with,
}
use Rattle.spec.specs.declared.Metric.{Metric}
use Rattle.spec.specs.declared.Peer.{Peer}
use Rattle.spec_laws.proofs.Lists.{by-test, not_both}
use Rattle.spec_laws.proofs.Node.Shards.{at_cases}
use Rattle.node_shard.specs.declared.WaitAnswer as N
use Rattle.node_shard.specs.declared.WaitAnswer.TheVariants as W
use Rattle.node_shard.specs.Answers.{wait_word, outcome_word}
use Rattle.node_shard.specs.Acks.{ack_word}
use Rattle.node_header.specs.declared.StepAnswer as H
use Rattle.node_header.specs.declared.StepAnswer.TheVariants as T
use Rattle.node_header.specs.Answers.{grant_word, step_answered}
use Rattle.node_show.specs.declared.ShownAnswer as M
use Rattle.node_show.specs.declared.ShownAnswer.TheVariants as S
use Rattle.node_show.specs.Shows.{shown_word}
use Rattle.node_send.specs.declared.Request as O
use Rattle.node_send.specs.declared.Request.TheVariants as R
use Rattle.node_send.specs.Requested.{answer_of}
use Rattle.node_replicate.specs.declared.PeerReply.{PeerReply}
use Rattle.node_replicate.specs.declared.PeerReply.TheVariants as P
use Rattle.node_replicate.specs.Peers.{word}
use Rattle.node_write.specs.ClientWrites.{number_in, write_word}
use Rattle.node_search.specs.declared.SearchAnswer as C
use Rattle.node_search.specs.declared.SearchAnswer.TheVariants as F
use Rattle.node_search.specs.Searches as searches
use Rattle.calls_header.specs.Grants.{grant_number}
use Rattle.calls_header.specs.Acks.{ack_number}
use Rattle.calls_header.specs.Outcomes.{outcome_number}

-- a number other than 24
abbrev pub Fine : ℕ → Type 0
Fine x = eqb x 24 ≡ false

-- ---- the numbers of the answers that a reply or rows stand for; 0 of those that are no refusal

abbrev pub wait_number : N.WaitAnswer → ℕ
wait_number W.Done = 0
wait_number W.Waiting = 0
wait_number (W.NotPrimary own) = 18
wait_number (W.Refused k) = k

abbrev pub shown_number : M.ShownAnswer → ℕ
shown_number S.Shown = 0
shown_number (S.Refused k) = k

abbrev pub peer_number : PeerReply → ℕ
peer_number (P.Stored o) = 0
peer_number (P.Gap o) = 0
peer_number (P.StaleEpoch e) = 0
peer_number (P.Adopted o) = 0
peer_number (P.Refused k) = k

abbrev pub search_number : C.SearchAnswer → ℕ
search_number (F.Found n) = 0
search_number (F.NotPrimary e) = 18
search_number (F.Refused k) = k

abbrev pub step_number : H.StepAnswer → ℕ
step_number (T.Stepped x) = 0
step_number (T.Refused k) = k

abbrev pub request_number : O.Request → ℕ
request_number R.Unsent = 0
request_number (R.Written n) = 0
request_number (R.Refused k) = k

-- ---- the test of the lent state, which passed

tested : {A : Type 0} (number : A → ℕ) (lent : Bool) → lent ≡ true → (x y : A) → Fine (number y) → Fine (number (cond (not lent) x y))
tested number true e x y f = f
tested number false e x y f = not_both false e refl

tested-call : {A : Type 0} (number : A → ℕ) (lent : Bool) → lent ≡ true → (x y : Result A Node) → Fine (number y.answer)
    → Fine (number (cond (not lent) x y).answer)
tested-call number true e x y f = f
tested-call number false e x y f = not_both false e refl

-- ---- the calls that are lent the header alone

module _ (v : Node) (lent : Bool) (e : lent ≡ true) where
  pub grant-fine : (i sent lease : ℕ) → Fine (grant_number (grant_word (grant_with lent v i sent lease).answer))
  unfolding grant_with
  grant-fine i sent lease =
      by-test (λ (r : Result GrantAnswer Node). Fine (grant_number (grant_word r.answer))) (late_time sent or late_time lease) (λ p. refl)
      (λ p. tested-call (λ a. grant_number (grant_word a)) lent e _ _ refl)

  wait_held_lem : (now timeout epoch offset : ℕ) (h : Held) → Fine (wait_number (wait_word (wait_held now timeout epoch offset h).answer))
  unfolding wait_held
  wait_held_lem now timeout epoch offset h =
      by-test (λ (r : Result WaitAnswer Held). Fine (wait_number (wait_word r.answer))) (not (leads_at h.role epoch)) (λ p. refl)
      (λ p. by-test (λ (a : WaitAnswer). Fine (wait_number (wait_word a))) (every (has_acked offset) h.peers) (λ q. refl) (λ q. refl))

  pub wait_fine : (now timeout : ℕ) (k : Key) (epoch offset : ℕ) → Fine (wait_number (wait_word (wait_with lent v now timeout k epoch offset).answer))
  unfolding wait_with on_wait
  wait_fine now timeout k epoch offset =
      let Q : Result WaitAnswer Node → Type 0 = λ r. Fine (wait_number (wait_word r.answer)) in
      by-test Q (late_time now or late_time timeout) (λ p. refl)
      (λ p. tested-call (λ a. wait_number (wait_word a)) lent e _ _
      (at_cases v k _ _ Q (λ q. refl) (λ h q. wait_held_lem now timeout epoch offset h)))

  deed_fine : (h : Held) (k : ℕ) (p : Peer) (d : Deed) → Fine (ack_number (ack_word (do_deed h k p d).answer))
  unfolding do_deed
  deed_fine h k p nothing = refl
  deed_fine h k p step_down = refl
  deed_fine h k p unalign = refl
  deed_fine h k p (record_ack t a) =
      by-test (λ (x : AckAnswer). Fine (ack_number (ack_word x))) (joins (last_offset h.replica) t a p) (λ q. refl) (λ q. refl)

  deed_at_lem : (h : Held) (k : ℕ) (d : Deed) (o : Option Peer) → Fine (ack_number (ack_word (deed_at h k d o).answer))
  deed_at_lem h k d none = refl
  deed_at_lem h k d (some p) = deed_fine h k p d

  ack_held_lem : (epoch peer : ℕ) (s : Sent) (r : Reply) (h : Held) → Fine (ack_number (ack_word (ack_held epoch peer s r h).answer))
  unfolding ack_held
  ack_held_lem epoch peer s r h =
      by-test (λ (x : Result AckAnswer Held). Fine (ack_number (ack_word x.answer))) (leads_at h.role epoch)
      (λ p. deed_at_lem h peer (deed_of s r epoch) (find (of_node peer) h.peers)) (λ p. refl)

  ack_of_lem : (k : Key) (epoch peer : ℕ) (s : Sent) (o : Option Reply) → Fine (ack_number (ack_word (ack_of lent v k epoch peer s o).answer))
  unfolding on_ack
  ack_of_lem k epoch peer s none = refl
  ack_of_lem k epoch peer s (some r) =
      let Q : Result AckAnswer Node → Type 0 = λ x. Fine (ack_number (ack_word x.answer)) in
      by-test Q (bad_reply r) (λ p. refl)
      (λ p. tested-call (λ a. ack_number (ack_word a)) lent e _ _
      (by-test Q (bad_reply r) (λ q. refl) (λ q. at_cases v k _ _ Q (λ d. refl) (λ h d. ack_held_lem epoch peer s r h))))

  pub ack_fine : (k : Key) (epoch peer : ℕ) (s : Sent) (m : List ℕ) → Fine (ack_number (ack_word (ack_with lent v k epoch peer s m).answer))
  unfolding ack_with
  ack_fine k epoch peer s m = ack_of_lem k epoch peer s (decode_reply m)

  pub outcome-fine : (k : Key) (epoch peer : ℕ) (what : Proposal) (applied : Bool)
      → Fine (outcome_number (outcome_word (outcome_with lent v k epoch peer what applied).answer))
  unfolding outcome_with on_outcome
  outcome-fine k epoch peer what applied =
      tested-call (λ a. outcome_number (outcome_word a)) lent e _ _
      (at_cases v k _ _ (λ (x : Result OutcomeAnswer Node). Fine (outcome_number (outcome_word x.answer))) (λ q. refl) (λ h q. refl))

  pub shown-fine : (fresh : ℕ) (m : Map) → Fine (shown_number (shown_word (shown_with lent v fresh m).answer))
  unfolding shown_with on_map take_map
  shown-fine fresh m =
      let Q : Result ShownAnswer Node → Type 0 = λ r. Fine (shown_number (shown_word r.answer)) in
      tested-call (λ a. shown_number (shown_word a)) lent e _ _
      (by-test Q (ltb m.version v.version) (λ p. refl)
      (λ p. by-test Q (any (dead_as v) m.nodes) (λ q. refl)
      (λ q. by-test Q (too_many (showings v m m.shards)) (λ d. refl) (λ d. refl))))

-- ---- the calls that are lent a store too: the test passes for the shard that the message names

replied-fine : (x : Reply) → Fine (peer_number (word (replied x)))
replied-fine (reply_stored o) = refl
replied-fine (reply_gap o) = refl
replied-fine (reply_stale o) = refl
replied-fine (reply_adopted o) = refl

replicate_held_lem : (epoch offset : ℕ) (op : Op) (h : Held) → Fine (peer_number (word (replicate_held epoch offset op h).answer))
unfolding replicate_held
replicate_held_lem epoch offset op h =
    let s = store h.replica epoch (record { epoch = epoch; offset = offset; op = op }) in
    by-test (λ (r : Result BackupAnswer Held). Fine (peer_number (word r.answer))) (overfull s.replica) (λ p. refl) (λ p. replied-fine (reply_of s.answer))

new_epoch_held_lem : (epoch end : ℕ) (t : List End) (h : Held) → Fine (peer_number (word (new_epoch_held epoch end t h).answer))
unfolding new_epoch_held
new_epoch_held_lem epoch end t h =
    let Q : Result BackupAnswer Held → Type 0 = λ r. Fine (peer_number (word r.answer)) in
    by-test Q (leads_from h.role epoch) (λ p. refl) (λ p. by-test Q (ltb epoch h.replica.epoch) (λ q. refl) (λ q. refl))

copy_held_lem : (epoch : ℕ) (es : List Entry) (h : Held) → Fine (peer_number (word (copy_held epoch es h).answer))
unfolding copy_held
copy_held_lem epoch es h =
    let Q : Result BackupAnswer Held → Type 0 = λ r. Fine (peer_number (word r.answer)) in
    by-test Q (is_empty es) (λ p. refl)
    (λ p. by-test Q (eqb epoch h.replica.epoch) (λ q. by-test Q (overfull (store_all h.replica epoch es)) (λ d. refl) (λ d. refl)) (λ q. refl))

write-held : (lease : Bool) (least epoch : ℕ) (op : Op) (h : Held) → Fine (number_in (write_word (write_held lease least epoch op h).answer))
unfolding write_held
write-held lease least epoch op h =
    let Q : Result WriteAnswer Held → Type 0 = λ r. Fine (number_in (write_word r.answer)) in
    by-test Q (not (leads_at h.role epoch)) (λ p. refl)
    (λ p. by-test Q (not lease) (λ q. refl)
    (λ q. by-test Q (ltb (ack_count h) least) (λ d. refl)
    (λ d. by-test Q (overfull (append h.replica op)) (λ z. refl) (λ z. refl))))

search_held_lem : (lease : Bool) (room epoch k : ℕ) (query : List Float) (h : Held)
    → Fine (search_number (searches.word (search_held lease room epoch k query h).answer))
unfolding search_held
search_held_lem lease room epoch k query h =
    let Q : Result SearchAnswer Held → Type 0 = λ r. Fine (search_number (searches.word r.answer)) in
    by-test Q (not (leads_at h.role epoch)) (λ p. refl)
    (λ p. by-test Q (not lease) (λ q. refl)
    (λ q. by-test Q (ltb room (length (hits h.replica.metric query h.replica.vectors k))) (λ d. refl) (λ d. refl)))

module _ (v : Node) (lent : Key → Bool) where
  abbrev PeerFine : Result BackupAnswer Node → Type 0
  PeerFine r = Fine (peer_number (word r.answer))

  replicate_of_lem : (o : Option Replicated) → ((w : Replicated) → o ≡ some w → lent w.key ≡ true) → PeerFine (replicate_of lent v o)
  unfolding on_replicate
  replicate_of_lem none e = refl
  replicate_of_lem (some w) e =
      by-test PeerFine (not (op_in_domain w.op)) (λ p. refl)
      (λ p. tested-call (λ a. peer_number (word a)) (lent w.key) (e w refl) _ _
      (at_cases v w.key _ _ PeerFine (λ q. refl) (λ h q. replicate_held_lem w.epoch w.offset (stored_op w.op) h)))

  pub replicate_fine : (m : List ℕ) → ((w : Replicated) → decode_replicate m ≡ some w → lent w.key ≡ true) → PeerFine (replicate_with lent v m)
  unfolding replicate_with
  replicate_fine m e = replicate_of_lem (decode_replicate m) e

  new_epoch_at_lem : (w : NewEpoch) (o : Option Held) → PeerFine (new_epoch_at v w.key w.epoch w.end w.table w.metric o)
  new_epoch_at_lem w none =
      by-test PeerFine (leb max_held (length v.held)) (λ p. refl)
      (λ p. new_epoch_held_lem w.epoch w.end w.table (begun w.key w.metric))
  new_epoch_at_lem w (some x) =
      at_cases v w.key _ _ PeerFine (λ q. refl) (λ h q. new_epoch_held_lem w.epoch w.end w.table h)

  new_epoch_of_lem : (o : Option NewEpoch) → ((w : NewEpoch) → o ≡ some w → lent w.key ≡ true) → PeerFine (new_epoch_of lent v o)
  unfolding on_new_epoch
  new_epoch_of_lem none e = refl
  new_epoch_of_lem (some w) e =
      tested-call (λ a. peer_number (word a)) (lent w.key) (e w refl) _ _ (new_epoch_at_lem w (held_shard v w.key))

  pub new_epoch_fine : (m : List ℕ) → ((w : NewEpoch) → decode_new_epoch m ≡ some w → lent w.key ≡ true) → PeerFine (new_epoch_with lent v m)
  unfolding new_epoch_with
  new_epoch_fine m e = new_epoch_of_lem (decode_new_epoch m) e

  copy_of_lem : (o : Option Copied) → ((w : Copied) → o ≡ some w → lent w.key ≡ true) → PeerFine (copy_of lent v o)
  unfolding on_copy
  copy_of_lem none e = refl
  copy_of_lem (some w) e =
      by-test PeerFine (not (every entry_in_domain w.entries)) (λ p. refl)
      (λ p. tested-call (λ a. peer_number (word a)) (lent w.key) (e w refl) _ _
      (at_cases v w.key _ _ PeerFine (λ q. refl) (λ h q. copy_held_lem w.epoch (map stored_entry w.entries) h)))

  pub copy_fine : (m : List ℕ) → ((w : Copied) → decode_copy_shard m ≡ some w → lent w.key ≡ true) → PeerFine (copy_with lent v m)
  unfolding copy_with
  copy_fine m e = copy_of_lem (decode_copy_shard m) e

  write_of_lem : (now least : ℕ) (o : Option Write) → ((w : Write) → o ≡ some w → lent w.key ≡ true)
      → Fine (number_in (write_word (write_of lent v now least o).answer))
  unfolding on_write
  write_of_lem now least none e = refl
  write_of_lem now least (some w) e =
      let Q : Result WriteAnswer Node → Type 0 = λ r. Fine (number_in (write_word r.answer)) in
      by-test Q (not (op_in_domain w.op)) (λ p. refl)
      (λ p. tested-call (λ a. number_in (write_word a)) (lent w.key) (e w refl) _ _
      (at_cases v w.key _ _ Q (λ q. refl) (λ h q. write-held _ least w.epoch (stored_op w.op) h)))

  pub write-fine : (now least : ℕ) (m : List ℕ) → ((w : Write) → decode_write m ≡ some w → lent w.key ≡ true)
      → Fine (number_in (write_word (write_with lent v now least m).answer))
  unfolding write_with
  write-fine now least m e =
      by-test (λ (r : Result WriteAnswer Node). Fine (number_in (write_word r.answer))) (late_time now) (λ p. refl) (λ p. write_of_lem now least (decode_write m) e)

  search_of_lem : (now room : ℕ) (o : Option Query) → ((w : Query) → o ≡ some w → lent w.key ≡ true)
      → Fine (search_number (searches.word (search_of lent v now room o).answer))
  unfolding on_search
  search_of_lem now room none e = refl
  search_of_lem now room (some w) e =
      let Q : Result SearchAnswer Node → Type 0 = λ r. Fine (search_number (searches.word r.answer)) in
      by-test Q (not (patterns_in_domain w.bits)) (λ p. refl)
      (λ p. tested-call (λ a. search_number (searches.word a)) (lent w.key) (e w refl) _ _
      (at_cases v w.key _ _ Q (λ q. refl) (λ h q. search_held_lem _ room w.epoch w.k (floats_of w.bits) h)))

  pub search_fine : (now room : ℕ) (m : List ℕ) → ((w : Query) → decode_search m ≡ some w → lent w.key ≡ true)
      → Fine (search_number (searches.word (search_with lent v now room m).answer))
  unfolding search_with
  search_fine now room m e =
      by-test (λ (r : Result SearchAnswer Node). Fine (search_number (searches.word r.answer))) (late_time now) (λ p. refl) (λ p. search_of_lem now room (decode_search m) e)

  -- ---- the worker's step, and its request

  module _ (k : Key) (e : lent k ≡ true) (epoch peer : ℕ) where
    pub step-fine : Fine (step_number (step_answered (step_with lent v k epoch peer)))
    unfolding step_with
    step-fine = tested (λ a. step_number (step_answered a)) (lent k) e _ _ refl

    written-fine : (room : ℕ) (o : Option Message) → Fine (request_number (answer_of (written_in room o)))
    written-fine room none = refl
    written-fine room (some m) =
        by-test (λ (a : RequestAnswer). Fine (request_number (answer_of a))) (ltb room (length (message_bytes m))) (λ q. refl) (λ q. refl)

    pub request-fine : (room : ℕ) (metric : Metric) → Fine (request_number (answer_of (request_with lent v room k epoch peer metric)))
    unfolding request_with
    request-fine room metric =
        tested (λ a. request_number (answer_of a)) (lent k) e _ _ (written-fine room (request_of v k epoch peer metric))
