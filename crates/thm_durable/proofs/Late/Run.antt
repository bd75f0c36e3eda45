-- A run of the calls with a late and repeated alignment, that the checker follows. Node 1 takes a Write and aligns node 2; that request comes
-- twice, the second time when node 2 has stored the entry, and cuts nothing. Node 1 counts the reply and acknowledges. Demand 3 is put to it:
-- node 2, in sync, has the write. Assumes nothing.
use Prim.Native.Nat.{ℕ, zero, suc, ◌<◌}
use native.Mathlib.Omega.{arith}
use mathlib.Core.Path.{◌≡◌, refl, sym, ap, subst, ◌∙◌}
use mathlib.Core.Bool.{true, false}
use mathlib.Core.List.{List, [], ◌∷◌}
use mathlib.Core.Option.{Option, some}
use lib.ListN.{length}
use borrow.Author.Tests.{ne_eqb}
use Rattle.spec.specs.Keys.{Key}
use Rattle.spec.specs.Lists.{nth, any}
use Rattle.spec.specs.Log.{Entry, entry_at}
use Rattle.spec.specs.Map.Change.{holds}
use Rattle.spec.specs.Layout.Message as message
use Rattle.spec.specs.Node.Ack as ack
use Rattle.spec.specs.Node.Calls as calls
use Rattle.spec.specs.declared.Replica.{Replica}
use Rattle.spec.specs.declared.Metric.TheVariants.{Euclidean}
use Rattle.spec_laws.proofs.Lists.{none_some, some_same, not_both}
use Rattle.spec_run.specs.State.{State, Request, Reply, Write, set_requests, set_replies}
use Rattle.spec_run.specs.Event.{Event, lease_granted, client_writes, node_waits, worker_steps, request_arrives, request_repeats, reply_arrives}
use Rattle.spec_run.specs.Step as step
use Rattle.spec_run.specs.Step.{removed}
use Rattle.spec_run.specs.Fresh.{Fresh}
use Rattle.spec_run.specs.Claim.{in_sync_at, Stands, Origin}
use Rattle.spec_run.specs.Claim as claim
use Rattle.spec_run.proofs.Cases.Opened.{opened}
use Rattle.spec_run.proofs.Cases.Start as run
use Rattle.node_shard.specs.declared.AckAnswer.TheVariants as A
use Rattle.node_shard.specs.declared.WaitAnswer.TheVariants as W
use Rattle.std.specs.Prelude.{None, Some}
use Rattle.log_store.specs.View.{firsts, op_of, entry_of, log_of}
use Rattle.node_header.specs.declared.Node.{Node}
use Rattle.node_lent.specs.Lend.{slot_of}
use Rattle.node_send.specs.declared.Request.TheVariants as Q
use Rattle.node_send.specs.Requested.{left_of}
use Rattle.node_replicate.specs.declared.PeerReply.TheVariants as R
use Rattle.node_replicate.specs.Peers.{ReplicateSlot}
use Rattle.node_epoch.specs.NewEpochs.{NewEpochSlot}
use Rattle.node_write.specs.ClientWrites.{WriteSlot}
use Rattle.thm_durable.specs.Engine.{Engine, stores_of, seen, with_node, with_store, host}
use Rattle.thm_durable.specs.Calls.{write_said, wait_said, request_said, peer_said, ack_said, Waits, Arrives, Acks, Called, Calls}
use Rattle.thm_durable.specs.Start.{New, ShownFirst, Begun}
use Rattle.thm_durable.proofs.Start.{begun_fresh}
use Rattle.thm_durable.proofs.Durable as theorem
use Rattle.thm_durable.proofs.Instance.{fill, new, bytes, before, after, accepted, is-new}
use Rattle.thm_durable.proofs.Late.Calls.{map, copies, first, second, tested, is-created, shown-first, shown-second, shows_first, shows_second, granted, grants, wrote, writes, output, align_bytes, entry_bytes, align_asked, entry-asked, requests, align_decoded, entry_decoded, second-slot, adopted, announces-first, aligned, aligns, stored, replicates, kept, announces-late, acked, acks, waited, waits}

-- ---- the first engine

nodes : ℕ → Node
nodes zero = new 0
nodes (suc zero) = first None 0 0 false
nodes (suc (suc zero)) = second 0 0
nodes (suc (suc (suc n))) = new 0

pub begun : Engine
begun = record {
  map = map;
  nodes = nodes;
  lent_stores = λ n slot. before;
  clients = λ n. 100;
  requests = λ a b. [];
  replies = [];
  offers = [];
  outcomes = [];
  accepted = [];
  acknowledged = [];
}

far : (k : ℕ) → 2 < k → holds k copies ≡ false
unfolding holds any
far k h = rw (ne_eqb 1 k (λ q. absurd (omega arith)), ne_eqb 2 k (λ q. absurd (omega arith)))

holders : (n : ℕ) → holds n copies ≡ true → ShownFirst begun n 4
unfolding begun nodes holds any
holders zero h = not_both false h refl
holders (suc zero) h = record { new = new 1; made = is-new 1; fresh = 0; answer = shown-first; promised = shows_first; node = refl }
holders (suc (suc zero)) h = record { new = new 2; made = is-new 2; fresh = 0; answer = shown-second; promised = shows_second; node = refl }
holders (suc (suc (suc n))) h = let k = suc (suc (suc n)) in not_both (holds k copies) h (far k (omega arith))

none_zero : holds 0 copies ≡ false
unfolding holds any
none_zero = refl

others : (n : ℕ) → holds n copies ≡ false → New (begun.nodes n) 0 4
unfolding begun nodes holds any
others zero h = is-new 0
others (suc zero) h = not_both true refl h
others (suc (suc zero)) h = not_both true refl h
others (suc (suc (suc n))) h = is-new 0

listed : (r : Replica) (place : ℕ) → nth copies place ≡ some r → 4 ≡ r.incarnation
unfolding nth
listed r zero e = cc
listed r (suc zero) e = cc
listed r (suc (suc place)) e = none_some e

is-begun : Begun begun
unfolding begun
is-begun = record {
  shard = run.info;
  tested = tested;
  created = is-created;
  incarnation = λ n. 4;
  listed = listed;
  holders = holders;
  id = λ n. 0;
  apart = λ n h. none_zero;
  others = others;
  clients = λ n. omega arith;
  requests = λ a b. refl;
  replies = refl;
  offers = refl;
  outcomes = refl;
  accepted = refl;
  acknowledged = refl;
}

pub fresh : Fresh (seen begun)
fresh = begun_fresh begun is-begun

-- ---- what is under way

abbrev alignment : Request
alignment = record { sent = ack.sent_align; key = run.key; epoch = 1; bytes = align_bytes }

abbrev entry : Request
entry = record { sent = ack.sent_replicate; key = run.key; epoch = 1; bytes = entry_bytes }

abbrev reply : ack.Sent → message.Reply → Reply
reply s r = record { node = 1; peer = 2; sent = s; key = run.key; epoch = 1; bytes = message.encode_reply r }

-- ---- the engines after each call

leased : Engine
leased = with_node begun 1 (first (Some 100) 0 0 false)

written : Engine
written = host (with_store leased 1 (first (Some 100) 1 0 false) 0 after) (λ s. write_said s 1 (message.decode_write bytes) accepted)

asked : Engine
asked = host written (λ s. request_said s 1 run.key 1 2 (Q.Written (length align_bytes)) (left_of (calls.written align_bytes) output))

doubled : Engine
doubled = host asked (λ s. step.on_request_repeats s 1 2 0)

abbrev taken : (place : ℕ) → State → State
taken i s = set_requests s 1 2 (removed (s.requests 1 2) i)

met : Engine
met = host (with_store doubled 2 (second 1 0) 0 before) (λ s. peer_said (taken 0 s) 1 2 alignment (R.Adopted (record { 0 = 0 })))

counted : Engine
counted =
    host (with_node met 1 (first (Some 100) 1 0 true))
    (λ s. ack_said (set_replies s (removed s.replies 0)) (reply ack.sent_align (message.reply_adopted 0)) A.Noted)

sent : Engine
sent = host counted (λ s. request_said s 1 run.key 1 2 (Q.Written (length entry_bytes)) (left_of (calls.written entry_bytes) output))

held : Engine
held = host (with_store sent 2 (second 1 1) 0 after) (λ s. peer_said (taken 1 s) 1 2 entry (R.Stored (record { 0 = 1 })))

-- the alignment's second copy
late : Engine
late = host (with_store held 2 (second 1 1) 0 after) (λ s. peer_said (taken 0 s) 1 2 alignment (R.Adopted (record { 0 = 1 })))

known : Engine
known =
    host (with_node late 1 (first (Some 100) 1 1 true))
    (λ s. ack_said (set_replies s (removed s.replies 0)) (reply ack.sent_replicate (message.reply_stored 1)) A.Noted)

pub last : Engine
last = host (with_node known 1 (first (Some 100) 1 1 true)) (λ s. wait_said s (run.wrote 1 1 1 41) W.Done [])

-- ---- each is what its call leaves

on-grant : Called begun (lease_granted 1 4 0 100) leased
unfolding Called begun nodes leased
on-grant = (granted, grants, refl)

write-slot : WriteSlot (first (Some 100) 0 0 false) bytes 0
unfolding opened fill slot_of
write-slot v e = ap (λ (k : Key). slot_of (first (Some 100) 0 0 false) k) (ap (λ (m : message.Write). m.key) (some_same e))

on-write : Called leased (client_writes 1 5 1 bytes) written
unfolding Called opened with_node begun leased written
on-write = (0, after, 0, wrote, write-slot, writes, refl)

on_align_lem : Called written (worker_steps 1 run.key 1 2 Euclidean 100) asked
unfolding Called opened fill slot_of with_node with_store host begun nodes leased written asked
on_align_lem = (output, left_of (calls.written align_bytes) output, Q.Written (length align_bytes), refl, requests false align_bytes align_asked, refl)

on-repeat : Called asked (request_repeats 1 2 0) doubled
unfolding Called doubled
on-repeat = refl

under_way : nth (doubled.requests 1 2) 0 ≡ some alignment
unfolding opened fill with_node with_store host seen begun leased written asked doubled
under_way = refl

align_slot : (epoch last : ℕ) → NewEpochSlot (second epoch last) align_bytes 0
align_slot epoch last v e =
    sym (second-slot epoch last) ∙ ap (λ (m : message.NewEpoch). slot_of (second epoch last) m.key) (some_same (sym align_decoded ∙ e))

on_meet : Called doubled (request_arrives 1 2 0) met
unfolding Called opened with_node with_store host begun nodes leased written asked doubled met
on_meet = subst (λ (o : Option Request). Arrives doubled 1 2 0 o met) (sym under_way) (0, before, adopted, (align_slot 0 0, announces-first), refl)

replied-first : nth met.replies 0 ≡ some (reply ack.sent_align (message.reply_adopted 0))
unfolding opened fill with_node with_store host seen begun leased written asked doubled met
replied-first = refl

on-count : Called met (reply_arrives 0) counted
unfolding Called opened with_node with_store host begun nodes leased written asked doubled met counted
on-count = subst (λ (o : Option Reply). Acks met 0 o counted) (sym replied-first) (aligned, aligns, refl)

on_send_lem : Called counted (worker_steps 1 run.key 1 2 Euclidean 100) sent
unfolding Called opened fill slot_of with_node with_store host begun nodes leased written asked doubled met counted sent
on_send_lem = (output, left_of (calls.written entry_bytes) output, Q.Written (length entry_bytes), refl, requests true entry_bytes entry-asked, refl)

entry_under_way : nth (sent.requests 1 2) 1 ≡ some entry
unfolding opened fill with_node with_store host seen begun leased written asked doubled met counted sent
entry_under_way = refl

entry-slot : ReplicateSlot (second 1 0) entry_bytes 0
entry-slot v e =
    sym (second-slot 1 0) ∙ ap (λ (m : message.Replicated). slot_of (second 1 0) m.key) (some_same (sym entry_decoded ∙ e))

on_store : Called sent (request_arrives 1 2 1) held
unfolding Called opened with_node with_store host begun nodes leased written asked doubled met counted sent held
on_store = subst (λ (o : Option Request). Arrives sent 1 2 1 o held) (sym entry_under_way) (0, after, stored, (entry-slot, replicates), refl)

still_under_way : nth (held.requests 1 2) 0 ≡ some alignment
unfolding opened fill with_node with_store host seen begun leased written asked doubled met counted sent held
still_under_way = refl

on-late : Called held (request_arrives 1 2 0) late
unfolding Called opened with_node with_store host begun nodes leased written asked doubled met counted sent held late
on-late = subst (λ (o : Option Request). Arrives held 1 2 0 o late) (sym still_under_way) (0, after, kept, (align_slot 1 1, announces-late), refl)

replied-entry : nth late.replies 0 ≡ some (reply ack.sent_replicate (message.reply_stored 1))
unfolding opened fill with_node with_store host seen begun leased written asked doubled met counted sent held late
replied-entry = refl

on-known : Called late (reply_arrives 0) known
unfolding Called opened with_node with_store host begun nodes leased written asked doubled met counted sent held late known
on-known = subst (λ (o : Option Reply). Acks late 0 o known) (sym replied-entry) (acked, acks, refl)

remembered : nth known.accepted 0 ≡ some (run.wrote 1 1 1 41)
unfolding opened fill with_node with_store host seen begun leased written asked doubled met counted sent held late known
remembered = refl

on_wait_lem : Called known (node_waits 0 6 10) last
unfolding Called opened with_node with_store host begun nodes leased written asked doubled met counted sent held late known last
on_wait_lem = subst (λ (o : Option Write). Waits known 6 10 o last) (sym remembered) (waited, waits, refl)

-- ---- the run

abbrev events : List Event
events =
    lease_granted 1 4 0 100
    ∷ client_writes 1 5 1 bytes
    ∷ worker_steps 1 run.key 1 2 Euclidean 100
    ∷ request_repeats 1 2 0
    ∷ request_arrives 1 2 0
    ∷ reply_arrives 0
    ∷ worker_steps 1 run.key 1 2 Euclidean 100
    ∷ request_arrives 1 2 1
    ∷ request_arrives 1 2 0
    ∷ reply_arrives 0
    ∷ node_waits 0 6 10
    ∷ []

calls-made : Calls begun events last
unfolding Calls opened fill
calls-made = (
  leased,
  refl,
  on-grant,
  (
    written,
    refl,
    on-write,
    (
      asked,
      refl,
      on_align_lem,
      (
        doubled,
        refl,
        on-repeat,
        (
          met,
          refl,
          on_meet,
          (
            counted,
            refl,
            on-count,
            (
              sent,
              refl,
              on_send_lem,
              (held, refl, on_store, (late, refl, on-late, (known, refl, on-known, (last, refl, on_wait_lem, refl)))),
            ),
          ),
        ),
      ),
    ),
  ),
)

-- ---- the theorems, put to it

acknowledged : (seen last).acknowledged ≡ run.wrote 1 1 1 41 ∷ []
unfolding opened fill with_node with_store host seen begun leased written asked doubled met counted sent held late known last
acknowledged = refl

in_sync_lem : in_sync_at (seen last).map run.key 2 ≡ true
unfolding opened fill with_node with_store host seen begun leased written asked doubled met counted sent held late known last
in_sync_lem = refl

-- demand 3: the acknowledged write stands at node 2
pub stands : Stands (run.wrote 1 1 1 41) (claim.log_of ((seen last).nodes 2) run.key)
stands =
    (theorem.durable begun last events fresh calls-made).stands (run.wrote 1 1 1 41) 0 (rw acknowledged (unfold nth in refl)) 2 in_sync_lem

-- request 2.5: the entries of the two nodes are one, and it is the Write that was accepted at epoch 1
at-node : entry_at (claim.log_of ((seen last).nodes 2) run.key) 1 ≡ some (run.entry 1 1 41)
unfolding opened fill with_node with_store host seen begun nodes leased written asked doubled met counted sent held late known last stores_of log_of firsts entry_of op_of
at-node = refl

pub origin : Origin (seen last) run.key 1 (run.entry 1 1 41)
origin = (theorem.written begun last events fresh calls-made).entries run.key 2 1 (run.entry 1 1 41) at-node

pub same-entry : (x : Entry) → entry_at (claim.log_of ((seen last).nodes 1) run.key) 1 ≡ some x → x.epoch ≡ 1 → x ≡ run.entry 1 1 41
same-entry x p e = (theorem.alike begun last events fresh calls-made).entries run.key 1 2 1 x (run.entry 1 1 41) p at-node e
