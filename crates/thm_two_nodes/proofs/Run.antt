-- A run of the entry points for C with a late and repeated alignment, that the checker follows: images of the code's own sizes, two nodes,
-- eleven events. Node 1 takes a Write of one Upsert and aligns node 2; that request comes twice, the second time when node 2 has stored the
-- entry, and cuts nothing. Node 1 counts the reply and acknowledges. Demand 3 is put to it: node 2, in sync, has the write. Assumes nothing.
use Prim.Native.Nat.{ℕ}
use native.Mathlib.Omega.{arith}
use mathlib.Core.Path.{◌≡◌, refl, sym, ap, subst, ◌∙◌}
use mathlib.Core.Bool.{true}
use mathlib.Core.List.{List, [], ◌∷◌}
use mathlib.Core.Option.{Option, some}
use Rattle.spec.specs.Lists.{nth}
use Rattle.spec.specs.Log.{Log, Entry, upsert, entry_at}
use Rattle.spec.specs.Map.Tables as tables
use Rattle.spec.specs.Layout.Format.{Bytes}
use Rattle.spec.specs.Layout.Message as message
use Rattle.spec.specs.Node.Held as node
use Rattle.spec.specs.Node.Ack as ack
use Rattle.spec.specs.declared.Metric.TheVariants.{Euclidean}
use Rattle.spec_run.specs.State.{State, Request, Reply, Write, at, set_requests, set_replies}
use Rattle.spec_run.specs.Event.{Event, lease_granted, client_writes, node_waits, worker_steps, request_arrives, request_repeats, reply_arrives}
use Rattle.spec_run.specs.Step as step
use Rattle.spec_run.specs.Step.{removed}
use Rattle.spec_run.specs.Rules.{allowed}
use Rattle.spec_run.specs.Claim.{in_sync_at, Durable, Stands, Origin}
use Rattle.spec_run.specs.Claim as claim
use Rattle.spec_run.proofs.Cases.Opened.{opened}
use Rattle.calls_parts.specs.Answer.{number_put}
use Rattle.thm_one_node.specs.Images.{stores, room, offset, count}
use Rattle.thm_one_node.proofs.Map.{key}
use Rattle.thm_one_node.proofs.Columns.{one, entry, stored, stores-bytes, stored_bytes}
use Rattle.thm_one_node.proofs.Write.{bytes, decoded, vectors}
use Rattle.thm_durable_bytes.specs.Cluster.{Cluster, seen, InMemory, with_header, with_node, host}
use Rattle.thm_durable_bytes.specs.Calls.{offset_in, write_said, wait_said, sent_by, posted, answered, ack_said, Waits, Arrives, Acks, Called, Calls}
use Rattle.thm_durable_bytes.proofs.Durable as theorem
use Rattle.thm_durable_bytes.proofs.Instance.Run.{at-bytes}
use Rattle.thm_two_nodes.specs.Images as images
use Rattle.thm_two_nodes.specs.Images.{space, reply}
use Rattle.thm_two_nodes.proofs.Map.{map, map_read}
use Rattle.thm_two_nodes.proofs.Headers.{bytes-leased, bytes-written, bytes-aligned, bytes-acked, bytes-adopted, bytes-holding}
use Rattle.thm_two_nodes.proofs.Nodes.{second}
use Rattle.thm_two_nodes.proofs.Header.{adopted_reply, stored_reply, grants, aligns, acks, waits}
use Rattle.thm_two_nodes.proofs.Write.{writes_images}
use Rattle.thm_two_nodes.proofs.Messages.{align_bytes, entry_bytes}
use Rattle.thm_two_nodes.proofs.Steps.{sent_align, sent_entry, align_length, entry_length, steps_align, steps-entry}
use Rattle.thm_two_nodes.proofs.Peers.{adopt_reply, store_reply, keep_reply, again, again-bytes, announces-first, replicates-entry, announces-late, state_late}
use Rattle.thm_two_nodes.proofs.Start.{headers, begun, begun_in_memory, fresh}

-- ---- what is under way, and what the host remembers of the Write

abbrev alignment : Request
alignment = record { sent = ack.sent_align; key = key; epoch = 1; bytes = align_bytes }

abbrev entry_request : Request
entry_request = record { sent = ack.sent_replicate; key = key; epoch = 1; bytes = entry_bytes }

abbrev reply_to : ack.Sent → List ℕ → Reply
reply_to s b = record { node = 1; peer = 2; sent = s; key = key; epoch = 1; bytes = b }

abbrev wrote : Write
wrote = record { node = 1; key = key; epoch = 1; offset = 1; op = upsert 41 (one ∷ []) }

abbrev taken : (place : ℕ) → State → State
taken i s = set_requests s 1 2 (removed (s.requests 1 2) i)

-- ---- the clusters after each call

leased : Cluster
leased = with_header begun 1 images.leased

written : Cluster
written = host (with_node leased 1 images.written stored) (λ s. write_said s 1 (message.decode_write bytes) (offset_in 0 offset))

asked : Cluster
asked = host written (λ s. posted s 1 key 1 2 (sent_by 2) sent_align align_length)

doubled : Cluster
doubled = host asked (λ s. step.on_request_repeats s 1 2 0)

met : Cluster
met = host (with_node doubled 2 images.adopted stores) (λ s. answered (taken 0 s) 1 2 alignment 0 adopt_reply)

counted : Cluster
counted =
    host (with_header met 1 images.aligned)
    (λ s. ack_said (set_replies s (removed s.replies 0)) (reply_to ack.sent_align adopted_reply) 0)

sent : Cluster
sent = host counted (λ s. posted s 1 key 1 2 (sent_by 3) sent_entry entry_length)

held : Cluster
held = host (with_node sent 2 images.holding stored) (λ s. answered (taken 1 s) 1 2 entry_request 0 store_reply)

-- the alignment's second copy
late : Cluster
late = host (with_node held 2 images.holding again) (λ s. answered (taken 0 s) 1 2 alignment 0 keep_reply)

known : Cluster
known =
    host (with_header late 1 images.acked)
    (λ s. ack_said (set_replies s (removed s.replies 0)) (reply_to ack.sent_replicate stored_reply) 0)

pub last : Cluster
last = host (with_header known 1 images.acked) (λ s. wait_said s wrote 0 [] room)

-- ---- each is in memory

module _ (d : Cluster) (m : InMemory d) (n : ℕ) (h : List ℕ) (b : Bytes h) where
  header_in_memory : InMemory (with_header d n h)
  unfolding with_header
  header_in_memory = record { headers = at-bytes d.headers n h m.headers b; stores = m.stores }

  node_in_memory : (s : List ℕ) → Bytes s → InMemory (with_node d n h s)
  unfolding with_node
  node_in_memory s c = record { headers = at-bytes d.headers n h m.headers b; stores = at-bytes d.stores n s m.stores c }

host_in_memory : (d : Cluster) (deed : State → State) → InMemory d → InMemory (host d deed)
unfolding host
host_in_memory d deed m = record { headers = m.headers; stores = m.stores }

leased_in_memory : InMemory leased
unfolding leased
leased_in_memory = header_in_memory begun begun_in_memory 1 images.leased bytes-leased

written_in_memory : InMemory written
unfolding written
written_in_memory = host_in_memory _ _ (node_in_memory leased leased_in_memory 1 images.written bytes-written stored stored_bytes)

asked_in_memory : InMemory asked
unfolding asked
asked_in_memory = host_in_memory _ _ written_in_memory

doubled_in_memory : InMemory doubled
unfolding doubled
doubled_in_memory = host_in_memory _ _ asked_in_memory

met_in_memory : InMemory met
unfolding met
met_in_memory = host_in_memory _ _ (node_in_memory doubled doubled_in_memory 2 images.adopted bytes-adopted stores stores-bytes)

counted_in_memory : InMemory counted
unfolding counted
counted_in_memory = host_in_memory _ _ (header_in_memory met met_in_memory 1 images.aligned bytes-aligned)

sent_in_memory : InMemory sent
unfolding sent
sent_in_memory = host_in_memory _ _ counted_in_memory

held_in_memory : InMemory held
unfolding held
held_in_memory = host_in_memory _ _ (node_in_memory sent sent_in_memory 2 images.holding bytes-holding stored stored_bytes)

late_in_memory : InMemory late
unfolding late
late_in_memory = host_in_memory _ _ (node_in_memory held held_in_memory 2 images.holding bytes-holding again again-bytes)

known_in_memory : InMemory known
unfolding known
known_in_memory = host_in_memory _ _ (header_in_memory late late_in_memory 1 images.acked bytes-acked)

-- ---- each is what its call leaves

on-grant : Called begun (lease_granted 1 4 0 100) leased
unfolding Called begun headers leased
on-grant = (images.leased, 0, grants, refl)

on-write : Called leased (client_writes 1 5 1 bytes) written
unfolding Called at with_header begun headers leased written
on-write = (images.written, stored, room, offset, count, count, 0, writes_images, refl)

on_align_lem : Called written (worker_steps 1 key 1 2 Euclidean 100) asked
unfolding Called at with_header with_node host begun headers leased written asked
on_align_lem = (space, sent_align, room, align_length, 2, refl, omega arith, steps_align, refl)

on-repeat : Called asked (request_repeats 1 2 0) doubled
unfolding Called doubled
on-repeat = refl

under_way : nth (doubled.requests 1 2) 0 ≡ some alignment
unfolding opened bytes number_put align_bytes sent_align align_length with_header with_node host seen begun leased written asked doubled
under_way = refl

on_meet : Called doubled (request_arrives 1 2 0) met
unfolding Called at with_header with_node host begun headers leased written asked doubled met
on_meet =
    subst (λ (o : Option Request). Arrives doubled 1 2 0 o met) (sym under_way) (images.adopted, stores, reply, adopt_reply, 0, announces-first, refl)

replied-first : nth met.replies 0 ≡ some (reply_to ack.sent_align adopted_reply)
unfolding opened bytes adopt_reply with_header with_node host seen begun leased written asked doubled met
replied-first = refl

on-count : Called met (reply_arrives 0) counted
unfolding Called at with_header with_node host begun headers leased written asked doubled met counted
on-count = subst (λ (o : Option Reply). Acks met 0 o counted) (sym replied-first) (images.aligned, 0, aligns, refl)

on_send_lem : Called counted (worker_steps 1 key 1 2 Euclidean 100) sent
unfolding Called at with_header with_node host begun headers leased written asked doubled met counted sent
on_send_lem = (space, sent_entry, room, entry_length, 3, refl, omega arith, steps-entry, refl)

entry_under_way : nth (sent.requests 1 2) 1 ≡ some entry_request
unfolding opened bytes number_put entry_bytes sent_entry entry_length with_header with_node host seen begun leased written asked doubled met counted sent
entry_under_way = refl

on_store : Called sent (request_arrives 1 2 1) held
unfolding Called at with_header with_node host begun headers leased written asked doubled met counted sent held
on_store =
    subst (λ (o : Option Request). Arrives sent 1 2 1 o held) (sym entry_under_way) (images.holding, stored, reply, store_reply, 0, replicates-entry, refl)

still_under_way : nth (held.requests 1 2) 0 ≡ some alignment
unfolding opened bytes number_put align_bytes sent_align align_length with_header with_node host seen begun leased written asked doubled met counted sent held
still_under_way = refl

on-late : Called held (request_arrives 1 2 0) late
unfolding Called at with_header with_node host begun headers leased written asked doubled met counted sent held late
on-late =
    subst (λ (o : Option Request). Arrives held 1 2 0 o late) (sym still_under_way) (images.holding, again, reply, keep_reply, 0, announces-late, refl)

replied-entry : nth late.replies 0 ≡ some (reply_to ack.sent_replicate stored_reply)
unfolding opened bytes store_reply with_header with_node host seen begun leased written asked doubled met counted sent held late
replied-entry = refl

on-known : Called late (reply_arrives 0) known
unfolding Called at with_header with_node host begun headers leased written asked doubled met counted sent held late known
on-known = subst (λ (o : Option Reply). Acks late 0 o known) (sym replied-entry) (images.acked, 0, acks, refl)

remembered : nth known.accepted 0 ≡ some wrote
unfolding opened with_header with_node host seen begun leased written asked doubled met counted sent held late known
remembered = rw decoded refl

on_wait_lem : Called known (node_waits 0 6 10) last
unfolding Called at with_header with_node host begun headers leased written asked doubled met counted sent held late known last
on_wait_lem = subst (λ (o : Option Write). Waits known 6 10 o last) (sym remembered) (images.acked, [], [], room, room, 0, waits, refl)

-- ---- the run

abbrev pub events : List Event
events =
    lease_granted 1 4 0 100
    ∷ client_writes 1 5 1 bytes
    ∷ worker_steps 1 key 1 2 Euclidean 100
    ∷ request_repeats 1 2 0
    ∷ request_arrives 1 2 0
    ∷ reply_arrives 0
    ∷ worker_steps 1 key 1 2 Euclidean 100
    ∷ request_arrives 1 2 1
    ∷ request_arrives 1 2 0
    ∷ reply_arrives 0
    ∷ node_waits 0 6 10
    ∷ []

may_write : (d : Cluster) → allowed (seen d) (client_writes 1 5 1 bytes) ≡ true
unfolding opened bytes
may_write d = refl

pub calls-made : Calls begun events last
unfolding Calls opened
calls-made = (
  leased,
  begun_in_memory,
  refl,
  on-grant,
  (
    written,
    leased_in_memory,
    may_write leased,
    on-write,
    (
      asked,
      written_in_memory,
      refl,
      on_align_lem,
      (
        doubled,
        asked_in_memory,
        refl,
        on-repeat,
        (
          met,
          doubled_in_memory,
          refl,
          on_meet,
          (
            counted,
            met_in_memory,
            refl,
            on-count,
            (
              sent,
              counted_in_memory,
              refl,
              on_send_lem,
              (
                held,
                sent_in_memory,
                refl,
                on_store,
                (late, held_in_memory, refl, on-late, (known, late_in_memory, refl, on-known, (last, known_in_memory, refl, on_wait_lem, refl))),
              ),
            ),
          ),
        ),
      ),
    ),
  ),
)

-- ---- the theorems, put to it

pub kept : Durable (seen last)
kept = theorem.durable begun last events fresh calls-made

-- the write is acknowledged
pub acknowledged : (seen last).acknowledged ≡ wrote ∷ []
unfolding opened with_header with_node host seen begun leased written asked doubled met counted sent held late known last
acknowledged = rw decoded refl

-- the map lists node 2 in sync
listed : in_sync_at map key 2 ≡ true
unfolding opened
listed = refl

in_sync_lem : in_sync_at (seen last).map key 2 ≡ true
unfolding with_header with_node host seen begun leased written asked doubled met counted sent held late known last
in_sync_lem = ap (λ (m : tables.Map). in_sync_at m key 2) map_read ∙ listed

-- demand 3: so it stands in the log that node 2's bytes are read as
pub stands : Stands wrote (claim.log_of ((seen last).nodes 2) key)
stands = kept.stands wrote 0 (rw acknowledged (unfold nth in refl)) 2 in_sync_lem

-- which is this log, with these vectors
pub node-read : (seen last).nodes 2 ≡ second 1 (entry ∷ []) vectors
unfolding at with_header with_node host seen begun leased written asked doubled met counted sent held late known last
node-read = state_late

pub log-read : claim.log_of ((seen last).nodes 2) key ≡ entry ∷ []
unfolding opened
log-read = ap (λ (n : node.Node). claim.log_of n key) node-read

-- request 2.5: its entry is the Write that was accepted at epoch 1, and node 1 has no other under that epoch
at_second : entry_at (claim.log_of ((seen last).nodes 2) key) 1 ≡ some entry
unfolding entry_at nth
at_second = ap (λ (l : Log). entry_at l 1) log-read

pub origin : Origin (seen last) key 1 entry
origin = (theorem.written begun last events fresh calls-made).entries key 2 1 entry at_second

pub same-entry : (x : Entry) → entry_at (claim.log_of ((seen last).nodes 1) key) 1 ≡ some x → x.epoch ≡ 1 → x ≡ entry
same-entry x p e = (theorem.alike begun last events fresh calls-made).entries key 1 2 1 x entry p at_second e
