-- Paper 01, 'Who is turned down': a refused call leaves the node as it was, whatever the node, the bytes and the clock. (A worker's step
-- and its request leave no node at all.) Assumes nothing.
use Prim.Native.Nat.{ℕ}
use mathlib.Core.Path.{◌≡◌, refl, sym, ap, ◌∙◌}
use mathlib.Core.Bool.{Bool, true, false, cond, not}
use mathlib.Core.List.{List, []}
use mathlib.Core.Option.{Option, none, some}
use native.Mathlib.Omega.{arith}
use lib.Dec.{eqb, leb, ltb}
use lib.ListN.{length}
use lib.Ieee.{Float}
use Rattle.spec.specs.Lists.{◌or◌, any, every, find}
use Rattle.spec.specs.Limits.{max_held}
use Rattle.spec.specs.Keys.{Key}
use Rattle.spec.specs.Refusals.{Refusal}
use Rattle.spec.specs.Log.{Op, Entry, End, append, store, store_all, last_offset}
use Rattle.spec.specs.Map.Tables.{Map}
use Rattle.spec.specs.Layout.Message.{Write, decode_write, Query, decode_search, Replicated, decode_replicate, NewEpoch, decode_new_epoch, Copied, decode_copy_shard, Reply, decode_reply}
use Rattle.spec.specs.Nearest.Search.{hits}
use Rattle.spec.specs.declared.Metric.{Metric}
use Rattle.spec.specs.declared.Peer.{Peer}
use Rattle.spec.specs.declared.DataNodeId.{DataNodeId}
use Rattle.spec.specs.Node.Held.{Held, Node}
use Rattle.spec.specs.Node.Shards.{Result, held_shard, leads_at, of_node}
use Rattle.spec.specs.Node.Wire.{op_in_domain, patterns_in_domain, entry_in_domain}
use Rattle.spec.specs.Node.Lease.{GrantAnswer, grant_refused, leased}
use Rattle.spec.specs.Node.Client.{WriteAnswer, accepted, write_refused, ack_count, overfull, write_held, on_write, SearchAnswer, found, search_refused, search_held, on_search, WaitAnswer, done, waiting, wait_refused, has_acked, wait_held, on_wait}
use Rattle.spec.specs.Node.Backup.{BackupAnswer, replied, backup_refused, unheld, leads_from, is_empty, replicate_held, on_replicate, new_epoch_held, new_epoch_at, on_new_epoch, copy_held, on_copy}
use Rattle.spec.specs.Node.Ack.{AckAnswer, noted, expand, ack_refused, Sent, bad_reply, Deed, nothing, step_down, unalign, record_ack, deed_of, joins, do_deed, deed_at, ack_held, on_ack, OutcomeAnswer, settled, outcome_refused, Proposal, outcome_at, leaves, on_outcome}
use Rattle.spec.specs.Node.Shown.{Worker, ShownAnswer, shown, shown_refused, dead_as, showings, too_many, take_map, on_map}
use Rattle.spec.specs.Node.Calls.{late_time, write_of, write_with, search_of, search_with, replicate_of, replicate_with, new_epoch_of, new_epoch_with, copy_of, copy_with, grant_with, wait_with, ack_of, ack_with, outcome_with, shown_with}
use Rattle.spec_laws.proofs.Lists.{by-test}
use Rattle.spec_laws.proofs.Node.Shards.{at_same, at_cases}

-- a result that leaves s where it answers `bad`
abbrev Keeps : {A S : Type 0} → A → S → Result A S → Type 0
Keeps bad s v = v.answer ≡ bad → v.after ≡ s

-- ---- Write

module _ (r : Refusal) where
  not_accepted {κ} : {P : Type κ} (o : ℕ) → accepted o ≡ write_refused r → P
  not_accepted o e = let z : ◌≡◌ {A = ℕ} 0 1 = cc in absurd (omega arith)

  pub write_held_refused : (lease : Bool) (least epoch : ℕ) (op : Op) (h : Held)
      → Keeps (write_refused r) h (write_held lease least epoch op h)
  unfolding write_held
  write_held_refused lease least epoch op h =
      let P : Result WriteAnswer Held → Type 0 = Keeps (write_refused r) h in
      by-test P (not (leads_at h.role epoch)) (λ p e. refl)
      (λ p. by-test P (not lease) (λ q e. refl)
      (λ q. by-test P (ltb (ack_count h) least) (λ s e. refl)
      (λ s. by-test P (overfull (append h.replica op)) (λ t e. refl)
      (λ t e. not_accepted _ e))))

  pub on_write_refused : (n : Node) (now least : ℕ) (k : Key) (epoch : ℕ) (op : Op) → Keeps (write_refused r) n (on_write n now least k epoch op)
  unfolding on_write
  on_write_refused n now least k epoch op =
      at_same n k _ (write_held (leased n now) least epoch op) (λ a. a ≡ write_refused r)
      (λ h. write_held_refused (leased n now) least epoch op h)

  write_of_lem : (lent : Key → Bool) (n : Node) (now least : ℕ) (m : Option Write) → Keeps (write_refused r) n (write_of lent n now least m)
  write_of_lem lent n now least none = λ e. refl
  write_of_lem lent n now least (some m) =
      let P : Result WriteAnswer Node → Type 0 = Keeps (write_refused r) n in
      by-test P (not (op_in_domain m.op)) (λ p e. refl)
      (λ p. by-test P (not (lent m.key)) (λ q e. refl) (λ q. on_write_refused n now least m.key m.epoch _))

  pub write-refused : (lent : Key → Bool) (n : Node) (now least : ℕ) (s : List ℕ) → Keeps (write_refused r) n (write_with lent n now least s)
  unfolding write_with
  write-refused lent n now least s =
      by-test (Keeps (write_refused r) n) (late_time now) (λ p e. refl) (λ p. write_of_lem lent n now least (decode_write s))

-- ---- Search: it changes nothing, refused or not

pub search_held_same : (lease : Bool) (room epoch k : ℕ) (q : List Float) (h : Held) → (search_held lease room epoch k q h).after ≡ h
unfolding search_held
search_held_same lease room epoch k q h =
    let P : Result SearchAnswer Held → Type 0 = λ v. v.after ≡ h in
    by-test P (not (leads_at h.role epoch)) (λ p. refl)
    (λ p. by-test P (not lease) (λ s. refl)
    (λ s. by-test P (ltb room (length (hits h.replica.metric q h.replica.vectors k))) (λ t. refl) (λ t. refl)))

pub on_search_same : (n : Node) (now room : ℕ) (key : Key) (epoch k : ℕ) (q : List Float) → (on_search n now room key epoch k q).after ≡ n
unfolding on_search
on_search_same n now room key epoch k q =
    at_same n key _ (search_held (leased n now) room epoch k q) (λ a. Unit {0})
    (λ h t. search_held_same (leased n now) room epoch k q h) tt

search_of_lem : (lent : Key → Bool) (n : Node) (now room : ℕ) (m : Option Query) → (search_of lent n now room m).after ≡ n
search_of_lem lent n now room none = refl
search_of_lem lent n now room (some m) =
    let P : Result SearchAnswer Node → Type 0 = λ v. v.after ≡ n in
    by-test P (not (patterns_in_domain m.bits)) (λ p. refl)
    (λ p. by-test P (not (lent m.key)) (λ q. refl) (λ q. on_search_same n now room m.key m.epoch m.k _))

pub search_same : (lent : Key → Bool) (n : Node) (now room : ℕ) (s : List ℕ) → (search_with lent n now room s).after ≡ n
unfolding search_with
search_same lent n now room s =
    by-test (λ (v : Result SearchAnswer Node). v.after ≡ n) (late_time now) (λ p. refl) (λ p. search_of_lem lent n now room (decode_search s))

-- ---- waiting for acks

module _ (r : Refusal) where
  not_done {κ} : {P : Type κ} (b : Bool) (l : List DataNodeId) → cond b (done l) (waiting l) ≡ wait_refused r → P
  not_done true l e = let z : ◌≡◌ {A = ℕ} 0 1 = cc in absurd (omega arith)
  not_done false l e = let z : ◌≡◌ {A = ℕ} 0 1 = cc in absurd (omega arith)

  pub wait_held_refused : (now timeout epoch offset : ℕ) (h : Held) → Keeps (wait_refused r) h (wait_held now timeout epoch offset h)
  unfolding wait_held
  wait_held_refused now timeout epoch offset h =
      by-test (Keeps (wait_refused r) h) (not (leads_at h.role epoch)) (λ p e. refl)
      (λ p e. not_done (every (has_acked offset) h.peers) _ e)

  pub wait_refused_lem : (lent : Bool) (n : Node) (now timeout : ℕ) (k : Key) (epoch offset : ℕ)
      → Keeps (wait_refused r) n (wait_with lent n now timeout k epoch offset)
  unfolding wait_with on_wait
  wait_refused_lem lent n now timeout k epoch offset =
      let P : Result WaitAnswer Node → Type 0 = Keeps (wait_refused r) n in
      by-test P (late_time now or late_time timeout) (λ p e. refl)
      (λ p. by-test P (not lent) (λ q e. refl)
      (λ q. at_same n k _ (wait_held now timeout epoch offset) (λ a. a ≡ wait_refused r) (λ h. wait_held_refused now timeout epoch offset h)))

-- ---- Replicate, NewEpoch, CopyShard

module _ (r : Refusal) where
  not_replied {κ} : {P : Type κ} (a : Reply) → replied a ≡ backup_refused r → P
  not_replied a e = let z : ◌≡◌ {A = ℕ} 0 1 = cc in absurd (omega arith)

  pub replicate_held_refused : (epoch offset : ℕ) (op : Op) (h : Held) → Keeps (backup_refused r) h (replicate_held epoch offset op h)
  unfolding replicate_held
  replicate_held_refused epoch offset op h =
      by-test (Keeps (backup_refused r) h) (overfull (store h.replica epoch (record { epoch = epoch; offset = offset; op = op })).replica)
      (λ p e. refl) (λ p e. not_replied _ e)

  replicate_of_lem : (lent : Key → Bool) (n : Node) (m : Option Replicated) → Keeps (backup_refused r) n (replicate_of lent n m)
  unfolding on_replicate
  replicate_of_lem lent n none = λ e. refl
  replicate_of_lem lent n (some m) =
      let P : Result BackupAnswer Node → Type 0 = Keeps (backup_refused r) n in
      by-test P (not (op_in_domain m.op)) (λ p e. refl)
      (λ p. by-test P (not (lent m.key)) (λ q e. refl)
      (λ q. at_same n m.key _ (replicate_held m.epoch m.offset _) (λ a. a ≡ backup_refused r)
      (λ h. replicate_held_refused m.epoch m.offset _ h)))

  pub replicate_refused : (lent : Key → Bool) (n : Node) (s : List ℕ) → Keeps (backup_refused r) n (replicate_with lent n s)
  unfolding replicate_with
  replicate_refused lent n s = replicate_of_lem lent n (decode_replicate s)

  -- a held shard is never refused
  pub new_epoch_held_refused : (epoch end : ℕ) (t : List End) (h : Held) → Keeps (backup_refused r) h (new_epoch_held epoch end t h)
  unfolding new_epoch_held
  new_epoch_held_refused epoch end t h =
      let P : Result BackupAnswer Held → Type 0 = Keeps (backup_refused r) h in
      by-test P (leads_from h.role epoch) (λ p e. refl)
      (λ p. by-test P (ltb epoch h.replica.epoch) (λ q e. refl) (λ q e. not_replied _ e))

  new_epoch_answer {κ} : {P : Type κ} (epoch end : ℕ) (t : List End) (h : Held) → (new_epoch_held epoch end t h).answer ≡ backup_refused r → P
  unfolding new_epoch_held
  new_epoch_answer {P} epoch end t h =
      let Q : Result BackupAnswer Held → Type κ = λ v. v.answer ≡ backup_refused r → P in
      by-test Q (leads_from h.role epoch) (λ p e. not_replied _ e)
      (λ p. by-test Q (ltb epoch h.replica.epoch) (λ q e. not_replied _ e) (λ q e. not_replied _ e))

  new_epoch_at_lem : (n : Node) (k : Key) (epoch end : ℕ) (t : List End) (metric : Metric) (o : Option Held)
      → Keeps (backup_refused r) n (new_epoch_at n k epoch end t metric o)
  new_epoch_at_lem n k epoch end t metric none =
      by-test (Keeps (backup_refused r) n) (leb max_held (length n.held)) (λ p e. refl) (λ p e. new_epoch_answer epoch end t _ e)
  new_epoch_at_lem n k epoch end t metric (some h) =
      at_same n k unheld (new_epoch_held epoch end t) (λ a. a ≡ backup_refused r) (λ x. new_epoch_held_refused epoch end t x)

  new_epoch_of_lem : (lent : Key → Bool) (n : Node) (m : Option NewEpoch) → Keeps (backup_refused r) n (new_epoch_of lent n m)
  unfolding on_new_epoch
  new_epoch_of_lem lent n none = λ e. refl
  new_epoch_of_lem lent n (some m) =
      by-test (Keeps (backup_refused r) n) (not (lent m.key)) (λ q e. refl)
      (λ q. new_epoch_at_lem n m.key m.epoch m.end m.table m.metric (held_shard n m.key))

  pub new_epoch_refused : (lent : Key → Bool) (n : Node) (s : List ℕ) → Keeps (backup_refused r) n (new_epoch_with lent n s)
  unfolding new_epoch_with
  new_epoch_refused lent n s = new_epoch_of_lem lent n (decode_new_epoch s)

  pub copy_held_refused : (epoch : ℕ) (es : List Entry) (h : Held) → Keeps (backup_refused r) h (copy_held epoch es h)
  unfolding copy_held
  copy_held_refused epoch es h =
      let P : Result BackupAnswer Held → Type 0 = Keeps (backup_refused r) h in
      by-test P (is_empty es) (λ p e. refl)
      (λ p. by-test P (eqb epoch h.replica.epoch)
      (λ q. by-test P (overfull (store_all h.replica epoch es)) (λ s e. refl) (λ s e. not_replied _ e)) (λ q e. refl))

  copy_of_lem : (lent : Key → Bool) (n : Node) (m : Option Copied) → Keeps (backup_refused r) n (copy_of lent n m)
  unfolding on_copy
  copy_of_lem lent n none = λ e. refl
  copy_of_lem lent n (some m) =
      let P : Result BackupAnswer Node → Type 0 = Keeps (backup_refused r) n in
      by-test P (not (every entry_in_domain m.entries)) (λ p e. refl)
      (λ p. by-test P (not (lent m.key)) (λ q e. refl)
      (λ q. at_same n m.key _ (copy_held m.epoch _) (λ a. a ≡ backup_refused r) (λ h. copy_held_refused m.epoch _ h)))

  pub copy_refused : (lent : Key → Bool) (n : Node) (s : List ℕ) → Keeps (backup_refused r) n (copy_with lent n s)
  unfolding copy_with
  copy_refused lent n s = copy_of_lem lent n (decode_copy_shard s)

-- ---- lease grant

pub grant-refused : (r : Refusal) (lent : Bool) (n : Node) (i sent lease : ℕ) → Keeps (grant_refused r) n (grant_with lent n i sent lease)
unfolding grant_with
grant-refused r lent n i sent lease =
    let P : Result GrantAnswer Node → Type 0 = Keeps (grant_refused r) n in
    by-test P (late_time sent or late_time lease) (λ p e. refl)
    (λ p. by-test P (not lent) (λ q e. refl) (λ q e. (let z : ◌≡◌ {A = ℕ} 0 1 = cc in absurd (omega arith))))

-- ---- ack

module _ (r : Refusal) where
  not_noted {κ} : {P : Type κ} → noted ≡ ack_refused r → P
  not_noted e = let z : ◌≡◌ {A = ℕ} 0 1 = cc in absurd (omega arith)

  not_expand {κ} : {P : Type κ} (b : Bool) → cond b expand noted ≡ ack_refused r → P
  not_expand true e = let z : ◌≡◌ {A = ℕ} 0 1 = cc in absurd (omega arith)
  not_expand false e = not_noted e

  do_deed_refused : (h : Held) (k : ℕ) (p : Peer) (d : Deed) → Keeps (ack_refused r) h (do_deed h k p d)
  unfolding do_deed
  do_deed_refused h k p nothing e = refl
  do_deed_refused h k p step_down e = not_noted e
  do_deed_refused h k p unalign e = not_noted e
  do_deed_refused h k p (record_ack t a) e = not_expand (joins (last_offset h.replica) t a p) e

  deed_at_refused : (h : Held) (k : ℕ) (d : Deed) (o : Option Peer) → Keeps (ack_refused r) h (deed_at h k d o)
  deed_at_refused h k d none = λ e. refl
  deed_at_refused h k d (some p) = do_deed_refused h k p d

  pub ack_held_refused : (epoch peer : ℕ) (s : Sent) (a : Reply) (h : Held) → Keeps (ack_refused r) h (ack_held epoch peer s a h)
  unfolding ack_held
  ack_held_refused epoch peer s a h =
      by-test (Keeps (ack_refused r) h) (leads_at h.role epoch)
      (λ p. deed_at_refused h peer (deed_of s a epoch) (find (of_node peer) h.peers)) (λ p e. refl)

  pub on_ack_refused : (n : Node) (k : Key) (epoch peer : ℕ) (s : Sent) (a : Reply) → Keeps (ack_refused r) n (on_ack n k epoch peer s a)
  unfolding on_ack
  on_ack_refused n k epoch peer s a =
      by-test (Keeps (ack_refused r) n) (bad_reply a) (λ p e. refl)
      (λ p. at_same n k noted (ack_held epoch peer s a) (λ v. v ≡ ack_refused r) (λ h. ack_held_refused epoch peer s a h))

  ack_of_lem : (lent : Bool) (n : Node) (k : Key) (epoch peer : ℕ) (s : Sent) (a : Option Reply) → Keeps (ack_refused r) n (ack_of lent n k epoch peer s a)
  ack_of_lem lent n k epoch peer s none = λ e. refl
  ack_of_lem lent n k epoch peer s (some a) =
      let P : Result AckAnswer Node → Type 0 = Keeps (ack_refused r) n in
      by-test P (bad_reply a) (λ p e. refl)
      (λ p. by-test P (not lent) (λ q e. refl) (λ q. on_ack_refused n k epoch peer s a))

  pub ack_refused_lem : (lent : Bool) (n : Node) (k : Key) (epoch peer : ℕ) (s : Sent) (b : List ℕ) → Keeps (ack_refused r) n (ack_with lent n k epoch peer s b)
  unfolding ack_with
  ack_refused_lem lent n k epoch peer s b = ack_of_lem lent n k epoch peer s (decode_reply b)

-- ---- outcome of a proposal, map shown

module _ (r : Refusal) where
  not_settled {κ} : {P : Type κ} → settled ≡ outcome_refused r → P
  not_settled e = let z : ◌≡◌ {A = ℕ} 0 1 = cc in absurd (omega arith)

  pub outcome-refused : (lent : Bool) (n : Node) (k : Key) (epoch peer : ℕ) (what : Proposal) (applied : Bool)
      → Keeps (outcome_refused r) n (outcome_with lent n k epoch peer what applied)
  unfolding outcome_with on_outcome
  outcome-refused lent n k epoch peer what applied =
      by-test (Keeps (outcome_refused r) n) (not lent) (λ p e. refl)
      (λ p. at_same n k settled (outcome_at n.id epoch peer (leaves what applied)) (λ v. v ≡ outcome_refused r) (λ h e. not_settled e))

  not_shown {κ} : {P : Type κ} (l : List Worker) → shown l ≡ shown_refused r → P
  not_shown l e = let z : ◌≡◌ {A = ℕ} 0 1 = cc in absurd (omega arith)

  take_map_refused : (n : Node) (m : Map) → Keeps (shown_refused r) n (take_map n m)
  unfolding take_map
  take_map_refused n m = by-test (Keeps (shown_refused r) n) (too_many (showings n m m.shards)) (λ p e. refl) (λ p e. not_shown _ e)

  pub on_map_refused : (n : Node) (fresh : ℕ) (m : Map) → Keeps (shown_refused r) n (on_map n fresh m)
  unfolding on_map
  on_map_refused n fresh m =
      let P : Result ShownAnswer Node → Type 0 = Keeps (shown_refused r) n in
      by-test P (ltb m.version n.version) (λ p e. refl)
      (λ p. by-test P (any (dead_as n) m.nodes) (λ q e. not_shown _ e) (λ q. take_map_refused n m))

  pub shown-refused : (lent : Bool) (n : Node) (fresh : ℕ) (m : Map) → Keeps (shown_refused r) n (shown_with lent n fresh m)
  unfolding shown_with
  shown-refused lent n fresh m = by-test (Keeps (shown_refused r) n) (not lent) (λ p e. refl) (λ p. on_map_refused n fresh m)
