-- A run of the calls that the checker follows: node 1 alone holds a shard; it was shown the map, is granted a lease, takes a Write and
-- acknowledges it. Every other node is new, with id 0. Maps, headers and stores are arrays of the code's own lengths, and every number fits
-- its width. So the theorem is of engines and runs that there are. Assumes nothing.
use Prim.Native.Nat.{ℕ, zero, suc, ◌-◌, ◌<◌}
use native.Mathlib.Omega.{arith}
use mathlib.Core.Path.{◌≡◌, refl, sym, ap, subst, ◌∙◌}
use mathlib.Core.Bool.{true, false}
use mathlib.Core.List.{List, [], ◌∷◌, ◌++◌}
use mathlib.Core.Option.{Option, some}
use lib.ListN.{length, get_or, set}
use lib.Ieee.{nan}
use borrow.Author.Tests.{ne_eqb}
use Rattle.spec.specs.Keys.{Key}
use Rattle.spec.specs.Lists.{nth, any}
use Rattle.spec.specs.Log.{Log, Entry, entry_at}
use Rattle.spec.specs.Map.Tables.{NodeInfo, ShardInfo}
use Rattle.spec.specs.Map.Change.{holds}
use Rattle.spec.specs.Layout.Parts.{wire_delete}
use Rattle.spec.specs.Layout.Message as message
use Rattle.spec.specs.Node.Held as held
use Rattle.spec.specs.Node.Calls as calls
use Rattle.spec.specs.declared.DataNodeId.{DataNodeId}
use Rattle.spec.specs.declared.Replica.{Replica}
use Rattle.spec.specs.declared.Role.TheVariants.{Primary}
use Rattle.spec.specs.declared.Metric.TheVariants.{Euclidean}
use Rattle.spec_laws.proofs.Lists.{none_some, some_same, not_both, and_true}
use Rattle.spec_run.specs.State.{Write}
use Rattle.spec_run.specs.Event.{Event, lease_granted, client_writes, node_waits}
use Rattle.spec_run.specs.Fresh.{Created, Fresh}
use Rattle.spec_run.specs.Claim.{in_sync_at, Durable, Stands, Origin}
use Rattle.spec_run.specs.Claim as claim
use Rattle.spec_run.proofs.Cases.Opened.{opened}
use Rattle.spec_run.proofs.Cases.Start as run
use Rattle.map_tables.specs.declared.Name.{Name}
use Rattle.map_tables.specs.declared.ShardKey.{ShardKey}
use Rattle.map_tables.specs.declared.NodeRow.{NodeRow}
use Rattle.map_tables.specs.declared.CollectionRow.{CollectionRow}
use Rattle.map_tables.specs.declared.ShardRow.{ShardRow}
use Rattle.map_tables.specs.declared.SessionRow.{SessionRow}
use Rattle.map_tables.specs.declared.ShardMap.{ShardMap}
use Rattle.std.specs.Prelude.{Some}
use Rattle.map_tables.specs.declared.Outcome.TheVariants as outcome
use Rattle.map_tables.specs.View.{view_map}
use Rattle.map_check.specs.Lent.{table_counted, counted, well_formed_lent}
use Rattle.node_shard.specs.View.{no_peer}
use Rattle.node_shard.specs.declared.Held.{Held}
use Rattle.node_shard.specs.declared.WaitAnswer.TheVariants as W
use Rattle.std.specs.declared.option.Option as option
use Rattle.std.specs.Prelude.{None, Some}
use Rattle.log_store.specs.View.{firsts, op_of, entry_of, log_of}
use Rattle.log_store.specs.Table.{zipped, rows_of, vectors_of, row_op, play_rows, play_rows_from}
use Rattle.log_store.specs.Store.{well_formed_store, every_below, same_rows}
use Rattle.log_calls.specs.Fits.{sized, lent_fits}
use Rattle.log_calls.proofs.FitLaws.{fits-sized, fits-well}
use Rattle.node_header.specs.declared.HeldRow.{HeldRow}
use Rattle.node_header.specs.declared.Node.{Node}
use Rattle.node_header.specs.declared.NodeGranted.{NodeGranted}
use Rattle.node_header.specs.declared.NodeWaited.{NodeWaited}
use Rattle.node_header.specs.declared.GrantAnswer.TheVariants as G
use Rattle.node_header.specs.View.{Stores, view_node, used, no_held_row}
use Rattle.node_header.specs.Formed.{slots_fit, counts_fit, lent_node, formed_node}
use Rattle.node_header.specs.Grow.{free_from}
use Rattle.node_header.specs.Answers.{GrantsNode, WaitsNode, answered_as}
use Rattle.node_show.specs.declared.Start.{Start}
use Rattle.node_show.specs.declared.NodeShown.{NodeShown}
use Rattle.node_show.specs.declared.ShownAnswer.TheVariants as S
use Rattle.node_show.specs.Slots.{slotted, slots_after}
use Rattle.node_show.specs.Shows.{view_starts}
use Rattle.node_hear.specs.Hears.{HearsMap}
use Rattle.node_lent.specs.Lend.{LentStore, lent_store, store_of, held_row_store, place_of, lent_at, lent_for, slot_of, Whole}
use Rattle.node_write.specs.declared.WriteAnswer.{WriteAnswer}
use Rattle.node_write.specs.declared.WriteReply.TheVariants as C
use Rattle.node_write.specs.ClientWrites.{write_word, WriteNames, WriteSlot, SameWrite, WritesAt}
use Rattle.spec.specs.Node.Refused as refused
use Rattle.thm_durable.specs.Engine.{Engine, stores_of, seen, with_node, with_store, host}
use Rattle.thm_durable.specs.Calls.{write_said, wait_said, Waits, Called, Calls}
use Rattle.thm_durable.specs.Start.{New, ShownFirst, Begun}
use Rattle.thm_durable.proofs.Start.{begun_fresh}
use Rattle.thm_durable.proofs.Durable as theorem
use Rattle.thm_durable.proofs.Durable.{durable}

-- an array: the rows in use, and the rest filled up
unfoldable pub fill : {A : Type 0} → ℕ → A → List A
fill zero x = []
fill (suc n) x = x ∷ fill n x

abbrev pub array : {A : Type 0} → ℕ → A → List A → List A
array n x l = l ++ fill (n - length l) x

-- ---- the map that Register and Create left

abbrev pub name : Name
name = record { bytes = array 32 0 (0x73 ∷ []); len = 1 }

abbrev pub key : ShardKey
key = record { collection = name; shard = 0 }

abbrev pub node : ℕ → DataNodeId
node n = record { 0 = n }

abbrev copies : List Replica
copies = record { node = node 1; incarnation = 4 } ∷ []

abbrev registered : NodeRow
registered = record { node = node 1; address = record { bytes = fill 64 0; len = 0 }; incarnation = 4; alive = true }

abbrev collection : CollectionRow
collection = record { name = name; spec = record { dimension = 1; metric = Euclidean; shards = 1; replication = 1 } }

abbrev shard : ShardRow
shard = record {
  key = key;
  replicas = record { items = array 8 (record { node = node 0; incarnation = 0 }) copies; count = 1 };
  primary = Some (node 1);
  insync = record { items = array 8 (node 0) (node 1 ∷ []); count = 1 };
  epoch = record { 0 = 1 };
}

abbrev session : SessionRow
session = record { client = 9; seq = 2; outcome = outcome.Applied; key = key }

abbrev map : ShardMap
map = record {
  version = 2;
  nodes = record { items = array 32 registered (registered ∷ []); count = 1 };
  collections = record { items = array 16 collection (collection ∷ []); count = 1 };
  shards = record { items = array 64 shard (shard ∷ []); count = 1 };
  sessions = record { items = array 64 session (session ∷ []); count = 1 };
}

tested : well_formed_lent map ≡ true
unfolding opened fill well_formed_lent counted table_counted
tested = refl

-- its one shard, as it is read
abbrev info : ShardInfo
info = record { key = run.key; replicas = copies; primary = some 1; insync = node 1 ∷ []; epoch = 1 }

abbrev alive : NodeInfo
alive = record { node = 1; address = []; incarnation = 4; alive = true }

is-created : Created (view_map map) info
unfolding opened fill
is-created = record {
  well_formed = refl;
  only = refl;
  key = ((omega arith, refl), omega arith);
  metric = (Euclidean, refl);
  distinct = (refl, tt);
  live = ((alive, refl, refl, refl), omega arith, tt);
  first = (_, refl, refl);
  everyone = λ n. refl;
  epoch = refl;
}

-- ---- the header: new, as `show` gave it back, with a lease, and with an entry in the log

abbrev pub new : ℕ → Node
new n = record { id = node n; incarnation = 4; expiry = None; version = 0; held = array 8 no_held_row []; count = 0 }

abbrev solo : (last : ℕ) → Held
solo last = record {
  epoch = record { 0 = 1 };
  metric = Euclidean;
  last = last;
  role = Primary (record { 0 = 1 }) (record { 0 = 0 });
  own = true;
  replicas = array 8 (record { node = node 0; incarnation = 0 }) copies;
  holders = 1;
  peers = array 32 no_peer [];
  count = 0;
}

abbrev leads : option.Option ℕ → (last : ℕ) → Node
leads e last =
    let x : HeldRow = record { key = key; slot = 0; stored = 0; held = solo last } in
    record { id = node 1; incarnation = 4; expiry = e; version = 2; held = array 8 no_held_row (x ∷ []); count = 1 }

pub nil : (l : Log) → length l ≡ 0 → l ≡ []
nil [] e = refl
nil (x ∷ xs) e = absurd (omega arith)

abbrev starting : Start
starting = record { key = key; epoch = record { 0 = 1 }; metric = Euclidean; peers = record { items = array 32 (node 0) []; count = 0 } }

abbrev shown : NodeShown
shown = record { answer = S.Shown; starts = array 8 starting []; count = 0; node = leads None 0 }

shows : HearsMap (new 1) map 0 shown
unfolding opened fill well_formed_lent counted table_counted lent_node formed_node slots_fit view_starts slotted slots_after free_from
shows = record {
  same = λ s. rw (nil (s.log 0 0) (s.long 0 0), s.bare 0) refl;
  slots = λ e. refl;
  slots_are = λ e s. refl;
  stays = λ e. not_both true refl e;
}

abbrev granted : NodeGranted
granted = record { answer = G.Granted; node = leads (Some 100) 0 }

grants : GrantsNode (leads None 0) 4 0 100 granted
unfolding opened fill lent_node slots_fit counts_fit
grants = λ s. rw (s.long 0 0) refl

abbrev waited : NodeWaited
waited = record { answer = W.Done; shrink = record { items = array 32 (node 0) []; count = 0 }; node = leads (Some 100) 1 }

waits : WaitsNode (leads (Some 100) 1) run.key 1 1 6 10 waited
unfolding opened fill lent_node slots_fit counts_fit
waits = λ s. rw (s.long 0 1) refl

-- ---- the Write

abbrev pub bytes : List ℕ
bytes = message.encode_write (record { key = run.key; epoch = 1; op = wire_delete 41 })

abbrev pub before : LentStore
before = let z : List ℕ = fill 1024 0 in lent_store z z z z z (fill 32768 nan) z z

abbrev pub after : LentStore
after = let z : List ℕ = fill 1024 0 in lent_store (set z 0 1) (set z 0 1) (set z 0 41) (set z 0 2) z (fill 32768 nan) z z

slot_zero : (slot : ℕ) → WriteSlot (leads (Some 100) 0) bytes slot → slot ≡ 0
unfolding opened fill slot_of
slot_zero slot w = w (record { key = run.key; epoch = 1; op = wire_delete 41 }) refl

-- the node as it is read, with a log
abbrev read : Log → held.Node
read l = record {
  id = 1;
  incarnation = 4;
  expiry = some 100;
  version = 2;
  held =
      record {
        key = run.key;
        replica = record { epoch = 1; metric = Euclidean; log = l; vectors = [] };
        holders = copies;
        role = Primary (record { 0 = 1 }) (record { 0 = 0 });
        own = true;
        peers = [];
      } ∷ [];
}

read-before : (s : Stores) → view_node s (leads (Some 100) 0) ≡ read []
unfolding fill
read-before s = rw (nil (s.log 0 0) (s.long 0 0), s.bare 0) refl

header-lent : (s : Stores) → lent_node s (leads (Some 100) 0) ≡ true
unfolding opened fill lent_node slots_fit counts_fit
header-lent s = rw (s.long 0 0) refl

store-lent : lent_at (leads (Some 100) 0) before (place_of (leads (Some 100) 0) run.key) ≡ true
unfolding opened fill lent_at held_row_store lent_fits sized well_formed_store every_below same_rows log_of firsts rows_of zipped play_rows play_rows_from
store-lent = refl

lent : (s : Stores) → lent_for s (leads (Some 100) 0) before run.key ≡ true
unfolding lent_for
lent s =
    let n = leads (Some 100) 0 in and_true (lent_node s n) (lent_at n before (place_of n run.key)) (header-lent s) store-lent

abbrev pub accepted : C.the_data
accepted = C.Accepted (record { 0 = 1 })

taken : (s : Stores)
    → record { answer = accepted; node = read (run.entry 1 1 41 ∷ []) } ≡ answered_as write_word (calls.write_with (lent_for s (leads (Some 100) 0) before) (read []) 5 1 bytes)
unfolding opened
taken s = rw (lent s) refl

same : SameWrite (leads (Some 100) 0) before after 5 1 bytes accepted (leads (Some 100) 1)
unfolding fill log_of firsts entry_of op_of rows_of vectors_of zipped
same = λ s t slot w c.
    let z = slot_zero slot w in
    let l : t.log 0 1 ≡ run.entry 1 1 41 ∷ [] = subst (λ (i : ℕ). t.log i 1 ≡ run.entry 1 1 41 ∷ []) z (c.after.log 1) in
    let v : t.vectors 0 1 0 ≡ [] = subst (λ (i : ℕ). t.vectors i 1 0 ≡ []) z (c.after.vectors 1 0) in
    let to : view_node t (leads (Some 100) 1) ≡ read (run.entry 1 1 41 ∷ []) = rw (l, v) refl in
    ap (λ (x : held.Node). record { answer = accepted; node = x }) to
    ∙ taken s
    ∙ ap (λ (x : held.Node). answered_as write_word (calls.write_with (lent_for s (leads (Some 100) 0) before) x 5 1 bytes)) (sym (read-before s))

abbrev wrote : WriteAnswer
wrote = record { answer = accepted; node = leads (Some 100) 1; refused = 0 }

slots-after : slots_fit (used (leads (Some 100) 1)) ≡ true
unfolding opened fill slots_fit
slots-after = refl

store-after : lent_fits (store_of after (get_or (leads (Some 100) 1).held 0 no_held_row)) ≡ true
unfolding opened fill lent_fits sized well_formed_store every_below same_rows log_of firsts entry_of op_of rows_of zipped row_op play_rows play_rows_from
store-after = refl

key-after : Whole (leads (Some 100) 0) (leads (Some 100) 1) after run.key
unfolding opened fill
key-after e = (fits-sized _ store-after, fits-well _ store-after)

whole : (k : Key) → WriteNames bytes k → Whole (leads (Some 100) 0) (leads (Some 100) 1) after k
unfolding opened
whole k named =
    subst (Whole (leads (Some 100) 0) (leads (Some 100) 1) after) (sym (named (record { key = run.key; epoch = 1; op = wire_delete 41 }) refl)) key-after

writes : WritesAt (leads (Some 100) 0) before after 5 1 bytes 0 wrote
unfolding refused.counted
writes = record {
  same = same;
  kept = λ e. not_both false e refl;
  slots_are = refl;
  slots = λ e. slots-after;
  whole = λ e. whole;
  count = refl;
}

-- ---- the engine

-- whatever number a node has, its id is a u64: all but node 1 have id 0
nodes : ℕ → Node
nodes zero = new 0
nodes (suc zero) = leads None 0
nodes (suc (suc n)) = new 0

pub first : Engine
first = record {
  map = map;
  nodes = nodes;
  lent_stores = λ n slot. before;
  clients = λ n. 100;
  requests = λ a b. [];
  replies = [];
  offers = [];
  outcomes = [];
  accepted = [];
  acknowledged = [];
}

pub is-new : (n : ℕ) → New (new n) n 4
is-new n = record { id = refl; incarnation = refl; expiry = refl; version = refl; count = refl }

far : (k : ℕ) → 1 < k → holds k copies ≡ false
unfolding holds any
far k h = rw (ne_eqb 1 k (λ q. absurd (omega arith)))

holders : (n : ℕ) → holds n copies ≡ true → ShownFirst first n 4
unfolding first nodes holds any
holders zero h = not_both false h refl
holders (suc zero) h = record { new = new 1; made = is-new 1; fresh = 0; answer = shown; promised = shows; node = refl }
holders (suc (suc n)) h = let k = suc (suc n) in not_both (holds k copies) h (far k (omega arith))

none_zero : holds 0 copies ≡ false
unfolding holds any
none_zero = refl

others : (n : ℕ) → holds n copies ≡ false → New (first.nodes n) 0 4
unfolding first nodes holds any
others zero h = is-new 0
others (suc zero) h = not_both true refl h
others (suc (suc n)) h = is-new 0

listed : (r : Replica) (place : ℕ) → nth copies place ≡ some r → 4 ≡ r.incarnation
unfolding nth
listed r zero e = cc
listed r (suc place) e = none_some e

first-begun : Begun first
unfolding first
first-begun = record {
  shard = info;
  tested = tested;
  created = is-created;
  incarnation = λ n. 4;
  listed = listed;
  holders = holders;
  id = λ n. 0;
  apart = λ n h. none_zero;
  others = others;
  clients = λ n. omega arith;
  requests = λ a b. refl;
  replies = refl;
  offers = refl;
  outcomes = refl;
  accepted = refl;
  acknowledged = refl;
}

pub first-fresh : Fresh (seen first)
first-fresh = begun_fresh first first-begun

-- ---- the run: a lease grant, a Write, and the wait that acknowledges it

abbrev events : List Event
events = lease_granted 1 4 0 100 ∷ client_writes 1 5 1 bytes ∷ node_waits 0 6 10 ∷ []

leased : Engine
leased = with_node first 1 (leads (Some 100) 0)

written : Engine
written = host (with_store leased 1 (leads (Some 100) 1) 0 after) (λ s. write_said s 1 (message.decode_write bytes) accepted)

pub last : Engine
last = host (with_node written 1 (leads (Some 100) 1)) (λ s. wait_said s (run.wrote 1 1 1 41) W.Done [])

on-grant : Called first (lease_granted 1 4 0 100) leased
unfolding Called first nodes leased
on-grant = (granted, grants, refl)

its_slot : WriteSlot (leads (Some 100) 0) bytes 0
unfolding opened fill slot_of
its_slot v e = ap (λ (k : Key). slot_of (leads (Some 100) 0) k) (ap (λ (m : message.Write). m.key) (some_same e))

on-write : Called leased (client_writes 1 5 1 bytes) written
unfolding Called opened with_node first leased written
on-write = (0, after, 0, wrote, its_slot, writes, refl)

remembered : nth written.accepted 0 ≡ some (run.wrote 1 1 1 41)
unfolding opened with_node with_store host seen first leased written
remembered = refl

on_wait_lem : Called written (node_waits 0 6 10) last
unfolding Called opened with_node with_store host first leased written last
on_wait_lem = subst (λ (o : Option Write). Waits written 6 10 o last) (sym remembered) (waited, waits, refl)

calls-made : Calls first events last
unfolding Calls opened fill
calls-made = (leased, refl, on-grant, (written, refl, on-write, (last, refl, on_wait_lem, refl)))

-- the theorem, put to it: the write stands in the log of node 1, which the map lists in sync
kept : Durable (seen last)
kept = durable first last events first-fresh calls-made

acknowledged : (seen last).acknowledged ≡ run.wrote 1 1 1 41 ∷ []
unfolding opened with_node with_store host seen first leased written last
acknowledged = refl

in_sync_lem : in_sync_at (seen last).map run.key 1 ≡ true
unfolding opened fill with_node with_store host seen first leased written last
in_sync_lem = refl

pub stands : Stands (run.wrote 1 1 1 41) (claim.log_of ((seen last).nodes 1) run.key)
stands = kept.stands (run.wrote 1 1 1 41) 0 (rw acknowledged (unfold nth in refl)) 1 in_sync_lem

-- request 2.5: its entry is the Write that was accepted at epoch 1, and nothing else stands there under that epoch
at_first : entry_at (claim.log_of ((seen last).nodes 1) run.key) 1 ≡ some (run.entry 1 1 41)
unfolding opened fill with_node with_store host seen first leased written last stores_of log_of firsts entry_of op_of
at_first = refl

pub origin : Origin (seen last) run.key 1 (run.entry 1 1 41)
origin = (theorem.written first last events first-fresh calls-made).entries run.key 1 1 (run.entry 1 1 41) at_first

pub same-entry : (x : Entry) → entry_at (claim.log_of ((seen last).nodes 1) run.key) 1 ≡ some x → x.epoch ≡ 1 → x ≡ run.entry 1 1 41
same-entry x p e = (theorem.alike first last events first-fresh calls-made).entries run.key 1 1 1 x (run.entry 1 1 41) p at_first e
