-- The calls of a run with a late and repeated alignment (Run.antt), each shown to keep its contract: nodes 1 and 2 hold a shard; maps, headers and
-- stores are arrays of the code's own lengths. Assumes nothing.
use Prim.Native.Nat.{ℕ}
use native.Mathlib.Omega.{arith}
use mathlib.Core.Path.{◌≡◌, refl, sym, ap, subst, ◌∙◌}
use mathlib.Core.Bool.{Bool, true, false}
use mathlib.Core.List.{List, [], ◌∷◌}
use mathlib.Core.Option.{none, some}
use lib.ListN.{length, get_or}
use Rattle.spec.specs.Keys.{Key}
use Rattle.spec.specs.Log.{Log}
use Rattle.spec.specs.Map.Tables.{NodeInfo}
use Rattle.spec.specs.Layout.Parts.{wire_delete}
use Rattle.spec.specs.Layout.Message as message
use Rattle.spec.specs.Node.Held as held
use Rattle.spec.specs.Node.Calls as calls
use Rattle.spec.specs.declared.Peer.{Peer}
use Rattle.spec.specs.declared.Replica.{Replica}
use Rattle.spec.specs.declared.Role.{Role}
use Rattle.spec.specs.declared.Role.TheVariants.{Backup, Primary}
use Rattle.spec.specs.declared.Metric.TheVariants.{Euclidean}
use Rattle.spec_laws.proofs.Lists.{not_both}
use Rattle.spec_run.specs.Fresh.{Created}
use Rattle.spec_run.proofs.Cases.Opened.{opened}
use Rattle.spec_run.proofs.Cases.Start as run
use Rattle.map_tables.specs.declared.NodeRow.{NodeRow}
use Rattle.map_tables.specs.declared.CollectionRow.{CollectionRow}
use Rattle.map_tables.specs.declared.ShardRow.{ShardRow}
use Rattle.map_tables.specs.declared.SessionRow.{SessionRow}
use Rattle.map_tables.specs.declared.ShardMap.{ShardMap}
use Rattle.std.specs.Prelude.{Some}
use Rattle.map_tables.specs.declared.Outcome.TheVariants as outcome
use Rattle.map_tables.specs.View.{view_map}
use Rattle.map_check.specs.Lent.{table_counted, counted, well_formed_lent}
use Rattle.node_shard.specs.View.{no_peer}
use Rattle.node_shard.specs.declared.Held.{Held}
use Rattle.node_shard.specs.declared.Sent.TheVariants as sent
use Rattle.node_shard.specs.declared.AckAnswer.TheVariants as A
use Rattle.node_shard.specs.declared.WaitAnswer.TheVariants as W
use Rattle.std.specs.Prelude.{Option}
use Rattle.std.specs.Prelude.{None, Some}
use Rattle.log_store.specs.View.{firsts, op_of, entry_of, log_of}
use Rattle.log_store.specs.Table.{zipped, rows_of, vectors_of, row_op, play_rows, play_rows_from}
use Rattle.log_store.specs.Store.{well_formed_store, every_below, same_rows}
use Rattle.log_calls.specs.Fits.{sized, lent_fits}
use Rattle.log_calls.proofs.FitLaws.{fits-sized, fits-well}
use Rattle.node_header.specs.declared.HeldRow.{HeldRow}
use Rattle.node_header.specs.declared.Node.{Node}
use Rattle.node_header.specs.declared.NodeGranted.{NodeGranted}
use Rattle.node_header.specs.declared.NodeWaited.{NodeWaited}
use Rattle.node_header.specs.declared.NodeAcked.{NodeAcked}
use Rattle.node_header.specs.declared.GrantAnswer.TheVariants as G
use Rattle.node_header.specs.View.{Stores, view_node, used, no_held_row}
use Rattle.node_header.specs.Formed.{slots_fit, counts_fit, lent_node, formed_node}
use Rattle.node_header.specs.Grow.{free_from}
use Rattle.node_header.specs.Answers.{GrantsNode, WaitsNode, answered_as}
use Rattle.node_show.specs.declared.Start.{Start}
use Rattle.node_show.specs.declared.NodeShown.{NodeShown}
use Rattle.node_show.specs.declared.ShownAnswer.TheVariants as S
use Rattle.node_show.specs.Slots.{slotted, slots_after}
use Rattle.node_show.specs.Shows.{view_starts}
use Rattle.node_hear.specs.Hears.{HearsMap, HearsReply}
use Rattle.node_lent.specs.Lend.{store_of, held_row_store, lent_at, lent_for, slot_of, Lends, Whole}
use Rattle.node_header.specs.Slots.{slots_of}
use Rattle.node_send.specs.declared.Request.TheVariants as Q
use Rattle.node_send.specs.Requested.{answer_of, left_of}
use Rattle.node_step.specs.Requests.{Requests}
use Rattle.node_replicate.specs.declared.PeerAnswer.{PeerAnswer}
use Rattle.node_replicate.specs.declared.PeerReply.TheVariants as R
use Rattle.node_replicate.specs.Peers.{word, ReplicatesAt}
use Rattle.node_epoch.specs.NewEpochs.{NewEpochSlot, NewEpochSlots, slots_then, NewEpochsAt}
use Rattle.node_write.specs.declared.WriteAnswer.{WriteAnswer}
use Rattle.node_write.specs.ClientWrites.{write_word, WriteNames, WriteSlot, SameWrite, WritesAt}
use Rattle.spec.specs.Node.Refused as refused
use Rattle.thm_durable.proofs.Instance.{fill, array, name, key, node, new, nil, bytes, before, after, accepted}

-- ---- the map that Register and Create left

abbrev pub copies : List Replica
copies = record { node = node 1; incarnation = 4 } ∷ record { node = node 2; incarnation = 4 } ∷ []

abbrev registered : ℕ → NodeRow
registered n = record { node = node n; address = record { bytes = fill 64 0; len = 0 }; incarnation = 4; alive = true }

abbrev collection : CollectionRow
collection = record { name = name; spec = record { dimension = 1; metric = Euclidean; shards = 1; replication = 2 } }

abbrev shard : ShardRow
shard = record {
  key = key;
  replicas = record { items = array 8 (record { node = node 0; incarnation = 0 }) copies; count = 2 };
  primary = Some (node 1);
  insync = record { items = array 8 (node 0) (node 1 ∷ node 2 ∷ []); count = 2 };
  epoch = record { 0 = 1 };
}

abbrev session : SessionRow
session = record { client = 9; seq = 3; outcome = outcome.Applied; key = key }

abbrev pub map : ShardMap
map = record {
  version = 3;
  nodes = record { items = array 32 (registered 1) (registered 1 ∷ registered 2 ∷ []); count = 2 };
  collections = record { items = array 16 collection (collection ∷ []); count = 1 };
  shards = record { items = array 64 shard (shard ∷ []); count = 1 };
  sessions = record { items = array 64 session (session ∷ []); count = 1 };
}

pub tested : well_formed_lent map ≡ true
unfolding opened fill well_formed_lent counted table_counted
tested = refl

abbrev alive : ℕ → NodeInfo
alive n = record { node = n; address = []; incarnation = 4; alive = true }

pub is-created : Created (view_map map) run.info
unfolding opened fill
is-created = record {
  well_formed = refl;
  only = refl;
  key = ((omega arith, refl), omega arith);
  metric = (Euclidean, refl);
  distinct = (refl, (refl, tt));
  live = ((alive 1, refl, refl, refl), omega arith, ((alive 2, refl, refl, refl), omega arith, tt));
  first = (_, refl, refl);
  everyone = λ n. refl;
  epoch = refl;
}

-- ---- the headers

-- what node 1 knows of node 2
abbrev row : (acked : ℕ) → (aligned : Bool) → Peer
row acked aligned = record {
  node = node 2;
  acked = record { 0 = acked };
  aligned = aligned;
  behind = false;
  since = 0;
  proposing = false;
  member = true;
}

abbrev leading : (last : ℕ) → Peer → Held
leading last p = record {
  epoch = record { 0 = 1 };
  metric = Euclidean;
  last = last;
  role = Primary (record { 0 = 1 }) (record { 0 = 0 });
  own = true;
  replicas = array 8 (record { node = node 0; incarnation = 0 }) copies;
  holders = 2;
  peers = array 32 no_peer (p ∷ []);
  count = 1;
}

abbrev following : (epoch last : ℕ) → Held
following epoch last = record {
  epoch = record { 0 = epoch };
  metric = Euclidean;
  last = last;
  role = Backup;
  own = false;
  replicas = array 8 (record { node = node 0; incarnation = 0 }) copies;
  holders = 2;
  peers = array 32 no_peer [];
  count = 0;
}

abbrev header : ℕ → Option ℕ → Held → Node
header n e h =
    let x : HeldRow = record { key = key; slot = 0; stored = 0; held = h } in
    record { id = node n; incarnation = 4; expiry = e; version = 3; held = array 8 no_held_row (x ∷ []); count = 1 }

abbrev pub first : Option ℕ → (last acked : ℕ) → Bool → Node
first e last acked aligned = header 1 e (leading last (row acked aligned))

abbrev pub second : (epoch last : ℕ) → Node
second epoch last = header 2 None (following epoch last)

-- ---- the first maps shown

abbrev starting : Start
starting = record { key = key; epoch = record { 0 = 1 }; metric = Euclidean; peers = record { items = array 32 (node 0) (node 2 ∷ []); count = 1 } }

abbrev pub shown-first : NodeShown
shown-first = record { answer = S.Shown; starts = array 8 starting (starting ∷ []); count = 1; node = first None 0 0 false }

pub shows_first : HearsMap (new 1) map 0 shown-first
unfolding opened fill well_formed_lent counted table_counted lent_node formed_node slots_fit view_starts slotted slots_after free_from
shows_first = record {
  same = λ s. rw (nil (s.log 0 0) (s.long 0 0), s.bare 0) refl;
  slots = λ e. refl;
  slots_are = λ e s. refl;
  stays = λ e. not_both true refl e;
}

abbrev pub shown-second : NodeShown
shown-second = record { answer = S.Shown; starts = array 8 starting []; count = 0; node = second 0 0 }

pub shows_second : HearsMap (new 2) map 0 shown-second
unfolding opened fill well_formed_lent counted table_counted lent_node formed_node slots_fit view_starts slotted slots_after free_from
shows_second = record {
  same = λ s. rw (nil (s.log 0 0) (s.long 0 0), s.bare 0) refl;
  slots = λ e. refl;
  slots_are = λ e s. refl;
  stays = λ e. not_both true refl e;
}

-- ---- calls on a header alone

abbrev pub granted : NodeGranted
granted = record { answer = G.Granted; node = first (Some 100) 0 0 false }

pub grants : GrantsNode (first None 0 0 false) 4 0 100 granted
unfolding opened fill lent_node slots_fit counts_fit
grants = λ s. rw (s.long 0 0) refl

-- the reply to the first alignment counts
abbrev pub aligned : NodeAcked
aligned = record { answer = A.Noted; node = first (Some 100) 1 0 true }

pub aligns : HearsReply (first (Some 100) 1 0 false) run.key 1 2 sent.Align (message.encode_reply (message.reply_adopted 0)) aligned
unfolding opened fill lent_node slots_fit counts_fit
aligns = λ s. rw (s.long 0 1) refl

-- the reply to the entry counts
abbrev pub acked : NodeAcked
acked = record { answer = A.Noted; node = first (Some 100) 1 1 true }

pub acks : HearsReply (first (Some 100) 1 0 true) run.key 1 2 sent.Replicate (message.encode_reply (message.reply_stored 1)) acked
unfolding opened fill lent_node slots_fit counts_fit
acks = λ s. rw (s.long 0 1) refl

abbrev pub waited : NodeWaited
waited = record { answer = W.Done; shrink = record { items = array 32 (node 0) []; count = 0 }; node = first (Some 100) 1 1 true }

pub waits : WaitsNode (first (Some 100) 1 1 true) run.key 1 1 6 10 waited
unfolding opened fill lent_node slots_fit counts_fit
waits = λ s. rw (s.long 0 1) refl

-- ---- stores

-- what stores hold that lend the columns with the entry
log-one : (s : Stores) (slot : ℕ) → slot ≡ 0 → Lends s slot after → s.log 0 1 ≡ run.entry 1 1 41 ∷ []
unfolding fill log_of firsts entry_of op_of
log-one s slot z c = subst (λ (i : ℕ). s.log i 1 ≡ run.entry 1 1 41 ∷ []) z (c.log 1)

vectors-one : (s : Stores) (slot : ℕ) → slot ≡ 0 → Lends s slot after → s.vectors 0 1 0 ≡ []
unfolding fill log_of firsts entry_of op_of rows_of vectors_of zipped
vectors-one s slot z c = subst (λ (i : ℕ). s.vectors i 1 0 ≡ []) z (c.vectors 1 0)

-- the nodes as they are read
abbrev read_held : (epoch : ℕ) → Log → Role → Bool → List Peer → held.Held
read_held epoch l r own ps = record {
  key = run.key;
  replica = record { epoch = epoch; metric = Euclidean; log = l; vectors = [] };
  holders = copies;
  role = r;
  own = own;
  peers = ps;
}

abbrev read_first : Log → Peer → held.Node
read_first l p = record {
  id = 1;
  incarnation = 4;
  expiry = some 100;
  version = 3;
  held = read_held 1 l (Primary (record { 0 = 1 }) (record { 0 = 0 })) true (p ∷ []) ∷ [];
}

abbrev read-second : (epoch : ℕ) → Log → held.Node
read-second epoch l = record { id = 2; incarnation = 4; expiry = none; version = 3; held = read_held epoch l Backup false [] ∷ [] }

first-empty : (s : Stores) → view_node s (first (Some 100) 0 0 false) ≡ read_first [] (row 0 false)
unfolding fill
first-empty s = rw (nil (s.log 0 0) (s.long 0 0), s.bare 0) refl

first_one : (s : Stores) (aligned : Bool) → s.log 0 1 ≡ run.entry 1 1 41 ∷ [] → s.vectors 0 1 0 ≡ []
    → view_node s (first (Some 100) 1 0 aligned) ≡ read_first (run.entry 1 1 41 ∷ []) (row 0 aligned)
unfolding fill
first_one s aligned l v = rw (l, v) refl

second_empty : (s : Stores) (epoch : ℕ) → view_node s (second epoch 0) ≡ read-second epoch []
unfolding fill
second_empty s epoch = rw (nil (s.log 0 0) (s.long 0 0), s.bare 0) refl

second-one : (s : Stores) → s.log 0 1 ≡ run.entry 1 1 41 ∷ [] → s.vectors 0 1 0 ≡ [] → view_node s (second 1 1) ≡ read-second 1 (run.entry 1 1 41 ∷ [])
unfolding fill
second-one s l v = rw (l, v) refl

-- each header and its store pass the test
first_empty_lent : (s : Stores) → lent_for s (first (Some 100) 0 0 false) before run.key ≡ true
unfolding opened fill lent_for lent_node slots_fit counts_fit lent_at held_row_store lent_fits sized well_formed_store every_below same_rows log_of firsts rows_of zipped play_rows play_rows_from
first_empty_lent s = rw (s.long 0 0) refl

first_one_lent : (s : Stores) (aligned : Bool) → lent_for s (first (Some 100) 1 0 aligned) after run.key ≡ true
unfolding opened fill lent_for lent_node slots_fit counts_fit lent_at held_row_store lent_fits sized well_formed_store every_below same_rows log_of firsts entry_of op_of rows_of zipped row_op play_rows play_rows_from
first_one_lent s aligned = rw (s.long 0 1) refl

second_empty_lent : (s : Stores) (epoch : ℕ) → lent_for s (second epoch 0) before run.key ≡ true
unfolding opened fill lent_for lent_node slots_fit counts_fit lent_at held_row_store lent_fits sized well_formed_store every_below same_rows log_of firsts rows_of zipped play_rows play_rows_from
second_empty_lent s epoch = rw (s.long 0 0) refl

second_one_lent : (s : Stores) → lent_for s (second 1 1) after run.key ≡ true
unfolding opened fill lent_for lent_node slots_fit counts_fit lent_at held_row_store lent_fits sized well_formed_store every_below same_rows log_of firsts entry_of op_of rows_of zipped row_op play_rows play_rows_from
second_one_lent s = rw (s.long 0 1) refl

-- the slots stay as they are, and the stores are whole
first-slots : slots_fit (used (first (Some 100) 1 0 false)) ≡ true
unfolding opened fill slots_fit
first-slots = refl

second-slots : (epoch last : ℕ) → slots_fit (used (second epoch last)) ≡ true
unfolding opened fill slots_fit
second-slots epoch last = refl

empty-fits : (epoch : ℕ) → lent_fits (store_of before (get_or (second epoch 0).held 0 no_held_row)) ≡ true
unfolding opened fill lent_fits sized well_formed_store every_below same_rows log_of firsts rows_of zipped play_rows play_rows_from
empty-fits epoch = refl

one-fits : lent_fits (store_of after (get_or (second 1 1).held 0 no_held_row)) ≡ true
unfolding opened fill lent_fits sized well_formed_store every_below same_rows log_of firsts entry_of op_of rows_of zipped row_op play_rows play_rows_from
one-fits = refl

first_fits : lent_fits (store_of after (get_or (first (Some 100) 1 0 false).held 0 no_held_row)) ≡ true
unfolding opened fill lent_fits sized well_formed_store every_below same_rows log_of firsts entry_of op_of rows_of zipped row_op play_rows play_rows_from
first_fits = refl

-- ---- the Write

write-slot : (slot : ℕ) → WriteSlot (first (Some 100) 0 0 false) bytes slot → slot ≡ 0
unfolding opened fill slot_of
write-slot slot w = w (record { key = run.key; epoch = 1; op = wire_delete 41 }) refl

write-taken : (s : Stores)
    → record { answer = accepted; node = read_first (run.entry 1 1 41 ∷ []) (row 0 false) }
    ≡ answered_as write_word (calls.write_with (lent_for s (first (Some 100) 0 0 false) before) (read_first [] (row 0 false)) 5 1 bytes)
unfolding opened
write-taken s = rw (first_empty_lent s) refl

write_same : SameWrite (first (Some 100) 0 0 false) before after 5 1 bytes accepted (first (Some 100) 1 0 false)
write_same = λ s t slot w c.
    let z = write-slot slot w in
    ap (λ (x : held.Node). record { answer = accepted; node = x }) (first_one t false (log-one t slot z c.after) (vectors-one t slot z c.after))
    ∙ write-taken s
    ∙ ap (λ (x : held.Node). answered_as write_word (calls.write_with (lent_for s (first (Some 100) 0 0 false) before) x 5 1 bytes)) (sym (first-empty s))

abbrev pub wrote : WriteAnswer
wrote = record { answer = accepted; node = first (Some 100) 1 0 false; refused = 0 }

write-key : Whole (first (Some 100) 0 0 false) (first (Some 100) 1 0 false) after run.key
unfolding opened fill
write-key e = (fits-sized _ first_fits, fits-well _ first_fits)

write-whole : (k : Key) → WriteNames bytes k → Whole (first (Some 100) 0 0 false) (first (Some 100) 1 0 false) after k
unfolding opened
write-whole k named =
    subst (Whole (first (Some 100) 0 0 false) (first (Some 100) 1 0 false) after) (sym (named (record { key = run.key; epoch = 1; op = wire_delete 41 }) refl)) write-key

pub writes : WritesAt (first (Some 100) 0 0 false) before after 5 1 bytes 0 wrote
unfolding refused.counted
writes = record {
  same = write_same;
  kept = λ e. not_both false e refl;
  slots_are = refl;
  slots = λ e. first-slots;
  whole = λ e. write-whole;
  count = refl;
}

-- ---- the requests of node 1's worker

-- an output of a hundred bytes
abbrev pub output : List ℕ
output = fill 100 0

abbrev pub new_epoch : message.NewEpoch
new_epoch = record { key = run.key; epoch = 1; end = 0; table = []; metric = Euclidean }

abbrev pub align_bytes : List ℕ
align_bytes = message.encode_new_epoch new_epoch

abbrev pub lone : message.Replicated
lone = record { key = run.key; epoch = 1; offset = 1; op = wire_delete 41 }

abbrev pub entry_bytes : List ℕ
entry_bytes = message.encode_replicate lone

pub first_slot : (aligned : Bool) → slot_of (first (Some 100) 1 0 aligned) run.key ≡ 0
unfolding opened fill slot_of
first_slot aligned = refl

pub align_asked : (s : Stores) → calls.request_with (lent_for s (first (Some 100) 1 0 false) after) (read_first (run.entry 1 1 41 ∷ []) (row 0 false)) (length output) run.key 1 2 Euclidean
    ≡ calls.written align_bytes
unfolding opened fill
align_asked s = rw (first_one_lent s false) refl

pub entry-asked : (s : Stores) → calls.request_with (lent_for s (first (Some 100) 1 0 true) after) (read_first (run.entry 1 1 41 ∷ []) (row 0 true)) (length output) run.key 1 2 Euclidean
    ≡ calls.written entry_bytes
unfolding opened fill
entry-asked s = rw (first_one_lent s true) refl

module _ (aligned : Bool) (sends : List ℕ)
    (asked : (s : Stores) → calls.request_with (lent_for s (first (Some 100) 1 0 aligned) after) (read_first (run.entry 1 1 41 ∷ []) (row 0 aligned)) (length output) run.key 1 2 Euclidean
    ≡ calls.written sends) where
  pub requests : Requests (first (Some 100) 1 0 aligned) after run.key 1 2 Euclidean output (left_of (calls.written sends) output) (Q.Written (length sends))
  requests = record { answer = λ s c. ap answer_of (sym (said s c)); bytes = λ s c. ap (λ (a : calls.RequestAnswer). left_of a output) (sym (said s c)) }
    where
      said : (s : Stores) → Lends s (slot_of (first (Some 100) 1 0 aligned) run.key) after
          → calls.request_with (lent_for s (first (Some 100) 1 0 aligned) after) (view_node s (first (Some 100) 1 0 aligned)) (length output) run.key 1 2 Euclidean ≡ calls.written sends
      said s c =
          let z = first_slot aligned in
          ap (λ (x : held.Node). calls.request_with (lent_for s (first (Some 100) 1 0 aligned) after) x (length output) run.key 1 2 Euclidean)
          (first_one s aligned (log-one s _ z c) (vectors-one s _ z c)) ∙ asked s

-- ---- what node 2 hears

pub align_decoded : message.decode_new_epoch align_bytes ≡ some new_epoch
unfolding opened
align_decoded = refl

pub entry_decoded : message.decode_replicate entry_bytes ≡ some lone
unfolding opened
entry_decoded = refl

pub second-slot : (epoch last : ℕ) → slot_of (second epoch last) run.key ≡ 0
unfolding opened fill slot_of
second-slot epoch last = refl

-- a call of the alignment: the slots of the shard that it names, and its store
align_slot : (epoch last slot : ℕ) → NewEpochSlot (second epoch last) align_bytes slot → slot ≡ 0
align_slot epoch last slot w = w new_epoch align_decoded ∙ second-slot epoch last

align_slots : (epoch last offset : ℕ) → NewEpochSlots (second epoch last) align_bytes (R.Adopted (record { 0 = offset })) (second 1 last)
unfolding opened fill slots_then
align_slots epoch last offset k named =
    subst (λ (z : Key). slots_of (second 1 last) ≡ slots_then (second epoch last) z (R.Adopted (record { 0 = offset }))) (sym (named new_epoch align_decoded)) refl

-- the first one: node 2 is at epoch 0, and adopts
abbrev pub adopted : PeerAnswer
adopted = record { answer = R.Adopted (record { 0 = 0 }); node = second 1 0 }

adopts_empty : (s : Stores)
    → record { answer = R.Adopted (record { 0 = 0 }); node = read-second 1 [] } ≡ answered_as word (calls.new_epoch_with (lent_for s (second 0 0) before) (read-second 0 []) align_bytes)
unfolding opened
adopts_empty s = rw (second_empty_lent s 0) refl

empty-key : Whole (second 0 0) (second 1 0) before run.key
unfolding opened fill
empty-key e = (fits-sized _ (empty-fits 1), fits-well _ (empty-fits 1))

pub announces-first : NewEpochsAt (second 0 0) before before align_bytes adopted
announces-first = record {
  same = λ s t slot w c.
      ap (λ (x : held.Node). record { answer = R.Adopted (record { 0 = 0 }); node = x }) (second_empty t 1)
      ∙ adopts_empty s
      ∙ ap (λ (x : held.Node). answered_as word (calls.new_epoch_with (lent_for s (second 0 0) before) x align_bytes)) (sym (second_empty s 0));
  kept = λ e. not_both false e refl;
  slots_are = align_slots 0 0 0;
  slots = λ e. second-slots 1 0;
  whole = λ e k named. subst (Whole (second 0 0) (second 1 0) before) (sym (named new_epoch align_decoded)) empty-key;
}

-- the entry
abbrev pub stored : PeerAnswer
stored = record { answer = R.Stored (record { 0 = 1 }); node = second 1 1 }

stores_one : (s : Stores)
    → record { answer = R.Stored (record { 0 = 1 }); node = read-second 1 (run.entry 1 1 41 ∷ []) }
    ≡ answered_as word (calls.replicate_with (lent_for s (second 1 0) before) (read-second 1 []) entry_bytes)
unfolding opened
stores_one s = rw (second_empty_lent s 1) refl

stored-key : Whole (second 1 0) (second 1 1) after run.key
unfolding opened fill
stored-key e = (fits-sized _ one-fits, fits-well _ one-fits)

pub replicates : ReplicatesAt (second 1 0) before after entry_bytes stored
replicates = record {
  same = λ s t slot w c.
      let z = w lone entry_decoded ∙ second-slot 1 0 in
      ap (λ (x : held.Node). record { answer = R.Stored (record { 0 = 1 }); node = x }) (second-one t (log-one t slot z c.after) (vectors-one t slot z c.after))
      ∙ stores_one s
      ∙ ap (λ (x : held.Node). answered_as word (calls.replicate_with (lent_for s (second 1 0) before) x entry_bytes)) (sym (second_empty s 1));
  kept = λ e. not_both false e refl;
  slots_are = refl;
  slots = λ e. second-slots 1 1;
  whole = λ e k named. subst (Whole (second 1 0) (second 1 1) after) (sym (named lone entry_decoded)) stored-key;
}

-- the alignment once more, late: node 2 is at its epoch, and keeps the entry
abbrev pub kept : PeerAnswer
kept = record { answer = R.Adopted (record { 0 = 1 }); node = second 1 1 }

keeps-one : (s : Stores)
    → record { answer = R.Adopted (record { 0 = 1 }); node = read-second 1 (run.entry 1 1 41 ∷ []) }
    ≡ answered_as word (calls.new_epoch_with (lent_for s (second 1 1) after) (read-second 1 (run.entry 1 1 41 ∷ [])) align_bytes)
unfolding opened
keeps-one s = rw (second_one_lent s) refl

kept-key : Whole (second 1 1) (second 1 1) after run.key
unfolding opened fill
kept-key e = (fits-sized _ one-fits, fits-well _ one-fits)

pub announces-late : NewEpochsAt (second 1 1) after after align_bytes kept
announces-late = record {
  same = λ s t slot w c.
      let z = align_slot 1 1 slot w in
      ap (λ (x : held.Node). record { answer = R.Adopted (record { 0 = 1 }); node = x }) (second-one t (log-one t slot z c.after) (vectors-one t slot z c.after))
      ∙ keeps-one s
      ∙ ap (λ (x : held.Node). answered_as word (calls.new_epoch_with (lent_for s (second 1 1) after) x align_bytes))
      (sym (second-one s (log-one s slot z c.before) (vectors-one s slot z c.before)));
  kept = λ e. not_both false e refl;
  slots_are = align_slots 1 1 1;
  slots = λ e. second-slots 1 1;
  whole = λ e k named. subst (Whole (second 1 1) (second 1 1) after) (sym (named new_epoch align_decoded)) kept-key;
}
