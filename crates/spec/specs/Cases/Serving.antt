-- Paper 01, 'The node' and 'Who is turned down' (node.rs): one primary with three peers, and what each call answers and leaves of it. That
-- every row holds is computed in proofs/Cases/Serving.antt. Definitions only.
use Rattle.std.specs.Prelude.{ℕ, Bool, true, false, List, [], ◌∷◌, replicate}
use Rattle.std.proofs.Math.Option.{none}
use Rattle.std.specs.Float.{binary32}
use Rattle.std.specs.Float.Ieee.{of_bits}
use Rattle.spec.specs.Refusals.{not_primary, no_lease, too_few_in_sync, no_room, no_worker}
use Rattle.spec.specs.Log.{empty_replica}
use Rattle.spec.specs.Layout.Message.{Reply, reply_stored, reply_gap, reply_stale, reply_adopted}
use Rattle.spec.specs.Node.Held.{Held, Node}
use Rattle.spec.specs.Node.Client.{WriteAnswer, accepted, write_refused, SearchAnswer, found, search_refused, WaitAnswer, done, waiting}
use Rattle.spec.specs.Node.Ack.{AckAnswer, noted, expand, ack_refused, Sent, sent_align, sent_replicate, sent_copy, Proposal, shrink, grow}
use Rattle.spec.specs.Node.Worker.{Step, stop, wait, align, send}
use Rattle.spec.specs.Node.Shown.{Worker}
use Rattle.spec.specs.Starred.{entries_of, floats}
use Rattle.spec.specs.declared.Metric.TheVariants.{Euclidean, Angular}
use Rattle.spec.specs.declared.Peer.{Peer}
use Rattle.spec.specs.declared.Role.{Role}
use Rattle.spec.specs.declared.Role.TheVariants.{Backup, Primary}
use Rattle.spec.specs.Cases.Commands.{on, id, part}

-- ---- the primary

-- a peer that is not behind
abbrev pub peer : (node acked : ℕ) → (aligned proposing member : Bool) → Peer
peer n a l p m = record {
  node = record { 0 = n };
  acked = record { 0 = a };
  aligned = l;
  behind = false;
  since = 0;
  proposing = p;
  member = m;
}

-- a member of the ack set that has acked 2 and is behind since a time
abbrev pub late : (since : ℕ) → (proposing : Bool) → Peer
late t p = record {
  node = record { 0 = 2 };
  acked = record { 0 = 2 };
  aligned = true;
  behind = true;
  since = t;
  proposing = p;
  member = true;
}

-- node 1 leads at epoch 3, which began with two entries; its log has entries of epochs 1, 1 and 3. Nodes 2, 4, 5 and 6 hold the shard too
abbrev pub leading : Role → (own : Bool) → List Peer → Held
leading role own ps = record {
  key = part 0;
  replica = record { epoch = 3; metric = Euclidean; log = entries_of 1 (1 ∷ 1 ∷ 3 ∷ []); vectors = [] };
  holders = on 1 1 ∷ on 2 1 ∷ on 4 1 ∷ on 5 1 ∷ on 6 1 ∷ [];
  role = role;
  own = own;
  peers = ps;
}

-- at epoch 3
abbrev pub third : Role
third = Primary (record { 0 = 3 }) (record { 0 = 2 })

-- 2 has all and is in the ack set, 4 lacks two entries, 5 is not aligned; 6 has no worker yet
abbrev pub rows : List Peer
rows = peer 2 3 true false true ∷ peer 4 1 true false false ∷ peer 5 0 false false false ∷ []

-- that primary
abbrev pub primary : Held
primary = leading third true rows

-- ---- Write: 18, 19, 20 in that order; 17 and 23 are beside it

-- whether there is a lease, min_in_sync, the epoch, and the answer
pub record WriteRow : Type 0 where
  pub lease : Bool
  pub least : ℕ
  pub epoch : ℕ
  pub answer : WriteAnswer

-- a row
abbrev pub writes : (lease : Bool) → (least epoch : ℕ) → WriteAnswer → WriteRow
writes l m e a = record { lease = l; least = m; epoch = e; answer = a }

-- two are in the ack set: node 2 and the node itself
abbrev pub writing : List WriteRow
writing =
    writes true 2 3 (accepted 4)
    ∷ writes true 3 3 (write_refused too_few_in_sync)
    ∷ writes false 3 3 (write_refused no_lease)
    ∷ writes false 3 2 (write_refused (not_primary 3))
    ∷ writes true 2 4 (write_refused (not_primary 3))
    ∷ []

-- ---- Search: 18, 19, then 23

-- the same primary with one vector
abbrev pub finder : Held
finder = record {
  key = part 0;
  replica = record {
    epoch = 3;
    metric = Euclidean;
    log = [];
    vectors = record { id = 7; components = floats (0x3F800000 ∷ []) } ∷ [];
  };
  holders = [];
  role = third;
  own = true;
  peers = [];
}

-- whether there is a lease, the room of the output, the epoch, k, and the answer
pub record SearchRow : Type 0 where
  pub lease : Bool
  pub room : ℕ
  pub epoch : ℕ
  pub k : ℕ
  pub answer : SearchAnswer

-- a row
abbrev pub searches : (lease : Bool) → (room epoch k : ℕ) → SearchAnswer → SearchRow
searches l n e k a = record { lease = l; room = n; epoch = e; k = k; answer = a }

-- id 7 at distance 1, which is 3F800000
abbrev pub searching : List SearchRow
searching =
    searches true 1 3 5 (found (record { id = 7; distance = of_bits binary32 0x3F800000 } ∷ []))
    ∷ searches true 0 3 5 (search_refused no_room)
    ∷ searches true 0 3 0 (found [])
    ∷ searches false 0 3 5 (search_refused no_lease)
    ∷ searches false 0 2 5 (search_refused (not_primary 3))
    ∷ []

-- ---- waiting for acks

-- the peers, a time, a timeout, an offset; the answer, and the peers afterwards
pub record WaitRow : Type 0 where
  pub given : List Peer
  pub now : ℕ
  pub timeout : ℕ
  pub offset : ℕ
  pub answer : WaitAnswer
  pub left : List Peer

-- a member that lacks the last entry is behind from then on, for longer than the timeout a Shrink is proposed once; a clock that ran back
-- counts as no time
abbrev pub awaiting : List WaitRow
awaiting =
    record { given = rows; now = 100; timeout = 10; offset = 3; answer = done []; left = rows }
    ∷ record {
      given = peer 2 2 true false true ∷ [];
      now = 100;
      timeout = 10;
      offset = 2;
      answer = done [];
      left = late 100 false ∷ [];
    }
    ∷ record { given = late 90 false ∷ []; now = 100; timeout = 10; offset = 3; answer = waiting []; left = late 90 false ∷ [] }
    ∷ record {
      given = late 90 false ∷ [];
      now = 101;
      timeout = 10;
      offset = 3;
      answer = waiting (id 2 ∷ []);
      left = late 90 true ∷ [];
    }
    ∷ record { given = late 90 true ∷ []; now = 101; timeout = 10; offset = 3; answer = waiting []; left = late 90 true ∷ [] }
    ∷ record { given = late 90 false ∷ []; now = 50; timeout = 10; offset = 2; answer = done []; left = late 90 false ∷ [] }
    ∷ []

-- ---- Ack

-- the peers, who replies, to which step, what; the answer, and what is left
pub record AckRow : Type 0 where
  pub given : List Peer
  pub peer : ℕ
  pub sent : Sent
  pub reply : Reply
  pub answer : AckAnswer
  pub left : Held

-- the primary keeps leading, with those peers
abbrev pub acks : List Peer → ℕ → Sent → Reply → AckAnswer → List Peer → AckRow
acks ps n s r a left = record { given = ps; peer = n; sent = s; reply = r; answer = a; left = leading third true left }

-- a reply that changes nothing
abbrev pub idle : ℕ → Sent → Reply → AckAnswer → AckRow
idle n s r a = acks rows n s r a rows

-- only node 4, as it is after a reply
abbrev pub fourth : (acked : ℕ) → (joined : Bool) → List Peer
fourth a j = peer 4 a true j j ∷ []

-- node 4 before it: one entry acked
abbrev pub four : List Peer
four = fourth 1 false

-- only node 5, as it is after an alignment
abbrev pub fifth : (acked : ℕ) → (joined : Bool) → List Peer
fifth a j = peer 5 a true j j ∷ []

-- node 5 before it
abbrev pub five : List Peer
five = peer 5 0 false false false ∷ []

-- stepping down leaves nothing of the role
abbrev pub stepped_down : ℕ → Sent → AckRow
stepped_down n s = record { given = rows; peer = n; sent = s; reply = reply_stale 4; answer = noted; left = leading Backup false [] }

-- 'Ack': who catches up joins the ack set and is proposed; only an alignment is cut to the log's end and may lower an ack; a Gap counts as
-- the offset before it; a kind that the step does not get does nothing; 26 comes before StaleEpoch
abbrev pub acking : List AckRow
acking =
    acks four 4 sent_replicate (reply_stored 3) expand (fourth 3 true)
    ∷ acks four 4 sent_replicate (reply_stored 2) noted (fourth 2 false)
    ∷ acks four 4 sent_replicate (reply_stored 0) noted (fourth 1 false)
    ∷ acks four 4 sent_replicate (reply_gap 3) noted (fourth 2 false)
    ∷ acks four 4 sent_replicate (reply_gap 4) expand (fourth 3 true)
    ∷ acks four 4 sent_copy (reply_stored 9) expand (fourth 9 true)
    ∷ acks five 5 sent_align (reply_adopted 2) noted (fifth 2 false)
    ∷ acks five 5 sent_align (reply_adopted 9) expand (fifth 3 true)
    ∷ acks four 4 sent_align (reply_adopted 0) noted (fourth 0 false)
    ∷ acks (late 90 false ∷ []) 2 sent_replicate (reply_stored 3) noted
    (record {
      node = record { 0 = 2 };
      acked = record { 0 = 3 };
      aligned = true;
      behind = false;
      since = 90;
      proposing = false;
      member = true;
    }
    ∷ [])
    ∷ acks (peer 4 1 true true false ∷ []) 4 sent_replicate (reply_stored 3) noted (peer 4 3 true true false ∷ [])
    ∷ idle 4 sent_align (reply_stored 3) noted
    ∷ idle 4 sent_align (reply_gap 3) noted
    ∷ idle 4 sent_replicate (reply_adopted 3) noted
    ∷ idle 4 sent_copy (reply_adopted 3) noted
    ∷ idle 4 sent_copy (reply_gap 3) noted
    ∷ idle 7 sent_replicate (reply_stored 3) (ack_refused no_worker)
    ∷ idle 7 sent_replicate (reply_stale 9) (ack_refused no_worker)
    ∷ idle 4 sent_align (reply_stale 3) noted
    ∷ acks four 4 sent_replicate (reply_stale 3) noted (peer 4 1 false false false ∷ [])
    ∷ acks four 4 sent_copy (reply_stale 0) noted (peer 4 1 false false false ∷ [])
    ∷ stepped_down 4 sent_align
    ∷ stepped_down 4 sent_replicate
    ∷ stepped_down 2 sent_copy
    ∷ []

-- ---- the outcome of a proposal

-- what was proposed, whether it was applied, and node 2 afterwards
pub record OutcomeRow : Type 0 where
  pub what : Proposal
  pub applied : Bool
  pub left : List Peer

-- only a committed removal takes a member out; every outcome ends the proposal
abbrev pub settling : List OutcomeRow
settling =
    record {
      what = shrink;
      applied = true;
      left =
          record {
            node = record { 0 = 2 };
            acked = record { 0 = 2 };
            aligned = true;
            behind = false;
            since = 90;
            proposing = false;
            member = false;
          }
          ∷ [];
    }
    ∷ record { what = shrink; applied = false; left = late 90 false ∷ [] }
    ∷ record { what = grow; applied = true; left = late 90 false ∷ [] }
    ∷ record { what = grow; applied = false; left = late 90 false ∷ [] }
    ∷ []

-- ---- the worker's step

-- an epoch, a peer, and the step
pub record StepRow : Type 0 where
  pub epoch : ℕ
  pub peer : ℕ
  pub step : Step

-- a row
abbrev pub steps : (epoch peer : ℕ) → Step → StepRow
steps e n s = record { epoch = e; peer = n; step = s }

-- from the first entry that is not acked; a holder without a row is aligned first; no holder, or another epoch, ends the worker
abbrev pub stepping : List StepRow
stepping =
    steps 3 2 wait
    ∷ steps 3 4 (send 2 2 1)
    ∷ steps 3 5 align
    ∷ steps 3 6 align
    ∷ steps 3 7 stop
    ∷ steps 2 4 stop
    ∷ steps 4 4 stop
    ∷ []

-- a primary with 300 entries, and a peer that has acked 10 of them
abbrev pub longer : Held
longer = record {
  key = part 0;
  replica = record { epoch = 1; metric = Euclidean; log = entries_of 1 (replicate 300 1); vectors = [] };
  holders = on 4 1 ∷ [];
  role = Primary (record { 0 = 1 }) (record { 0 = 0 });
  own = true;
  peers = peer 4 10 true false false ∷ [];
}

-- ---- a map shown

-- what a node that has seen nothing is shown of the map of Commands, as node 2 at incarnation 5: the primary of its first shard, whose
-- other holder is not in sync, and a backup of its second
abbrev pub shown_two : Node
shown_two = record {
  id = 2;
  incarnation = 5;
  expiry = none;
  version = 17;
  held =
      record {
        key = part 0;
        replica = empty_replica 1 Angular;
        holders = on 2 5 ∷ on 1 4 ∷ [];
        role = Primary (record { 0 = 1 }) (record { 0 = 0 });
        own = true;
        peers = peer 1 0 false false false ∷ [];
      }
      ∷ record {
        key = part 1;
        replica = empty_replica 0 Angular;
        holders = on 4 7 ∷ on 2 5 ∷ on 4 7 ∷ [];
        role = Backup;
        own = false;
        peers = [];
      }
      ∷ [];
}

-- and as node 4 at incarnation 7: the primary of the second, with node 2 in sync
abbrev pub shown_four : Node
shown_four = record {
  id = 4;
  incarnation = 7;
  expiry = none;
  version = 17;
  held =
      record {
        key = part 1;
        replica = empty_replica 1 Angular;
        holders = on 4 7 ∷ on 2 5 ∷ on 4 7 ∷ [];
        role = Primary (record { 0 = 1 }) (record { 0 = 0 });
        own = true;
        peers = peer 2 0 false false true ∷ [];
      }
      ∷ [];
}

-- a worker of epoch 1 for a shard of 'c'
abbrev pub worker : (shard peer : ℕ) → Worker
worker s n = record { key = part s; peer = record { 0 = n }; epoch = 1; metric = Angular }

-- a node that was shown a later map
abbrev pub ahead : Node
ahead = record { id = 2; incarnation = 5; expiry = none; version = 18; held = [] }

-- a node that was shown a map of the same version
abbrev pub level : Node
level = record { id = 2; incarnation = 5; expiry = none; version = 17; held = [] }

-- a backup of the first shard, whose log has two entries: shown the map, it leads from there
abbrev pub logged : Role → Node
logged role = record {
  id = 2;
  incarnation = 5;
  expiry = none;
  version = 17;
  held =
      record {
        key = part 0;
        replica = record { epoch = 1; metric = Angular; log = entries_of 1 (1 ∷ 1 ∷ []); vectors = [] };
        holders = on 2 5 ∷ on 1 4 ∷ [];
        role = role;
        own = false;
        peers = [];
      }
      ∷ [];
}
