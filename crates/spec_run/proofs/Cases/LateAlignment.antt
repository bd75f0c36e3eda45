-- Request 2.3: an alignment that comes late, after entries of its epoch were stored, and is kept by the replica's own epoch: once because two
-- requests changed their order, once because one came twice. With the source's alignment in its place the entry is cut from node 2, which is
-- in sync, and an acknowledged write is lost. Assumes nothing.
use Prim.Native.Nat.{ℕ}
use mathlib.Core.Path.{◌≡◌, refl}
use mathlib.Core.Bool.{true}
use mathlib.Core.List.{List, [], ◌∷◌, ◌++◌}
use mathlib.Core.Option.{Option, none, some}
use Rattle.spec.specs.Lists.{nth}
use Rattle.spec_run.specs.State.{State, Request, set_node, set_requests}
use Rattle.spec_run.specs.Event.{Event, lease_granted, node_waits, request_arrives, request_repeats, reply_arrives, reply_repeats}
use Rattle.spec_run.specs.Step.{removed, answered, run}
use Rattle.spec_run.specs.Rules.{allowed_run}
use Rattle.spec_run.specs.Claim.{in_sync_at, log_of}
use Rattle.spec_run.specs.Source.{source_new_epoch}
use Rattle.spec_run.proofs.Created.{started}
use Rattle.spec_run.proofs.Cases.Opened.{opened}
use Rattle.spec_run.proofs.Cases.Lost.{Loses}
use Rattle.spec_run.proofs.Cases.Start.{start, created, key, deletes, works, wrote, entry}

-- node 1 writes and asks node 2 twice to align; the second request arrives first and counts, and then the entry is sent and stored
unfoldable pub overtaken : List Event
overtaken =
    lease_granted 1 4 0 10
    ∷ deletes 1 1 41
    ∷ works 1 1 2
    ∷ works 1 1 2
    ∷ request_arrives 1 2 1
    ∷ reply_arrives 0
    ∷ works 1 1 2
    ∷ request_arrives 1 2 1
    ∷ []

-- node 1 asks once; the request is doubled, and a copy stays under way while the entry is stored
unfoldable pub repeated : List Event
repeated =
    lease_granted 1 4 0 10
    ∷ deletes 1 1 41
    ∷ works 1 1 2
    ∷ request_repeats 1 2 0
    ∷ request_arrives 1 2 0
    ∷ reply_arrives 0
    ∷ works 1 1 2
    ∷ request_arrives 1 2 1
    ∷ []

-- then the late one arrives; the reply to the entry comes twice and counts twice, and a wait says done
unfoldable pub rest : List Event
rest = reply_repeats 0 ∷ reply_arrives 0 ∷ reply_arrives 1 ∷ node_waits 0 6 3 ∷ []

unfoldable pub late : List Event
late = request_arrives 1 2 0 ∷ rest

-- ---- as the definitions are

unfoldable pub events_of : List Event → List Event
events_of before = before ++ late

pub overtaken-may : allowed_run start (events_of overtaken) ≡ true
unfolding opened start started created overtaken rest late events_of
overtaken-may = refl

pub repeated-may : allowed_run start (events_of repeated) ≡ true
unfolding opened start started created repeated rest late events_of
repeated-may = refl

pub overtaken-log : log_of ((run start (events_of overtaken)).nodes 2) key ≡ entry 1 1 41 ∷ []
unfolding opened start started created overtaken rest late events_of
overtaken-log = refl

pub repeated-log : log_of ((run start (events_of repeated)).nodes 2) key ≡ entry 1 1 41 ∷ []
unfolding opened start started created repeated rest late events_of
repeated-log = refl

pub overtaken_acknowledged : (run start (events_of overtaken)).acknowledged ≡ wrote 1 1 1 41 ∷ []
unfolding opened start started created overtaken rest late events_of
overtaken_acknowledged = refl

pub repeated_acknowledged : (run start (events_of repeated)).acknowledged ≡ wrote 1 1 1 41 ∷ []
unfolding opened start started created repeated rest late events_of
repeated_acknowledged = refl

pub overtaken_in_sync : in_sync_at (run start (events_of overtaken)).map key 2 ≡ true
unfolding opened start started created overtaken rest late events_of
overtaken_in_sync = refl

pub repeated_in_sync : in_sync_at (run start (events_of repeated)).map key 2 ≡ true
unfolding opened start started created repeated rest late events_of
repeated_in_sync = refl

-- ---- the source's alignment

-- a request that arrives, heard so
unfoldable pub aligns_at : State → Option Request → State
aligns_at s none = s
aligns_at s (some q) =
    let r = source_new_epoch (s.nodes 2) q.bytes in
    answered (set_requests (set_node s 2 r.after) 1 2 (removed (s.requests 1 2) 0)) 1 2 q r.answer

-- the same run, but that the late alignment is the source's
unfoldable pub changed : List Event → State
changed before = let s = run start before in run (aligns_at s (nth (s.requests 1 2) 0)) rest

pub overtaken_loses : Loses (changed overtaken)
unfolding opened start started created overtaken rest aligns_at changed
overtaken_loses = record { write = wrote 1 1 1 41; place = 0; acknowledged = refl; node = 2; in_sync_lem = refl; absent = refl }

pub repeated_loses : Loses (changed repeated)
unfolding opened start started created repeated rest aligns_at changed
repeated_loses = record { write = wrote 1 1 1 41; place = 0; acknowledged = refl; node = 2; in_sync_lem = refl; absent = refl }
