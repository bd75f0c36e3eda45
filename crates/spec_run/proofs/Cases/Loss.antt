-- A run with lost requests and replies, and a timeout whose proposal still arrives. Assumes nothing.
use Prim.Native.Nat.{ℕ}
use mathlib.Core.Path.{◌≡◌, refl}
use mathlib.Core.Bool.{Bool, true, false}
use mathlib.Core.List.{List, [], ◌∷◌}
use Rattle.spec_run.specs.State.{State}
use Rattle.spec_run.specs.Event.{Event, lease_granted, node_waits, request_arrives, request_lost, reply_arrives, reply_lost, offer_arrives, offer_times_out, outcome_arrives}
use Rattle.spec_run.specs.Step.{run}
use Rattle.spec_run.specs.Rules.{allowed_run}
use Rattle.spec_run.specs.Claim.{log_of, in_sync_at}
use Rattle.spec_run.proofs.Created.{started}
use Rattle.spec_run.proofs.Cases.Opened.{opened}
use Rattle.spec_run.proofs.Cases.Start.{start, created, key, deletes, works, promotes, wrote, entry}

-- the first alignment is lost, and the answer to the second; the proposal to shrink node 2 times out and is applied all the same, so that node 2 stays in the ack set; aligned at last, it gets the entry, and the write is acknowledged
unfoldable pub events : List Event
events =
    lease_granted 1 4 0 10
    ∷ deletes 1 1 41
    ∷ node_waits 0 6 3
    ∷ node_waits 0 20 3
    ∷ works 1 1 2
    ∷ request_lost 1 2 0
    ∷ works 1 1 2
    ∷ request_arrives 1 2 0
    ∷ reply_lost 0
    ∷ offer_times_out 0
    ∷ outcome_arrives 0
    ∷ offer_arrives 0 5 1
    ∷ works 1 1 2
    ∷ request_arrives 1 2 0
    ∷ reply_arrives 0
    ∷ works 1 1 2
    ∷ request_arrives 1 2 0
    ∷ reply_arrives 0
    ∷ node_waits 0 21 3
    ∷ []

unfoldable pub end : State
end = run start events

pub may_happen : allowed_run start events ≡ true
unfolding opened start started created events
may_happen = refl

pub acknowledged : end.acknowledged ≡ wrote 1 1 1 41 ∷ []
unfolding opened start started created end events
acknowledged = refl

pub shrunk_after_all : in_sync_at end.map key 2 ≡ false
unfolding opened start started created end events
shrunk_after_all = refl

pub log : log_of (end.nodes 2) key ≡ entry 1 1 41 ∷ []
unfolding opened start started created end events
log = refl
