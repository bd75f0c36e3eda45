-- A run in which a member is shrunk out of the in_sync_lem set and expanded into it again. Assumes nothing.
use Prim.Native.Nat.{ℕ}
use mathlib.Core.Path.{◌≡◌, refl}
use mathlib.Core.Bool.{Bool, true, false}
use mathlib.Core.List.{List, [], ◌∷◌}
use lib.ListN.{take}
use Rattle.spec_run.specs.State.{State}
use Rattle.spec_run.specs.Event.{Event, lease_granted, node_waits, request_arrives, reply_arrives, offer_arrives, outcome_arrives}
use Rattle.spec_run.specs.Step.{run}
use Rattle.spec_run.specs.Rules.{allowed_run}
use Rattle.spec_run.specs.Claim.{log_of, in_sync_at}
use Rattle.spec_run.proofs.Created.{started}
use Rattle.spec_run.proofs.Cases.Opened.{opened}
use Rattle.spec_run.proofs.Cases.Start.{start, created, key, deletes, works, promotes, wrote, entry}

-- node 2 does not answer: a wait finds it behind, a later one proposes to shrink it, and with the outcome the write is acknowledged; then node 2 is aligned, catches up, and is expanded
unfoldable pub events : List Event
events =
    lease_granted 1 4 0 10
    ∷ deletes 1 1 41
    ∷ node_waits 0 6 3
    ∷ node_waits 0 20 3
    ∷ offer_arrives 0 5 1
    ∷ outcome_arrives 0
    ∷ node_waits 0 21 3
    ∷ works 1 1 2
    ∷ request_arrives 1 2 0
    ∷ reply_arrives 0
    ∷ works 1 1 2
    ∷ request_arrives 1 2 0
    ∷ reply_arrives 0
    ∷ offer_arrives 0 6 2
    ∷ []

unfoldable pub end : State
end = run start events

pub may_happen : allowed_run start events ≡ true
unfolding opened start started created events
may_happen = refl

pub acknowledged : end.acknowledged ≡ wrote 1 1 1 41 ∷ []
unfolding opened start started created end events
acknowledged = refl

pub shrunk : in_sync_at (run start (take 5 events)).map key 2 ≡ false
unfolding opened start started created end events
shrunk = refl

pub expanded : in_sync_at end.map key 2 ≡ true
unfolding opened start started created end events
expanded = refl

pub log : log_of (end.nodes 2) key ≡ entry 1 1 41 ∷ []
unfolding opened start started created end events
log = refl
