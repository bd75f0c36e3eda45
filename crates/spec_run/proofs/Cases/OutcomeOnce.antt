-- A run in which a node is shrunk out and expanded again, and its shrink's outcome, which has arrived, is looked for once more. Were it
-- still there, it would take the node out of the ack set while the map lists it in sync, and a write that it lacks would be acknowledged.
-- Assumes nothing.
use Prim.Native.Nat.{ℕ}
use mathlib.Core.Path.{◌≡◌, refl}
use mathlib.Core.Bool.{Bool, true, false}
use mathlib.Core.List.{List, [], ◌∷◌}
use Rattle.spec_run.specs.State.{State}
use Rattle.spec_run.specs.Event.{Event, lease_granted, node_waits, request_arrives, reply_arrives, offer_arrives, outcome_arrives}
use Rattle.spec_run.specs.Step.{run}
use Rattle.spec_run.specs.Rules.{allowed_run}
use Rattle.spec_run.specs.Claim.{log_of, in_sync_at}
use Rattle.spec_run.proofs.Created.{started}
use Rattle.spec_run.proofs.Cases.Opened.{opened}
use Rattle.spec_run.proofs.Cases.Start.{start, created, key, deletes, works, wrote, entry}

-- as in ShrinkExpand; then the outcome that is no longer under way, a second write, and a wait for it
unfoldable pub events : List Event
events =
    lease_granted 1 4 0 10
    ∷ deletes 1 1 41
    ∷ node_waits 0 6 3
    ∷ node_waits 0 20 3
    ∷ offer_arrives 0 5 1
    ∷ outcome_arrives 0
    ∷ node_waits 0 21 3
    ∷ works 1 1 2
    ∷ request_arrives 1 2 0
    ∷ reply_arrives 0
    ∷ works 1 1 2
    ∷ request_arrives 1 2 0
    ∷ reply_arrives 0
    ∷ offer_arrives 0 6 2
    ∷ outcome_arrives 0
    ∷ outcome_arrives 0
    ∷ deletes 1 1 42
    ∷ node_waits 1 22 3
    ∷ []

unfoldable pub end : State
end = run start events

pub may_happen : allowed_run start events ≡ true
unfolding opened start started created events
may_happen = refl

pub acknowledged : end.acknowledged ≡ wrote 1 1 1 41 ∷ []
unfolding opened start started created end events
acknowledged = refl

pub in_sync_lem : in_sync_at end.map key 2 ≡ true
unfolding opened start started created end events
in_sync_lem = refl

pub log : log_of (end.nodes 2) key ≡ entry 1 1 41 ∷ []
unfolding opened start started created end events
log = refl
