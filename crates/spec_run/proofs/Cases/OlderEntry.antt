-- A run in which a lone entry older than its primary's epoch is sent. As CopyShard it keeps its own epoch, so that the next alignment
-- finds it; sent as Replicate, under the primary's epoch, it would be cut from a node that is in sync. Assumes nothing.
use Prim.Native.Nat.{ℕ}
use mathlib.Core.Path.{◌≡◌, refl}
use mathlib.Core.Bool.{Bool, true, false}
use mathlib.Core.List.{List, [], ◌∷◌}
use Rattle.spec_run.specs.State.{State}
use Rattle.spec_run.specs.Event.{Event, map_shown, lease_granted, node_waits, request_arrives, reply_arrives, offer_arrives, outcome_arrives}
use Rattle.spec_run.specs.Step.{run}
use Rattle.spec_run.specs.Rules.{allowed_run}
use Rattle.spec_run.specs.Claim.{log_of, in_sync_at}
use Rattle.spec_run.proofs.Created.{started}
use Rattle.spec_run.proofs.Cases.Opened.{opened}
use Rattle.spec_run.proofs.Cases.Start.{start, created, key, deletes, works, promotes, wrote, entry}

-- node 1 writes alone, node 2 shrunk out; promoted twice over, it sends node 2 its one entry in between, has it expanded, and aligns it again
unfoldable pub events : List Event
events =
    lease_granted 1 4 0 10
    ∷ deletes 1 1 41
    ∷ node_waits 0 6 3
    ∷ node_waits 0 20 3
    ∷ offer_arrives 0 5 1
    ∷ outcome_arrives 0
    ∷ node_waits 0 21 3
    ∷ promotes 4 1 1
    ∷ map_shown 1 0
    ∷ works 1 2 2
    ∷ request_arrives 1 2 0
    ∷ reply_arrives 0
    ∷ works 1 2 2
    ∷ request_arrives 1 2 0
    ∷ reply_arrives 0
    ∷ offer_arrives 0 7 2
    ∷ promotes 5 1 2
    ∷ map_shown 1 0
    ∷ works 1 3 2
    ∷ request_arrives 1 2 0
    ∷ []

unfoldable pub end : State
end = run start events

pub may_happen : allowed_run start events ≡ true
unfolding opened start started created events
may_happen = refl

pub acknowledged : end.acknowledged ≡ wrote 1 1 1 41 ∷ []
unfolding opened start started created end events
acknowledged = refl

pub in_sync_lem : in_sync_at end.map key 2 ≡ true
unfolding opened start started created end events
in_sync_lem = refl

pub log : log_of (end.nodes 2) key ≡ entry 1 1 41 ∷ []
unfolding opened start started created end events
log = refl
