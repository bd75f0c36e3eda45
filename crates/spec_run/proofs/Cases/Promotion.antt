-- A run in which writes are acknowledged across a promotion. Assumes nothing.
use Prim.Native.Nat.{ℕ}
use mathlib.Core.Path.{◌≡◌, refl}
use mathlib.Core.Bool.{Bool, true, false}
use mathlib.Core.List.{List, [], ◌∷◌}
use Rattle.spec_run.specs.State.{State}
use Rattle.spec_run.specs.Event.{Event, map_shown, lease_granted, node_waits, request_arrives, reply_arrives}
use Rattle.spec_run.specs.Step.{run}
use Rattle.spec_run.specs.Rules.{allowed_run}
use Rattle.spec_run.specs.Claim.{log_of, in_sync_at}
use Rattle.spec_run.proofs.Created.{started}
use Rattle.spec_run.proofs.Cases.Opened.{opened}
use Rattle.spec_run.proofs.Cases.Start.{start, created, key, deletes, works, promotes, wrote, entry}

-- node 1 writes, aligns node 2, sends it the entry and acknowledges; node 2 is promoted, is shown the map, and writes in its turn
unfoldable pub events : List Event
events =
    lease_granted 1 4 0 10
    ∷ deletes 1 1 41
    ∷ works 1 1 2
    ∷ request_arrives 1 2 0
    ∷ reply_arrives 0
    ∷ works 1 1 2
    ∷ request_arrives 1 2 0
    ∷ reply_arrives 0
    ∷ node_waits 0 6 3
    ∷ promotes 4 2 1
    ∷ map_shown 2 0
    ∷ lease_granted 2 4 0 10
    ∷ deletes 2 2 42
    ∷ node_waits 1 6 3
    ∷ []

unfoldable pub end : State
end = run start events

pub may_happen : allowed_run start events ≡ true
unfolding opened start started created events
may_happen = refl

pub acknowledged : end.acknowledged ≡ wrote 1 1 1 41 ∷ wrote 2 2 2 42 ∷ []
unfolding opened start started created end events
acknowledged = refl

pub in_sync_lem : in_sync_at end.map key 2 ≡ true
unfolding opened start started created end events
in_sync_lem = refl

pub deposed : in_sync_at end.map key 1 ≡ false
unfolding opened start started created end events
deposed = refl

pub log : log_of (end.nodes 2) key ≡ entry 1 1 41 ∷ entry 2 2 42 ∷ []
unfolding opened start started created end events
log = refl
