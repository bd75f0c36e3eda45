-- A run that loses a write because a command is neither Promote nor a node's own proposal: somebody else expands a node that has not caught
-- up. The rule that forbids it is `Rules.promotes`. Assumes nothing.
use mathlib.Core.Path.{refl}
use mathlib.Core.List.{List, [], ◌∷◌, ◌++◌}
use Rattle.spec.specs.Layout.Request.{expand_in_sync}
use Rattle.spec_run.specs.State.{State}
use Rattle.spec_run.specs.Event.{Event, command, lease_granted, node_waits, offer_arrives, outcome_arrives}
use Rattle.spec_run.specs.Step.{run}
use Rattle.spec_run.proofs.Created.{started}
use Rattle.spec_run.proofs.Cases.Opened.{opened}
use Rattle.spec_run.proofs.Cases.Lost.{BreaksOnce, Loses}
use Rattle.spec_run.proofs.Cases.Start.{start, created, key, asks, deletes, wrote}

-- node 2 does not answer and is shrunk out; the write is acknowledged without it
unfoldable pub before : List Event
before =
    lease_granted 1 4 0 10
    ∷ deletes 1 1 41
    ∷ node_waits 0 6 3
    ∷ node_waits 0 20 3
    ∷ offer_arrives 0 5 1
    ∷ outcome_arrives 0
    ∷ node_waits 0 21 3
    ∷ []

-- an Expand of node 2 that no node proposed
unfoldable pub another : Event
another = command (asks 4 (expand_in_sync key 2 1))

unfoldable pub end : State
end = run start (before ++ (another ∷ []))

pub breaks_once : BreaksOnce start before another []
unfolding opened start started created before another
breaks_once = record { first = refl; breaks = refl; then = refl }

pub loses : Loses end
unfolding opened start started created before another end
loses = record { write = wrote 1 1 1 41; place = 0; acknowledged = refl; node = 2; in_sync_lem = refl; absent = refl }
