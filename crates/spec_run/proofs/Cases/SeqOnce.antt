-- A run that loses a write because a proposal comes under the seq of its node's last one: the map answers it from memory, as applied, and
-- shrinks nobody, while the node takes the peer out of its ack set. The rule that forbids it is `Rules.fresh_seq`. Assumes nothing.
use mathlib.Core.Path.{refl}
use mathlib.Core.List.{List, [], ◌∷◌, ◌++◌}
use Rattle.spec_run.specs.State.{State}
use Rattle.spec_run.specs.Event.{Event, lease_granted, node_waits, request_arrives, reply_arrives, offer_arrives, outcome_arrives}
use Rattle.spec_run.specs.Step.{run}
use Rattle.spec_run.proofs.Created.{started}
use Rattle.spec_run.proofs.Cases.Opened.{opened}
use Rattle.spec_run.proofs.Cases.Lost.{BreaksOnce, Loses}
use Rattle.spec_run.proofs.Cases.Start.{start, created, deletes, works, wrote}

-- as in ShrinkExpand, node 2 is shrunk out and expanded again, under the seqs 1 and 2; then a second write, and a Shrink of node 2 is proposed
unfoldable pub before : List Event
before =
    lease_granted 1 4 0 10
    ∷ deletes 1 1 41
    ∷ node_waits 0 6 3
    ∷ node_waits 0 20 3
    ∷ offer_arrives 0 5 1
    ∷ outcome_arrives 0
    ∷ node_waits 0 21 3
    ∷ works 1 1 2
    ∷ request_arrives 1 2 0
    ∷ reply_arrives 0
    ∷ works 1 1 2
    ∷ request_arrives 1 2 0
    ∷ reply_arrives 0
    ∷ offer_arrives 0 6 2
    ∷ outcome_arrives 0
    ∷ deletes 1 1 42
    ∷ node_waits 1 22 3
    ∷ node_waits 1 40 3
    ∷ []

-- it comes under the seq 2 of the Expand, which was applied
unfoldable pub again : Event
again = offer_arrives 0 7 2

-- its outcome, and a wait that says done
unfoldable pub after : List Event
after = outcome_arrives 0 ∷ node_waits 1 41 3 ∷ []

unfoldable pub end : State
end = run start (before ++ (again ∷ after))

pub breaks_once : BreaksOnce start before again after
unfolding opened start started created before again after
breaks_once = record { first = refl; breaks = refl; then = refl }

pub loses : Loses end
unfolding opened start started created before again after end
loses = record { write = wrote 1 1 2 42; place = 1; acknowledged = refl; node = 2; in_sync_lem = refl; absent = refl }
