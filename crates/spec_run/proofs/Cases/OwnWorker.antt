-- A run with a worker's step that is for the node itself. Node 1 is deposed when the request arrives, and still at the epoch that it led: since
-- request 2.3 its own alignment cuts nothing (before, it cut what node 1 wrote in that epoch). No worker is ever started for the node itself;
-- the rules do without that, and allow the run. Assumes nothing.
use mathlib.Core.Path.{◌≡◌, refl}
use mathlib.Core.Bool.{true, false}
use mathlib.Core.List.{List, [], ◌∷◌, ◌++◌}
use Rattle.spec_run.specs.State.{State}
use Rattle.spec_run.specs.Event.{Event, map_shown, lease_granted, node_waits, request_arrives, reply_arrives}
use Rattle.spec_run.specs.Step.{run}
use Rattle.spec_run.specs.Rules.{allowed_run}
use Rattle.spec_run.specs.Claim.{in_sync_at, log_of}
use Rattle.spec_run.proofs.Created.{started}
use Rattle.spec_run.proofs.Cases.Opened.{opened}
use Rattle.spec_run.proofs.Cases.Start.{start, created, key, deletes, works, promotes, entry}

-- node 1 writes, aligns node 2, sends it the entry and acknowledges
unfoldable pub before : List Event
before =
    lease_granted 1 4 0 10
    ∷ deletes 1 1 41
    ∷ works 1 1 2
    ∷ request_arrives 1 2 0
    ∷ reply_arrives 0
    ∷ works 1 1 2
    ∷ request_arrives 1 2 0
    ∷ reply_arrives 0
    ∷ node_waits 0 6 3
    ∷ []

-- a step of node 1 for node 1
unfoldable pub own : Event
own = works 1 1 1

-- node 2 is promoted, node 1 learns of it, and its request to itself arrives
unfoldable pub after : List Event
after = promotes 4 2 1 ∷ map_shown 1 0 ∷ request_arrives 1 1 0 ∷ []

unfoldable pub end : State
end = run start (before ++ (own ∷ after))

pub may : allowed_run start (before ++ (own ∷ after)) ≡ true
unfolding opened start started created before own after
may = refl

pub uncut : log_of (end.nodes 1) key ≡ entry 1 1 41 ∷ []
unfolding opened start started created before own after end
uncut = refl

pub out_of_sync : in_sync_at end.map key 1 ≡ false
unfolding opened start started created before own after end
out_of_sync = refl

pub log : log_of (end.nodes 2) key ≡ entry 1 1 41 ∷ []
unfolding opened start started created before own after end
log = refl
