-- Request 2.13 in a run that the checker computes. Node 1 is primary and has written one entry that nobody else holds; it is cut off while
-- node 2 is promoted and writes another. Node 1 comes back: two rounds bring its log to node 2's, and one does not. Assumes nothing.
use Prim.Native.Nat.{ℕ}
use mathlib.Core.Path.{◌≡◌, refl, sym, ap, ◌∙◌, subst}
use mathlib.Core.Bool.{Bool, true, false, cond}
use mathlib.Core.List.{List, [], ◌∷◌}
use mathlib.Core.Option.{Option, none, some}
use Rattle.spec_run.specs.State.{State}
use Rattle.spec_run.specs.Event.{Event, lease_granted, map_shown, request_arrives, reply_arrives}
use Rattle.spec_run.specs.Step.{run}
use Rattle.spec_run.specs.Rules.{allowed_run}
use Rattle.spec_run.specs.Claim.{log_of}
use Rattle.spec_run.proofs.Created.{started}
use Rattle.spec_run.proofs.Cases.Opened.{opened}
use Rattle.spec_run.proofs.Cases.Start.{start, created, key, deletes, works, promotes, entry}

-- the cut: node 1 is shown no map, and none of its requests arrives
unfoldable pub cut : List Event
cut =
    lease_granted 1 4 0 10
    ∷ deletes 1 1 41
    ∷ promotes 4 2 1
    ∷ map_shown 2 0
    ∷ lease_granted 2 4 0 10
    ∷ deletes 2 2 42
    ∷ []

unfoldable pub back : State
back = run start cut

pub may_happen : allowed_run start cut ≡ true
unfolding opened start started created cut
may_happen = refl

-- node 1's own entry was never acknowledged
pub own : log_of (back.nodes 1) key ≡ entry 1 1 41 ∷ []
unfolding opened start started created cut back
own = refl

pub unacknowledged : back.acknowledged ≡ []
unfolding opened start started created cut back
unacknowledged = refl

pub primary's : log_of (back.nodes 2) key ≡ entry 2 1 42 ∷ []
unfolding opened start started created cut back
primary's = refl

-- one round: node 1's worker asks too, and is told that its epoch is stale; deliveries cross
unfoldable pub first : List Event
first = works 1 1 2 ∷ works 2 2 1 ∷ request_arrives 2 1 0 ∷ request_arrives 1 2 0 ∷ reply_arrives 1 ∷ reply_arrives 0 ∷ []

-- another, in which node 2's worker steps twice before anything arrives
unfoldable pub second : List Event
second = works 2 2 1 ∷ works 2 2 1 ∷ request_arrives 2 1 1 ∷ reply_arrives 0 ∷ request_arrives 2 1 0 ∷ reply_arrives 0 ∷ []

-- one round is not enough
pub aligned-only : log_of ((run back first).nodes 1) key ≡ []
unfolding opened start started created cut back first
aligned-only = refl

pub two_rounds : log_of ((run (run back first) second).nodes 1) key ≡ entry 2 1 42 ∷ []
unfolding opened start started created cut back first second
two_rounds = refl
