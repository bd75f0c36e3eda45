-- Request 2.5: a run in which a lone entry older than its primary's epoch is sent. With the worker as it is the entry keeps its epoch. With
-- the source's worker in its place the peer has it under the primary's epoch, in which no such Write was accepted. Assumes nothing.
use Prim.Native.Nat.{ℕ, zero, suc}
use mathlib.Core.Path.{◌≡◌, refl, sym, ap, ◌∙◌}
use mathlib.Core.Bool.{true}
use mathlib.Core.List.{List, [], ◌∷◌, ◌++◌}
use mathlib.Core.Option.{some}
use native.Mathlib.Omega.{arith}
use Rattle.spec.specs.Lists.{nth}
use Rattle.spec.specs.Log.{entry_at}
use Rattle.spec.specs.declared.Metric.TheVariants.{Euclidean}
use Rattle.spec_laws.proofs.Lists.{some_same, nth-nil}
use Rattle.spec_run.specs.State.{State, Write}
use Rattle.spec_run.specs.Event.{Event, map_shown, lease_granted, request_arrives, reply_arrives}
use Rattle.spec_run.specs.Step.{posted, run}
use Rattle.spec_run.specs.Rules.{allowed_run}
use Rattle.spec_run.specs.Claim.{log_of, Written}
use Rattle.spec_run.specs.Source.{source_request}
use Rattle.spec_run.proofs.Created.{started}
use Rattle.spec_run.proofs.Cases.Opened.{opened}
use Rattle.spec_run.proofs.Cases.Start.{start, created, key, deletes, works, promotes, wrote, entry}

-- node 1 is promoted again, accepts a Write at epoch 1 before it is shown so, then aligns node 2 at epoch 2
unfoldable pub before : List Event
before =
    lease_granted 1 4 0 10
    ∷ promotes 4 1 1
    ∷ deletes 1 1 41
    ∷ map_shown 1 0
    ∷ works 1 2 2
    ∷ request_arrives 1 2 0
    ∷ reply_arrives 0
    ∷ []

-- its entry goes to node 2
unfoldable pub events : List Event
events = before ++ (works 1 2 2 ∷ request_arrives 1 2 0 ∷ [])

unfoldable pub end : State
end = run start events

pub may_happen : allowed_run start events ≡ true
unfolding opened start started created before events
may_happen = refl

-- both have it under the epoch in which it was accepted
pub sent : log_of (end.nodes 1) key ≡ entry 1 1 41 ∷ []
unfolding opened start started created before events end
sent = refl

pub stored : log_of (end.nodes 2) key ≡ entry 1 1 41 ∷ []
unfolding opened start started created before events end
stored = refl

-- ---- the source's worker

-- the same run, but that the last step is the source's
unfoldable pub changed : State
changed =
    let s = run start before in
    run (posted s 1 key 2 2 (source_request (s.nodes 1) 1000 key 2 2 Euclidean)) (request_arrives 1 2 0 ∷ [])

pub accepted : changed.accepted ≡ wrote 1 1 1 41 ∷ []
unfolding opened start started created before changed
accepted = refl

pub stored-newer : entry_at (log_of (changed.nodes 2) key) 1 ≡ some (entry 2 1 41)
unfolding opened start started created before changed
stored-newer = refl

-- of epoch 1 all that was accepted
only-first : (i : ℕ) (w : Write) → nth (wrote 1 1 1 41 ∷ []) i ≡ some w → w.epoch ≡ 1
unfolding nth
only-first zero w e = ap (λ (z : Write). z.epoch) (sym (some_same e))
only-first (suc i) w e = nth-nil i w e

pub not_written : Written changed → ⊥
not_written d =
    let o = d.entries key 2 1 (entry 2 1 41) stored-newer in
    let one = only-first o.place o.write (ap (λ (l : List Write). nth l o.place) (sym accepted) ∙ o.found) in
    let two = o.epoch in
    omega arith
