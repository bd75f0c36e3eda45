-- What each premise of request 2.13 is for, in runs that the checker computes: a reply that is lost, an Adopted from before the rounds, and a
-- primary that is not at the highest epoch. Assumes nothing.
use Prim.Native.Nat.{ℕ}
use mathlib.Core.Path.{◌≡◌, refl}
use mathlib.Core.Bool.{Bool, true, false}
use mathlib.Core.List.{List, [], ◌∷◌, map}
use mathlib.Core.Option.{Option, none, some}
use Rattle.spec.specs.Node.Held.{Held}
use Rattle.spec.specs.Node.Shards.{held_shard}
use Rattle.spec.specs.Node.Worker.{Step, stop, wait, send, on_step}
use Rattle.spec.specs.declared.Peer.{Peer}
use Rattle.spec_run.specs.State.{State}
use Rattle.spec_run.specs.Event.{Event, lease_granted, request_arrives, reply_arrives, reply_lost}
use Rattle.spec_run.specs.Step.{run}
use Rattle.spec_run.specs.Rules.{allowed_run}
use Rattle.spec_run.specs.Claim.{log_of}
use Rattle.spec_run.proofs.Created.{started}
use Rattle.spec_run.proofs.Cases.Opened.{opened}
use Rattle.spec_run.proofs.Cases.Start.{start, created, key, deletes, works, entry}
use Rattle.thm_rounds.proofs.Returns.{cut, back}

-- one exchange of node n with p at an epoch
abbrev exchange : (n epoch p : ℕ) → List Event
exchange n e p = works n e p ∷ request_arrives n p 0 ∷ reply_arrives 0 ∷ []

-- ---- a lost reply costs a round

unfoldable pub lossy : List Event
lossy = works 2 2 1 ∷ request_arrives 2 1 0 ∷ reply_lost 0 ∷ []

-- the Adopted is lost: in the second round node 1 is asked to align once more, and has no entry
pub lost-reply : log_of ((run (run back lossy) (exchange 2 2 1)).nodes 1) key ≡ []
unfolding opened start started created cut back lossy
lost-reply = refl

-- ---- an Adopted from before the rounds

-- node 1 has written one entry and asks node 2 twice to align; both are adopted, and only the first answer has counted
unfoldable pub old : List Event
old =
    lease_granted 1 4 0 10
    ∷ deletes 1 1 41
    ∷ works 1 1 2
    ∷ works 1 1 2
    ∷ request_arrives 1 2 0
    ∷ request_arrives 1 2 0
    ∷ reply_arrives 0
    ∷ []

pub old-may : allowed_run start old ≡ true
unfolding opened start started created old
old-may = refl

-- a round in which its own answer counts, and the old one stays under way
unfoldable pub sent : State
sent = run (run start old) (works 1 1 2 ∷ request_arrives 1 2 0 ∷ reply_arrives 1 ∷ [])

-- nothing is left to send
pub all-sent : on_step (sent.nodes 1) key 1 2 ≡ wait
unfolding opened start started created old sent
all-sent = refl

-- then the old one counts, which takes the ack back: the worker sends the same entry again, and the round was for nothing
pub sent-again : on_step ((run sent (reply_arrives 0 ∷ [])).nodes 1) key 1 2 ≡ send 1 1 1
unfolding opened start started created old sent
sent-again = refl

-- ---- a primary that is not at the highest epoch

-- node 1 still leads at epoch 1, and node 2 is at epoch 2
unfoldable pub deposed : State
deposed = run back (exchange 1 1 2)

-- it leaves; node 2's log is its own, and no worker of node 1 sends anything any more
pub not_caught : log_of (deposed.nodes 2) key ≡ entry 2 1 42 ∷ []
unfolding opened start started created cut back deposed
not_caught = refl

pub own-log : log_of (deposed.nodes 1) key ≡ entry 1 1 41 ∷ []
unfolding opened start started created cut back deposed
own-log = refl

pub left : on_step (deposed.nodes 1) key 1 2 ≡ stop
unfolding opened start started created cut back deposed
left = refl
