-- How a computed run shows that a rule carries weight: one event breaks it, every other event of the run may happen, and at the end a node
-- that the map lists in sync lacks an acknowledged write. Assumes nothing.
use Prim.Native.Nat.{ℕ}
use mathlib.Core.Path.{◌≡◌, sym, ◌∙◌}
use mathlib.Core.Bool.{true, false}
use mathlib.Core.List.{List}
use mathlib.Core.Option.{none, some}
use Rattle.spec.specs.Lists.{nth}
use Rattle.spec.specs.Log.{entry_at}
use Rattle.spec_laws.proofs.Lists.{none_some}
use Rattle.spec_run.specs.State.{State, Write}
use Rattle.spec_run.specs.Event.{Event}
use Rattle.spec_run.specs.Step.{step, run}
use Rattle.spec_run.specs.Rules.{allowed, allowed_run}
use Rattle.spec_run.specs.Claim.{in_sync_at, log_of, Durable}

-- a run in three parts: all but the event in the middle may happen
pub record BreaksOnce (s : State) (before : List Event) (event : Event) (after : List Event) : Type 0 where
  pub first : allowed_run s before ≡ true
  pub breaks : allowed (run s before) event ≡ false
  pub then : allowed_run (step (run s before) event) after ≡ true

-- a write that is acknowledged, and a node in sync whose log does not have it
pub record Loses (s : State) : Type 0 where
  pub write : Write
  pub place : ℕ
  pub acknowledged : nth s.acknowledged place ≡ some write
  pub node : ℕ
  pub in_sync_lem : in_sync_at s.map write.key node ≡ true
  pub absent : entry_at (log_of (s.nodes node) write.key) write.offset ≡ none

-- so demand 3 does not hold of it
pub not_durable : (s : State) → Loses s → Durable s → ⊥
not_durable s l d =
    let t = d.stands l.write l.place l.acknowledged l.node l.in_sync_lem in
    none_some (sym l.absent ∙ t.found)
