-- A call of a node is the definition's, or it is refused and does nothing. Either way it is a run of `spec_run`: the event itself, or one that
-- does without the call. Assumes nothing.
use Prim.Native.Nat.{ℕ}
use mathlib.Core.Path.{◌≡◌, sym, ap, subst, ◌∙◌}
use mathlib.Core.Bool.{true}
use Rattle.spec.specs.Refusals.{Refusal}
use Rattle.spec.specs.Node.Held.{Node}
use Rattle.spec.specs.Node.Shards.{Result, gives}
use Rattle.spec_run.specs.State.{State, set_node}
use Rattle.spec_run.specs.Event.{Event}
use Rattle.spec_run.specs.Rules.{allowed}
use Rattle.spec_run.specs.Step.{step}
use Rattle.thm_durable.specs.Engine.{Engine, seen}
use Rattle.thm_durable.proofs.Simulated.{Simulated, one}
use Rattle.thm_durable.proofs.Seen.{same-node}

-- what the call x gives, beside the definition's y, at a node v
pub data As {A : Type 0} (refused : Refusal → A) (v : Node) (x y : Result A Node) : Type 0 where
  same : x ≡ y → As refused v x y
  unlent : (r : Refusal) → x ≡ gives (refused r) v → As refused v x y

-- the call x at the node n, and what the host does with its answer
module _ {A : Type 0} (refused : Refusal → A) (e f : Engine) (n : ℕ) (x y : Result A Node) (deed : A → State → State)
    (left : seen f ≡ deed x.answer (set_node (seen e) n x.after)) where
  abbrev after : Result A Node → State
  after z = deed z.answer (set_node (seen e) n z.after)

  pub called : As refused ((seen e).nodes n) x y → (v : Event) → allowed (seen e) v ≡ true → step (seen e) v ≡ after y
      → ((r : Refusal) → Simulated (seen e) (deed (refused r) (seen e))) → Simulated (seen e) (seen f)
  called (same q) v may does without = one (seen e) (seen f) v may (does ∙ sym (left ∙ ap after q))
  called (unlent r q) v may does without =
      subst (Simulated (seen e)) (sym (left ∙ ap after q ∙ ap (deed (refused r)) (same-node (seen e) n))) (without r)
