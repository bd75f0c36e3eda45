-- A call at a node of a state is the definition's, or it is refused and leaves the node. Either way it is a run of `spec_run`: the event itself,
-- or one that does without the call. Assumes nothing.
use Prim.Native.Nat.{ℕ}
use mathlib.Core.Path.{◌≡◌, sym, ap, subst, ◌∙◌}
use mathlib.Core.Bool.{true}
use Rattle.spec.specs.Refusals.{Refusal}
use Rattle.spec.specs.Node.Held.{Node}
use Rattle.spec.specs.Node.Shards.{Result}
use Rattle.spec_run.specs.State.{State, set_node}
use Rattle.spec_run.specs.Event.{Event}
use Rattle.spec_run.specs.Rules.{allowed}
use Rattle.spec_run.specs.Step.{step}
use Rattle.thm_durable.proofs.Simulated.{Simulated, one}
use Rattle.thm_durable.proofs.Seen.{same-node}
use Rattle.thm_durable.proofs.Ways.{As, same, unlent}

module _ {A : Type 0} (refused : Refusal → A) (s : State) (n : ℕ) (y : Result A Node) (deed : A → State → State) (v : Event) (may : allowed s v ≡ true)
    (does : step s v ≡ deed y.answer (set_node s n y.after)) (without : (r : Refusal) → Simulated s (deed (refused r) s)) where
  -- the call x, which left the state t
  pub called : (t : State) (x : Result A Node) → As refused (s.nodes n) x y → t ≡ deed x.answer (set_node s n x.after) → Simulated s t
  called t x (same q) left = one s t v may (does ∙ sym (left ∙ ap (λ (z : Result A Node). deed z.answer (set_node s n z.after)) q))
  called t x (unlent r q) left =
      subst (Simulated s)
      (sym (left ∙ ap (λ (z : Result A Node). deed z.answer (set_node s n z.after)) q ∙ ap (deed (refused r)) (same-node s n)))
      (without r)

  -- the node stayed, and the host did as after a refusal
  pub turned_away : (t : State) (r : Refusal) → t ≡ deed (refused r) (set_node s n (s.nodes n)) → Simulated s t
  turned_away t r left = subst (Simulated s) (sym (left ∙ ap (deed (refused r)) (same-node s n))) (without r)
