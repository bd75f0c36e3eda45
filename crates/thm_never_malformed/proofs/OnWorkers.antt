-- The step of a worker over intact images, which it leaves: it does not answer 24. Assumes nothing.
use Prim.Native.Nat.{ℕ}
use mathlib.Core.Path.{◌≡◌, refl, sym, ap, ◌∙◌}
use mathlib.Core.Bool.{Bool, cond}
use mathlib.Core.List.{List}
use native.Mathlib.Omega.{arith}
use lib.Dec.{eqb, leb}
use lib.ListN.{length, get_or}
use borrow.Author.Tests.{eqb-false}
use Rattle.spec_laws.proofs.Lists.{by-test}
use Rattle.node_admit.specs.declared.Step.TheVariants as step
use Rattle.node_header.specs.declared.Node.{Node}
use Rattle.node_header.specs.declared.StepAnswer.{StepAnswer}
use Rattle.node_header.specs.declared.StepAnswer.TheVariants as T
use Rattle.node_header.specs.View.{view_node}
use Rattle.node_header.specs.Formed.{lent_node}
use Rattle.node_header.proofs.Lists.{by_case}
use Rattle.node_send.specs.declared.Request.{Request}
use Rattle.node_send.specs.declared.Request.TheVariants as R
use Rattle.image_header.specs.Image.{node_at}
use Rattle.node_lent.specs.Lend.{slot_of, lent_for}
use Rattle.image_node.specs.Lent.{lent_store_in}
use Rattle.image_node.specs.State.{stores_in, state_at}
use Rattle.image_node.proofs.Family.{lent_in, lent_changes}
use Rattle.calls_worker.specs.Steps as steps
use Rattle.calls_worker.specs.Steps.{Asking, decodes, key_of, metric_of, sent_number, quiet_number, Outputs, StepsImage}
use Rattle.thm_never_malformed.specs.Intact.{Intact}
use Rattle.thm_never_malformed.proofs.Lent.{lent-node, lends, lent_for_lem}
use Rattle.thm_never_malformed.proofs.Refused.{Fine, step_number, request_number, step-fine, request-fine}

-- a step that sends is no refusal
sent-fine : (code : ℕ) → Fine (sent_number code)
sent-fine code =
    by-test Fine (eqb code 0x21) {x = 2} {y = cond (eqb code 0x20) 3 4} (λ e. refl) (λ e. by-test Fine (eqb code 0x20) {x = 3} {y = 4} (λ d. refl) (λ d. refl))

quiet_fine : (x : StepAnswer) → Fine (step_number x) → Fine (quiet_number x)
quiet_fine (T.Stepped step.Stop) f = refl
quiet_fine (T.Stepped step.Wait) f = refl
quiet_fine (T.Stepped step.Align) f = refl
quiet_fine (T.Stepped (step.Send first count)) f = refl
quiet_fine (T.Refused k) f = f

told-fine : (x : StepAnswer) (q : Request) (out : List ℕ) → Fine (step_number x) → Fine (request_number q) → Fine (steps.step_number x q out)
told-fine x R.Unsent out f g = quiet_fine x f
told-fine x (R.Written n) out f g = sent-fine (get_or out 0 0)
told-fine x (R.Refused k) out f g = g

module _ (h s : List ℕ) (i : Intact h s) (w : Asking) (o p : Outputs) (r : ℕ) where
  abbrev n : Node
  n = node_at h

  pub on_step_lem : StepsImage h s w o p r → r ≡ 24 → ⊥
  on_step_lem c z =
      let k = key_of w in
      by_case (decodes w)
      (λ e.
      let a = c.asked e (lends h s i k) in
      by_case (leb 8 (length o.answer))
      (λ d.
      let t = a.told d in
      let x = lent_in (stores_in s) (slot_of n k) (lent_store_in s n k) in
      let f : Fine (step_number t.step) =
      ap (λ (y : StepAnswer). eqb (step_number y) 24) (t.steps (stores_in s))
      ∙ step-fine (state_at h s) (λ y. lent_node (stores_in s) n) k (lent-node h s i (stores_in s)) w.epoch w.peer in
      let g : Fine (request_number t.sent) =
      ap (λ (y : Request). eqb (request_number y) 24) (t.requests.answer x (lent_changes (stores_in s) (slot_of n k) (lent_store_in s n k) (lent_store_in s n k)).before)
      ∙ request-fine (view_node x n) (lent_for x n (lent_store_in s n k)) k (lent_for_lem h s i x k) w.epoch w.peer (length o.request) (metric_of w.metric) in
      eqb-false _ 24 (told-fine t.step t.sent p.request f g) (sym t.number ∙ z))
      (λ d.
      let t = (a.short d).answer (stores_in s) ∙ ap (λ (b : Bool). cond b 23 24) (lent_for_lem h s i (stores_in s) k) in
      absurd (omega arith)))
      (λ e. let t = (c.undecoded e).answer in absurd (omega arith))
