-- Every header has a worker's step, told or not: where the store is malformed the answer is 24, and the promise names the step all the same.
-- Assumes nothing.
use Prim.Native.Nat.{ℕ, ◌≤◌, ◌<◌}
use mathlib.Core.Path.{◌≡◌, refl, sym, ap, ◌∙◌}
use mathlib.Core.Bool.{true}
use mathlib.Core.List.{List}
use native.Mathlib.Omega.{arith}
use lib.Dec.{ltb}
use lib.ListN.{length, get_or, take}
use borrow.Author.Tests.{ltb-true, ltb-false}
use Rattle.spec.specs.Lists.{any, lead}
use Rattle.spec.specs.Keys.{Key}
use Rattle.spec.specs.Node.Shards.{leads_at, on_node}
use Rattle.node_shard.specs.declared.Held.{Held}
use Rattle.node_shard.specs.View.{others, no_peer}
use Rattle.node_shard.proofs.Formed.{formed-few}
use Rattle.node_admit.specs.declared.Step.{Step}
use Rattle.node_admit.specs.declared.Step.TheVariants as S
use Rattle.node_admit.specs.Steps.{step_from, Steps}
use Rattle.node_admit.proofs.StepLaws.{steps_not, steps-gone, steps-new, steps_align, steps_send}
use Rattle.node_header.specs.declared.HeldRow.{HeldRow}
use Rattle.node_header.specs.declared.Node.{Node}
use Rattle.node_header.specs.declared.StepAnswer.{StepAnswer}
use Rattle.node_header.specs.declared.StepAnswer.TheVariants as stepped
use Rattle.node_header.specs.View.{no_held_row}
use Rattle.node_header.specs.Formed.{formed_node}
use Rattle.node_header.specs.Answers.{StepsNode}
use Rattle.node_header.proofs.Lists.{by_case}
use Rattle.node_header.proofs.Formed.{formed-lent, header-few, shard-formed}
use Rattle.node_header.proofs.Calls.{step_malformed, step-absent, step-done}
use Rattle.node_lent.specs.Lend.{place_of}
use Rattle.image_header.specs.Image.{node_at}
use Rattle.image_header_check.specs.Rows.{Counts}
use Rattle.image_header_check.proofs.Rows.{counted, held_long, row_at, peers-is, peers_long}

record Stepping (x : Held) (epoch peer : ℕ) : Type 0 where
  word : Step
  is : Steps x epoch peer word

stepping : (x : Held) (epoch peer : ℕ) → x.count ≤ length x.peers → Stepping x epoch peer
stepping x epoch peer fits =
    by_case (leads_at x.role epoch)
    (λ a. by_case (any (on_node peer) (take x.holders x.replicas))
    (λ b. by_case (ltb at x.count)
    (λ c. by_case (get_or x.peers at no_peer).aligned
    (λ e. record { word = step_from (get_or x.peers at no_peer).acked.0 x.last; is = steps_send x epoch peer a b at fits refl (ltb-true at x.count c) e _ refl })
    (λ e. record { word = S.Align; is = steps_align x epoch peer a b at fits refl (ltb-true at x.count c) e }))
    (λ c. record { word = S.Align; is = steps-new x epoch peer a b at fits refl (ltb-false at x.count c) }))
    (λ b. record { word = S.Stop; is = steps-gone x epoch peer a b }))
    (λ a. record { word = S.Stop; is = steps_not x epoch peer a })
  where
    at : ℕ
    at = lead (others peer) (take x.count x.peers)

-- a step of the header
pub record Some (n : Node) (k : Key) (epoch peer : ℕ) : Type 0 where
  pub answer : StepAnswer
  pub is : StepsNode n k epoch peer answer

module _ (h : List ℕ) (long : 10288 ≤ length h) (k : Key) (epoch peer : ℕ) where
  abbrev n : Node
  n = node_at h

  abbrev at : ℕ
  at = place_of n k

  module _ (formed : formed_node n ≡ true) where
    counts : Counts h n.count
    counts = (long, header-few n formed, sym (counted h))

    inside : n.count ≤ length n.held
    inside = let l = held_long h in let f = header-few n formed in omega arith

    held-step : at < n.count → Some n k epoch peer
    held-step under =
        let x = get_or n.held at no_held_row in
        let few = formed-few x.held (shard-formed n formed inside at under no_held_row) in
        let wide : length x.held.peers ≡ 32 =
        ap (λ (y : HeldRow). length y.held.peers) (row_at h n.count counts at no_held_row under) ∙ ap length (peers-is h _) ∙ peers_long h _ in
        let g = stepping x.held epoch peer (omega arith) in
        record { answer = stepped.Stepped g.word; is = step-done n k epoch peer (λ z. sym formed ∙ formed-lent n z) inside at refl under g.word g.is }

  pub some_step : Some n k epoch peer
  some_step =
      by_case (formed_node n)
      (λ e.
      by_case (ltb at n.count)
      (λ u. held-step e (ltb-true at n.count u))
      (λ u. record { answer = stepped.Stepped S.Stop; is = step-absent n k epoch peer (λ z. sym e ∙ formed-lent n z) (inside e) at refl (ltb-false at n.count u) }))
      (λ e. record { answer = stepped.Refused 24; is = step_malformed n k epoch peer (λ z. sym e ∙ formed-lent n z) })
