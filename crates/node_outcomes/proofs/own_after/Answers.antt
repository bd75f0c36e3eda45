use mathlib.Core.Path.{refl}
use Rattle.spec.specs.Lists.{◌and◌}
use Rattle.node_outcomes.proofs.own_after.Goals as goal
use Rattle.node_outcomes.proofs.own_after.Goals.{then-left, else-left}

pub returns-after-left : goal.returns-after-left
unfolding ◌and◌
returns-after-left c =
    elim c.if-left.branch [
      | then-left w ↦ rw (w.result-is, c.if-own.true, w.if-left.true) refl
      | else-left w ↦ rw (w.result-is, c.if-own.true, w.if-left.false) refl
    ]

pub returns-else-own : goal.returns-else-own
unfolding ◌and◌
returns-else-own c = rw c.if-own.false refl
