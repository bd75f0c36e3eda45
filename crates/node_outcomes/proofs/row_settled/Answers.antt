use mathlib.Core.Path.{refl}
use Rattle.spec.specs.Lists.{◌and◌}
use Rattle.spec.specs.Node.Ack.{settled_row}
use Rattle.node_outcomes.proofs.row_settled.Goals as goal
use Rattle.node_outcomes.proofs.row_settled.Goals.{then-p, else-p}

pub returns-then-p-2 : goal.returns-then-p-2
unfolding ◌and◌ settled_row
returns-then-p-2 c =
    elim c.if-p.branch [
      | then-p w ↦ rw (w.q-is, w.if-p.true, c.if-p-2.true) refl
      | else-p w ↦ rw (w.q-is, w.if-p.false, c.if-p-2.true) refl
    ]

pub returns-else-p-2 : goal.returns-else-p-2
unfolding ◌and◌ settled_row
returns-else-p-2 c =
    elim c.if-p.branch [
      | then-p w ↦ rw (w.q-is, w.if-p.true, c.if-p-2.false) refl
      | else-p w ↦ rw (w.q-is, w.if-p.false, c.if-p-2.false) refl
    ]
