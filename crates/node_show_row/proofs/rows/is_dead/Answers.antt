use borrow.Author.Tests.{eq-eqb, ne_eqb}
use mathlib.Core.Path.{refl}
use Rattle.spec.specs.Lists.{◌and◌}
use Rattle.node_show_row.proofs.rows.is_dead.Goals as goal
use Rattle.node_show_row.proofs.rows.is_dead.Goals.{then-x-incarnation, else-x-incarnation}

pub returns-then-x-id : goal.returns-then-x-id
unfolding ◌and◌
returns-then-x-id c =
    elim c.if-x-incarnation.branch [
      | then-x-incarnation w ↦ rw (w.gone-is, eq-eqb _ _ c.if-x-id.true, eq-eqb _ _ w.if-x-incarnation.true) refl
      | else-x-incarnation w ↦ rw (w.gone-is, eq-eqb _ _ c.if-x-id.true, ne_eqb _ _ w.if-x-incarnation.false) refl
    ]

pub returns-else-x-id : goal.returns-else-x-id
unfolding ◌and◌
returns-else-x-id c = rw (ne_eqb _ _ c.if-x-id.false) refl
