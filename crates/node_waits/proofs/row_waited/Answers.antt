use mathlib.Core.Path.{◌≡◌, refl}
use Rattle.spec.specs.Lists.{◌or◌}
use Rattle.spec.specs.Node.Client.{overdue, wait_row}
use Rattle.node_waits.proofs.row_waited.Goals as goal
use Rattle.node_waits.proofs.row_waited.Goals.{then-p, else-p}

pub returns-then-p-2 : goal.returns-then-p-2
unfolding wait_row ◌or◌
returns-then-p-2 c =
    let p = c.args.p in
    let proposing : c.if-p.q ≡ (p.proposing or overdue c.args.now c.args.timeout p) = elim c.if-p.branch [ then-p w ↦ rw (w.q-is, w.if-p.true) refl | else-p w ↦ rw (w.q-is, w.if-p.false, w.elapsed.ensures) refl ] in
    rw (← c.is_late.ensures, c.if-is_late.true, proposing, c.if-p-2.true) refl

pub returns-then-is_late : goal.returns-then-is_late
unfolding wait_row ◌or◌
returns-then-is_late c =
    let p = c.args.p in
    let proposing : c.if-p.q ≡ (p.proposing or overdue c.args.now c.args.timeout p) = elim c.if-p.branch [ then-p w ↦ rw (w.q-is, w.if-p.true) refl | else-p w ↦ rw (w.q-is, w.if-p.false, w.elapsed.ensures) refl ] in
    rw (← c.is_late.ensures, c.if-is_late.true, proposing, c.if-p-2.false) refl

pub returns : goal.returns
unfolding wait_row
returns c = rw (← c.is_late.ensures, c.if-is_late.false) refl
