use Rattle.log_store.proofs.Columns.{looked_zero, looked_over, looked_past, looked_deleted, looked_short, looked_out, looked_rest, looked_whole}
use Rattle.log_store.proofs.components.Goals as goal

pub returns-then-o-eq0 : goal.returns-then-o-eq0
returns-then-o-eq0 c = looked_zero _ _ _ _ _ c.if-o-eq0.true

pub returns-then-count-at : goal.returns-then-count-at
returns-then-count-at c = looked_past _ _ _ _ _ c.if-o-eq0.false c.if-count-at.true

pub returns-then-codes-at : goal.returns-then-codes-at
returns-then-codes-at c = looked_over _ _ _ _ _ c.if-o-eq0.false c.if-count-at.false c.if-codes-at.true

pub returns-then-codes-at-ne1 : goal.returns-then-codes-at-ne1
returns-then-codes-at-ne1 c = looked_deleted _ _ _ _ _ c.if-o-eq0.false c.if-count-at.false c.if-codes-at-ne1.true

pub returns-then-lengths-at : goal.returns-then-lengths-at
returns-then-lengths-at c =
    looked_short _ _ _ _ _ c.if-o-eq0.false c.if-count-at.false c.if-codes-at-ne1.false c.if-lengths-at.true

pub returns-then-floats-at : goal.returns-then-floats-at
returns-then-floats-at c =
    looked_out _ _ _ _ _ c.if-o-eq0.false c.if-count-at.false c.if-codes-at-ne1.false c.if-floats-at.true

pub returns-then-floats-end : goal.returns-then-floats-end
returns-then-floats-end c =
    looked_rest _ _ _ _ _ c.if-o-eq0.false c.if-count-at.false c.if-codes-at-ne1.false _ c.wide.ensures.0 c.if-floats-end.true

pub returns : goal.returns
returns c =
    looked_whole _ _ _ _ _ c.if-o-eq0.false c.if-count-at.false c.if-codes-at-ne1.false _ c.wide.ensures.0
