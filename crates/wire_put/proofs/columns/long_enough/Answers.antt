use borrow.Author.Tests.{lt-leb, le-leb}
use Rattle.spec.specs.Lists.{◌and◌}
use Rattle.wire_put.proofs.columns.long_enough.Goals as goal

pub returns-then-epochs-n : goal.returns-then-epochs-n
unfolding ◌and◌
returns-then-epochs-n c = rw (lt-leb _ _ c.if-epochs-n.true)

pub returns-then-offsets-n : goal.returns-then-offsets-n
unfolding ◌and◌
returns-then-offsets-n c = rw (le-leb _ _ c.if-epochs-n.false, lt-leb _ _ c.if-offsets-n.true)

pub returns-then-codes-n : goal.returns-then-codes-n
unfolding ◌and◌
returns-then-codes-n c = rw (le-leb _ _ c.if-epochs-n.false, le-leb _ _ c.if-offsets-n.false, lt-leb _ _ c.if-codes-n.true)

pub returns-then-ids-n : goal.returns-then-ids-n
unfolding ◌and◌
returns-then-ids-n c =
    rw (le-leb _ _ c.if-epochs-n.false, le-leb _ _ c.if-offsets-n.false, le-leb _ _ c.if-codes-n.false, lt-leb _ _ c.if-ids-n.true)

pub returns-then-lens-n : goal.returns-then-lens-n
unfolding ◌and◌
returns-then-lens-n c =
    rw (le-leb _ _ c.if-epochs-n.false, le-leb _ _ c.if-offsets-n.false, le-leb _ _ c.if-codes-n.false, le-leb _ _ c.if-ids-n.false, lt-leb _ _ c.if-lens-n.true)

pub returns : goal.returns
unfolding ◌and◌
returns c =
    rw (le-leb _ _ c.if-epochs-n.false, le-leb _ _ c.if-offsets-n.false, le-leb _ _ c.if-codes-n.false, le-leb _ _ c.if-ids-n.false, le-leb _ _ c.if-lens-n.false)
