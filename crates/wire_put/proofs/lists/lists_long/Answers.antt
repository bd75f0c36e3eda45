use borrow.Author.Tests.{lt-leb, le-leb}
use Rattle.spec.specs.Lists.{◌and◌}
use Rattle.wire_put.proofs.lists.lists_long.Goals as goal

pub returns-then-counts-n : goal.returns-then-counts-n
unfolding ◌and◌
returns-then-counts-n c = rw (lt-leb _ _ c.if-counts-n.true)

pub returns : goal.returns
unfolding ◌and◌
returns c = rw (le-leb _ _ c.if-counts-n.false)
