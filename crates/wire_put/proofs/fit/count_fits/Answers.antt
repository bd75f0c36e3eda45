use borrow.Author.Tests.{lt-leb, le-leb}
use Rattle.spec.specs.Lists.{◌and◌}
use Rattle.wire_put.specs.Fields.{count_fits}
use Rattle.wire_put.proofs.fit.count_fits.Goals as goal

pub returns-then-n-lo : goal.returns-then-n-lo
unfolding count_fits ◌and◌
returns-then-n-lo c = rw (lt-leb _ _ c.if-n-lo.true)

pub returns : goal.returns
unfolding count_fits ◌and◌
returns c = rw (le-leb _ _ c.if-n-lo.false)
