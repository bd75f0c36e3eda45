use borrow.Author.Tests.{lt-ltb, le-ltb}
use Rattle.spec.specs.Lists.{◌and◌}
use Rattle.log_store.proofs.align.is_last.Goals as goal

pub returns-then-n-gt0 : goal.returns-then-n-gt0
unfolding ◌and◌
returns-then-n-gt0 c = rw (lt-ltb _ _ c.if-n-gt0.true)

pub returns : goal.returns
unfolding ◌and◌
returns c = rw (le-ltb _ _ c.if-n-gt0.false)
