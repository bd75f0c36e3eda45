use borrow.Author.Tests.{lt-leb, le-leb}
use Rattle.spec.specs.Lists.{◌and◌}
use Rattle.spec_position.specs.Sizes.{sizes_within}
use Rattle.num_position.proofs.signed.sizes_within.Goals as goal

pub returns-then-minus : goal.returns-then-minus
unfolding sizes_within ◌and◌
returns-then-minus c = simp c.if-minus.true

pub returns-then-ra-gt1295999985 : goal.returns-then-ra-gt1295999985
unfolding sizes_within ◌and◌
returns-then-ra-gt1295999985 c = simp (c.if-minus.false, lt-leb _ _ c.if-ra-gt1295999985.true)

pub returns : goal.returns
unfolding sizes_within ◌and◌
returns c = simp (c.if-minus.false, le-leb _ _ c.if-ra-gt1295999985.false)
