use borrow.Author.Tests.{ne_eqb}
use Rattle.spec.specs.Lists.{◌or◌}
use Rattle.wire_caller.proofs.is_second.Goals as goal

pub returns-then-code-eq40 : goal.returns-then-code-eq40
unfolding ◌or◌
returns-then-code-eq40 c = rw c.if-code-eq40.true

pub returns-else-code-eq40 : goal.returns-else-code-eq40
unfolding ◌or◌
returns-else-code-eq40 c = rw (ne_eqb _ _ c.if-code-eq40.false)
