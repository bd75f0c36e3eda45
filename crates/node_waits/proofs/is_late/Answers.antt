use mathlib.Core.Path.{refl}
use Rattle.spec.specs.Lists.{◌and◌}
use Rattle.node_waits.proofs.is_late.Goals as goal

pub returns-then-p : goal.returns-then-p
unfolding ◌and◌
returns-then-p c = rw c.if-p.true refl

pub returns-else-p : goal.returns-else-p
unfolding ◌and◌
returns-else-p c = rw c.if-p.false refl
