use mathlib.Core.Path.{refl}
use Rattle.spec.specs.Lists.{◌and◌}
use Rattle.image_show.proofs.row.is_lost.Goals as goal

pub returns-then-p : goal.returns-then-p
unfolding ◌and◌
returns-then-p c = rw (c.if-p.true, c.is_holder-listed.ensures) refl

pub returns-else-p : goal.returns-else-p
unfolding ◌and◌
returns-else-p c = rw c.if-p.false refl
