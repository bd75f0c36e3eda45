use native.Mathlib.Omega.{arith}
use mathlib.Core.Path.{refl}
use Rattle.num_position.proofs.FloatsLaws.{small, zero_less}
use Rattle.num_position.proofs.floats.float_of.Goals as goal

pub int_to_float-x : goal.int_to_float-x
int_to_float-x c = small _ (omega arith)

pub returns-then-minus : goal.returns-then-minus
returns-then-minus c = rw c.if-minus.true (zero_less _ (omega arith))

pub returns : goal.returns
returns c = rw c.if-minus.false refl
