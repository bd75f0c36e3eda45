use native.Mathlib.Omega.{arith}
use Rattle.image_header_admit.proofs.admission.plus_own.Goals as goal

pub returns-then-own : goal.returns-then-own
returns-then-own c = rw c.if-own.true

pub returns-else-own : goal.returns-else-own
returns-else-own c = rw c.if-own.false (omega arith)
