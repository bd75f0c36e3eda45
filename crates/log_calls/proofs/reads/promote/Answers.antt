use native.Mathlib.Omega.{arith}
use native.Mathlib.Nat.{max-eq_left, max-eq_right}
use mathlib.Core.Path.{sym}
use Rattle.log_calls.proofs.reads.promote.Goals as goal

pub returns-then-own-epoch : goal.returns-then-own-epoch
returns-then-own-epoch c = sym (max-eq_right (omega arith))

pub returns : goal.returns
returns c = sym (max-eq_left (omega arith))
