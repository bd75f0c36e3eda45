use native.Mathlib.Omega.{arith}
use mathlib.Core.Path.{sym}
use Rattle.calls_join.proofs.Bytes.{stands_not, stands_is}
use Rattle.calls_join.proofs.answers.stands.Goals as goal

pub returns-then-s-p-lt6 : goal.returns-then-s-p-lt6
returns-then-s-p-lt6 c = sym (stands_not _ _ (λ h. (let b = h.begins in omega arith)))

pub returns-then-n-gt1024 : goal.returns-then-n-gt1024
returns-then-n-gt1024 c = sym (stands_not _ _ (λ h. (let f = h.few in omega (arith, c.count_at-n.ensures))))

pub returns : goal.returns
returns c = stands_is _ _ _ c.count_at-n.ensures (omega arith) (omega arith)
