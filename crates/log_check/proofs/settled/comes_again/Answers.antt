use native.Mathlib.Omega.{arith}
use Rattle.log_check.proofs.Answers.{grant, deny}
use Rattle.log_check.proofs.Walking.{not_again}
use Rattle.log_check.proofs.settled.comes_again.Goals as goal

pub loop-k-init : goal.loop-k-init
loop-k-init c = (omega arith, omega arith, λ j h g. absurd (omega arith))

pub returns-then-ids-k : goal.returns-then-ids-k
returns-then-ids-k c = grant (c.loop-k.k, c.loop-k.invariant.0, c.loop-k-test.true, c.if-ids-k.true)

pub loop-k-preserved : goal.loop-k-preserved
loop-k-preserved c =
    (omega arith, omega arith, not_again c.args.ids.now c.args.i c.loop-k.k c.loop-k.invariant.2 c.if-ids-k.false)

pub returns : goal.returns
returns c = deny (λ r. c.loop-k.invariant.2 r.0 r.1 (omega (arith, r.2, c.loop-k-test.false)) r.3)
