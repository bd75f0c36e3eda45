use borrow.Author.Tests.{ne_eqb}
use Rattle.calls_ack.proofs.heeds.sent_at.Goals as goal

pub returns-then-step-eq2 : goal.returns-then-step-eq2
returns-then-step-eq2 c = rw c.if-step-eq2.true

pub returns-then-step-eq3 : goal.returns-then-step-eq3
returns-then-step-eq3 c = rw c.if-step-eq3.true

pub returns-else-step-eq3 : goal.returns-else-step-eq3
returns-else-step-eq3 c = rw (ne_eqb c.args.step 2 c.if-step-eq2.false, ne_eqb c.args.step 3 c.if-step-eq3.false)
