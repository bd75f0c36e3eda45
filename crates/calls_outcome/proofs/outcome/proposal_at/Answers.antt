use borrow.Author.Tests.{ne_eqb}
use Rattle.calls_outcome.proofs.outcome.proposal_at.Goals as goal

pub returns-then-command-eq23 : goal.returns-then-command-eq23
returns-then-command-eq23 c = rw c.if-command-eq23.true

pub returns-else-command-eq23 : goal.returns-else-command-eq23
returns-else-command-eq23 c = rw (ne_eqb c.args.command 0x17 c.if-command-eq23.false)
