use borrow.Author.Tests.{ne_eqb}
use Rattle.image_parts.specs.Codes.{outcome_of}
use Rattle.image_parts.proofs.codes.outcome_of.Goals as goal

pub returns-then-code-eq0 : goal.returns-then-code-eq0
unfolding outcome_of
returns-then-code-eq0 c = rw c.if-code-eq0.true

pub returns : goal.returns
unfolding outcome_of
returns c = rw (ne_eqb c.args.code 0 c.if-code-eq0.false, c.rejection_of.ensures)
