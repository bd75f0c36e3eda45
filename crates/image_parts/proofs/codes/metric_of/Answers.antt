use Rattle.image_parts.proofs.CodeLaws.{angular}
use Rattle.image_parts.proofs.codes.metric_of.Goals as goal

pub returns-then-code-eq0 : goal.returns-then-code-eq0
returns-then-code-eq0 c = rw c.if-code-eq0.true

pub returns-else-code-eq0 : goal.returns-else-code-eq0
returns-else-code-eq0 c = angular c.args.code c.if-code-eq0.false
