use Rattle.log_check.proofs.Walking.{no_hint}
use Rattle.log_check.proofs.hints.hinted.Goals as goal

pub returns-then-k-i : goal.returns-then-k-i
returns-then-k-i c = no_hint

pub returns-then-count-k : goal.returns-then-count-k
returns-then-count-k c = no_hint

pub returns-then-ids-k : goal.returns-then-ids-k
returns-then-ids-k c = λ e. (c.loop.k, c.if-k-i.false, c.if-count-k.false, c.if-ids-k.true)

pub returns : goal.returns
returns c = no_hint
