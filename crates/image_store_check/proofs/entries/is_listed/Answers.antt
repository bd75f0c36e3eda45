use Rattle.log_check.proofs.Fitting.{shape-other, shape-none, shape_some}
use Rattle.image_store_check.proofs.entries.is_listed.Goals as goal

pub returns-then-code-ne1 : goal.returns-then-code-ne1
returns-then-code-ne1 c = shape-other _ _ c.if-code-ne1.true

pub returns-then-len-eq0 : goal.returns-then-len-eq0
returns-then-len-eq0 c = shape-none _ _ c.if-code-ne1.false c.if-len-eq0.true

pub returns : goal.returns
returns c = shape_some _ _ c.if-code-ne1.false c.if-len-eq0.false
