use Rattle.image_map_count.proofs.SumLaws.{step_zero, step_fits}
use Rattle.image_map_count.proofs.sums.next_fits.Goals as goal

pub returns-then-base-eq0 : goal.returns-then-base-eq0
returns-then-base-eq0 c = step_zero c.args.sum c.args.base c.if-base-eq0.true

pub returns : goal.returns
returns c = step_fits c.args.sum c.args.base c.if-base-eq0.false
