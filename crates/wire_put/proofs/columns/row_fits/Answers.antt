use mathlib.Core.Path.{sym, ◌∙◌}
use Rattle.spec.specs.Lists.{◌and◌}
use Rattle.wire_put.proofs.columns.row_fits.Goals as goal

pub returns-then-op_fits : goal.returns-then-op_fits
unfolding ◌and◌
returns-then-op_fits c = (rw (sym c.op_fits.ensures ∙ c.if-op_fits.true))

pub returns : goal.returns
unfolding ◌and◌
returns c = (rw (sym c.op_fits.ensures ∙ c.if-op_fits.false))
