use mathlib.Core.Path.{sym, ◌∙◌}
use lib.Seq.{length-take-le}
use Rattle.log_calls.proofs.FitLaws.{stored-fits, ids-there, ids-none}
use Rattle.log_calls.proofs.reads.ids.Goals as goal

pub returns-then-not-lent_fits : goal.returns-then-not-lent_fits
returns-then-not-lent_fits c = ids-none _ (sym c.lent_fits.ensures ∙ c.if-not-lent_fits.true)

pub slice_bounds-result-end-2 : goal.slice_bounds-result-end-2
slice_bounds-result-end-2 c = sym (length-take-le _ _ (stored-fits _ (sym c.lent_fits.ensures ∙ c.if-not-lent_fits.false)))

pub returns : goal.returns
returns c = ids-there _ (sym c.lent_fits.ensures ∙ c.if-not-lent_fits.false)
