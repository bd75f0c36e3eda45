use mathlib.Core.Path.{sym, ◌∙◌}
use Rattle.log_calls.proofs.FitLaws.{whole-sized, fits_not, fits_so}
use Rattle.log_calls.proofs.fits.lent_fits.Goals as goal

pub returns-then-not-all_whole : goal.returns-then-not-all_whole
returns-then-not-all_whole c = fits_not _ (sym c.all_whole.ensures ∙ c.if-not-all_whole.true)

pub well_formed-requires : goal.well_formed-requires
well_formed-requires c = whole-sized _ (sym c.all_whole.ensures ∙ c.if-not-all_whole.false)

pub returns : goal.returns
returns c = fits_so _ _ (sym c.all_whole.ensures ∙ c.if-not-all_whole.false) c.well_formed-2.ensures
