use mathlib.Core.Path.{sym, ◌∙◌}
use Rattle.log_calls.proofs.FitLaws.{fits-sized, fits-well, search_outside, search_malformed, search_same}
use Rattle.log_calls.proofs.searches.search.Goals as goal

pub returns-then-not-query_fits : goal.returns-then-not-query_fits
returns-then-not-query_fits c = search_outside _ _ _ _ _ _ _ (sym c.query_fits.ensures ∙ c.if-not-query_fits.true)

pub returns-then-not-lent_fits : goal.returns-then-not-lent_fits
returns-then-not-lent_fits c =
    search_malformed _ _ _ _ _ _ _ (sym c.query_fits.ensures ∙ c.if-not-query_fits.false) (sym c.lent_fits.ensures ∙ c.if-not-lent_fits.true)

pub search_tested-requires : goal.search_tested-requires
search_tested-requires c =
    let f = sym c.lent_fits.ensures ∙ c.if-not-lent_fits.false in (fits-sized _ f, fits-well _ f, sym c.query_fits.ensures ∙ c.if-not-query_fits.false)

pub returns : goal.returns
returns c =
    search_same _ _ _ _ _ _ _ _ _ _ (sym c.query_fits.ensures ∙ c.if-not-query_fits.false) (sym c.lent_fits.ensures ∙ c.if-not-lent_fits.false) c.search_tested.ensures
