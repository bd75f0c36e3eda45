use mathlib.Core.Path.{refl, sym, ◌∙◌}
use Rattle.node_log_reads.proofs.VectorLaws.{empty_malformed, empty-told}
use Rattle.node_log_reads.proofs.vectors.is_empty.Goals as goal

pub returns-then-not-lent_fits : goal.returns-then-not-lent_fits
returns-then-not-lent_fits c = empty_malformed _ (sym c.lent_fits.ensures ∙ c.if-not-lent_fits.true)

pub returns : goal.returns
returns c = empty-told _ (sym c.lent_fits.ensures ∙ c.if-not-lent_fits.false) _ refl
