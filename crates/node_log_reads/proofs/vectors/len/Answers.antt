use mathlib.Core.Path.{sym, ◌∙◌}
use Rattle.node_log_reads.proofs.VectorLaws.{len_malformed, len-told}
use Rattle.node_log_reads.proofs.vectors.len.Goals as goal

pub returns-then-not-lent_fits : goal.returns-then-not-lent_fits
returns-then-not-lent_fits c = len_malformed _ (sym c.lent_fits.ensures ∙ c.if-not-lent_fits.true)

pub returns : goal.returns
returns c = len-told _ (sym c.lent_fits.ensures ∙ c.if-not-lent_fits.false)
