use mathlib.Core.Path.{sym, ◌∙◌}
use Rattle.calls_epoch.specs.Asked.{stale_by}
use Rattle.calls_epoch.proofs.held.is_stale.Goals as goal

pub returns-then-leads_from : goal.returns-then-leads_from
unfolding stale_by
returns-then-leads_from c = rw (sym c.leads_from.ensures ∙ c.if-leads_from.true)

pub returns : goal.returns
unfolding stale_by
returns c = rw (sym c.leads_from.ensures ∙ c.if-leads_from.false)
