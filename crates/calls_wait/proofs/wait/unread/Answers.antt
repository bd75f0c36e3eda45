use mathlib.Core.Bool.{not}
use mathlib.Core.Path.{sym, ap, ◌∙◌}
use Rattle.calls_header.proofs.Asked.{wait_unnamed, wait_named}
use Rattle.calls_wait.proofs.wait.unread.Goals as goal

pub returns-then-not-text_fits : goal.returns-then-not-text_fits
returns-then-not-text_fits c =
    wait_unnamed c.args.name.now c.args.clock c.args.timeout (ap not (sym c.text_fits.ensures ∙ c.if-not-text_fits.true))

pub returns : goal.returns
returns c =
    c.late.ensures ∙ wait_named c.args.name.now c.args.clock c.args.timeout (ap not (sym c.text_fits.ensures ∙ c.if-not-text_fits.false))
