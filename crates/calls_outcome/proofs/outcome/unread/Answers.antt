use Rattle.std.proofs.Common.{ap, not}
use borrow.Author.Rules.{rules}
use mathlib.Core.Bool.{not}
use mathlib.Core.Path.{sym, ap, ◌∙◌}
use borrow.Author.Tests.{lt-ltb, le-ltb}
use Rattle.calls_header.proofs.Asked.{outcome_unnamed, outcome_unended, outcome-under, outcome_over}
use Rattle.calls_outcome.proofs.outcome.unread.Goals as goal

pub returns : goal.returns
returns c =
    outcome_over c.args.name.now c.args.command c.args.applied (ap not (sym c.text_fits.ensures) ∙ (ap not c.if-not-text_fits.false)) (le-ltb _ _ c.if-applied-gt1.false) (le-ltb _ _ c.if-command-lt23.false)

pub returns-then-applied-gt1 : goal.returns-then-applied-gt1
returns-then-applied-gt1 c =
    outcome_unended c.args.name.now c.args.command c.args.applied (ap not (sym c.text_fits.ensures) ∙ (ap not c.if-not-text_fits.false)) (lt-ltb _ _ c.if-applied-gt1.true)

pub returns-then-command-lt23 : goal.returns-then-command-lt23
returns-then-command-lt23 c =
    outcome-under c.args.name.now c.args.command c.args.applied (ap not (sym c.text_fits.ensures) ∙ (ap not c.if-not-text_fits.false)) (le-ltb _ _ c.if-applied-gt1.false) (lt-ltb _ _ c.if-command-lt23.true)

pub returns-then-not-text_fits : goal.returns-then-not-text_fits
returns-then-not-text_fits c =
    outcome_unnamed c.args.name.now c.args.command c.args.applied (ap not (sym c.text_fits.ensures) ∙ (ap not c.if-not-text_fits.true))
