use mathlib.Core.Path.{sym, ◌∙◌}
use Rattle.image_map_check.proofs.RowLaws.{session_wrong, session-first, session-after}
use Rattle.image_map_check.proofs.rows.session_follows.Goals as goal

pub returns-then-not-session_fits : goal.returns-then-not-session_fits
returns-then-not-session_fits c =
    session_wrong c.args.s.now c.args.i c.args.before c.args.at (sym c.session_fits.ensures ∙ c.if-not-session_fits.true)

pub returns-then-i-eq0 : goal.returns-then-i-eq0
returns-then-i-eq0 c =
    session-first c.args.s.now c.args.i c.args.before c.args.at (sym c.session_fits.ensures ∙ c.if-not-session_fits.false) c.if-i-eq0.true

pub returns : goal.returns
returns c =
    session-after c.args.s.now c.args.i c.args.before c.args.at (sym c.session_fits.ensures ∙ c.if-not-session_fits.false) c.if-i-eq0.false _ _ c.get8.ensures c.get8-2.ensures
