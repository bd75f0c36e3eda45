use mathlib.Core.Path.{sym, ◌∙◌}
use Rattle.spec.specs.Layout.Format.{number_at}
use borrow.Author.Tests.{eq-eqb, ne_eqb}
use Rattle.image_header_row.specs.Rows.{role_at}
use Rattle.image_header_row.proofs.held.role_at.Goals as goal

pub returns-then-code-eq0 : goal.returns-then-code-eq0
unfolding role_at
returns-then-code-eq0 c = rw (eq-eqb (number_at 4 c.args.s.now c.args.at) 0 (sym c.get4-code.ensures ∙ c.if-code-eq0.true))

pub returns : goal.returns
unfolding role_at
returns c =
    rw (ne_eqb (number_at 4 c.args.s.now c.args.at) 0 (λ e. c.if-code-eq0.false (c.get4-code.ensures ∙ e)), c.get8.ensures, c.get8-2.ensures)
