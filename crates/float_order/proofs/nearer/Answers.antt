use mathlib.Core.Path.{sym, ◌∙◌}
use Rattle.spec_laws.proofs.Nearest.Rank.{nearer-same, nearer-other}
use Rattle.float_order.proofs.nearer.Goals as goal

pub returns-then-x-y : goal.returns-then-x-y
returns-then-x-y c =
    let at = c in
    sym (nearer-same c.args.a c.args.b c.if-x-y.true)

pub returns : goal.returns
returns c =
    let at = c in
    c.before_bits.ensures ∙ sym (nearer-other c.args.a c.args.b c.if-x-y.false)
