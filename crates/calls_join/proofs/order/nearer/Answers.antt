use mathlib.Core.Path.{sym, ◌∙◌}
use Rattle.spec_join.proofs.Order.{nearer-level, nearer-other}
use Rattle.calls_join.specs.View.{hit_at}
use Rattle.calls_join.proofs.order.nearer.Goals as goal

pub returns-then-x-y : goal.returns-then-x-y
returns-then-x-y c =
    let args = c.args in
    let s = args.s.now in
    rw (c.get8.ensures, c.get8-then-x-y.ensures) (sym (nearer-level (hit_at s args.a) (hit_at s args.b) (sym c.get4-x.ensures ∙ c.if-x-y.true ∙ c.get4-y.ensures)))

pub returns : goal.returns
returns c =
    let args = c.args in
    let get4 = c.get4-x in
    let get42 = c.get4-y in
    let s = args.s.now in
    c.before_bits.ensures ∙ rw (get4.ensures, get42.ensures) (sym (nearer-other (hit_at s args.a) (hit_at s args.b) (λ q. c.if-x-y.false (get4.ensures ∙ q ∙ sym get42.ensures))))
