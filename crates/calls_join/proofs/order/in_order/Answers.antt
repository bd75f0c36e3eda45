use native.Mathlib.Omega.{arith}
use mathlib.Core.Path.{◌≡◌, refl, sym, ◌∙◌}
use Prim.Native.Nat.{◌+◌, ◌-◌, ◌*◌}
use Rattle.calls_join.proofs.Walks.{order_stop, order_on, order_end}
use Rattle.calls_join.proofs.order.in_order.Goals as goal

pub loop-i-init : goal.loop-i-init
loop-i-init c =
    let a : c.args.n - (1 - 1) ≡ c.args.n = omega arith in
    let b : c.args.p + 12 * (1 - 1) ≡ c.args.p = omega arith in (omega arith, rw (a, b) refl)

pub returns-then-nearer : goal.returns-then-nearer
returns-then-nearer c =
    let i = c.loop-i.invariant in
    sym (sym i.1 ∙ order_stop _ _ _ _ i.0 c.loop-i-test.true (sym c.nearer.ensures ∙ c.if-nearer.true))

pub loop-i-preserved : goal.loop-i-preserved
loop-i-preserved c =
    let i = c.loop-i.invariant in
    (omega arith, sym (order_on _ _ _ _ i.0 c.loop-i-test.true (sym c.nearer.ensures ∙ c.if-nearer.false)) ∙ i.1)

pub returns : goal.returns
returns c = sym (sym c.loop-i.invariant.1 ∙ order_end _ _ _ (omega arith))
