use native.Mathlib.Omega.{arith}
use mathlib.Core.Path.{sym, ◌∙◌}
use Prim.Native.Nat.{◌<◌}
use borrow.Author.Tests.{lt-leb, le-leb}
use Rattle.spec_laws.proofs.Wire.Tests.{and_true, and_false}
use Rattle.wire_put.proofs.Placed.{fit-step}
use Rattle.wire_put.proofs.lists.lists_fit.Goals as goal

pub returns-then-counts-i-gt8 : goal.returns-then-counts-i-gt8
returns-then-counts-i-gt8 c =
    let l = c.loop-i in
    let a = c.args in
    let h : l.i < a.n = omega arith in
    sym (l.invariant.1 ∙ fit-step a.counts.now a.n l.i h ∙ (rw (lt-leb _ _ c.if-counts-i-gt8.true) (and_false _)))

pub loop-i-preserved : goal.loop-i-preserved
loop-i-preserved c =
    let l = c.loop-i in
    let a = c.args in
    let h : l.i < a.n = omega arith in
    (omega arith, l.invariant.1 ∙ fit-step a.counts.now a.n l.i h ∙ (rw (le-leb _ _ c.if-counts-i-gt8.false) (and_true _)))
