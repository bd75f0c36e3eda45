use Prim.Native.Nat.{◌<◌}
use mathlib.Core.Path.{sym, ◌∙◌}
use native.Mathlib.Omega.{arith}
use borrow.Author.Tests.{lt-leb, le-leb}
use Rattle.spec_laws.proofs.Wire.Tests.{and_true, and_false}
use Rattle.wire_shape.proofs.Skips.{within_step}
use Rattle.wire_shape.proofs.within.Goals as goal

pub returns-then-b-lo : goal.returns-then-b-lo
returns-then-b-lo c =
    let l = c.loop-i in
    let a = c.args in
    let h : l.i < a.n = omega arith in
    sym (l.invariant.1 ∙ within_step a.lo a.hi a.n l.i a.s.now a.at h ∙ (rw (lt-leb _ _ c.if-b-lo.true) (and_false _)))

pub returns-then-hi-b : goal.returns-then-hi-b
returns-then-hi-b c =
    let l = c.loop-i in
    let a = c.args in
    let h : l.i < a.n = omega arith in
    sym (l.invariant.1 ∙ within_step a.lo a.hi a.n l.i a.s.now a.at h ∙ (rw (le-leb _ _ c.if-b-lo.false, lt-leb _ _ c.if-hi-b.true) (and_true _ ∙ and_false _)))

pub loop-i-preserved : goal.loop-i-preserved
loop-i-preserved c =
    let l = c.loop-i in
    let a = c.args in
    let h : l.i < a.n = omega arith in
    (omega arith, l.invariant.1 ∙ within_step a.lo a.hi a.n l.i a.s.now a.at h ∙ (rw (le-leb _ _ c.if-b-lo.false, le-leb _ _ c.if-hi-b.false) (and_true _ ∙ and_true _)))
