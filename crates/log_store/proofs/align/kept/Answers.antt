use native.Mathlib.Omega.{arith}
use Rattle.log_store.proofs.Aligning.{kept_on, kept_stop, kept-end}
use Rattle.log_store.proofs.align.kept.Goals as goal

pub returns-then-not-agrees : goal.returns-then-not-agrees
returns-then-not-agrees c =
    kept_stop _ _ _ _ _ _ c.loop-i.invariant.1 _ c.agrees.ensures (c.if-not-agrees.true) c.loop-i-test.true

pub loop-i-preserved : goal.loop-i-preserved
loop-i-preserved c =
    (omega arith, kept_on _ _ _ _ _ _ c.loop-i.invariant.1 _ c.agrees.ensures (c.if-not-agrees.false) c.loop-i-test.true)

pub returns : goal.returns
returns c = kept-end _ _ _ _ _ _ c.loop-i.invariant.1 (omega arith)
