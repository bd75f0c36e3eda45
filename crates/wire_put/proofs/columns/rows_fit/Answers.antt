use Prim.Native.Nat.{◌<◌}
use mathlib.Core.Path.{sym, ◌∙◌}
use native.Mathlib.Omega.{arith}
use Rattle.spec_laws.proofs.Wire.Tests.{and_true, and_false}
use Rattle.wire_put.proofs.Rows.{fit-step}
use Rattle.wire_put.proofs.columns.rows_fit.Goals as goal

pub returns-then-not-row_fits : goal.returns-then-not-row_fits
returns-then-not-row_fits c =
    let l = c.loop-i in
    let a = c.args in
    let h : l.i < a.n = omega arith in
    sym (l.invariant.1 ∙ fit-step a.codes.now a.lens.now a.n l.i h ∙ (rw (sym c.row_fits.ensures ∙ c.if-not-row_fits.true) (and_false _)))

pub loop-i-preserved : goal.loop-i-preserved
loop-i-preserved c =
    let l = c.loop-i in
    let a = c.args in
    let h : l.i < a.n = omega arith in
    (omega arith, l.invariant.1 ∙ fit-step a.codes.now a.lens.now a.n l.i h ∙ (rw (sym c.row_fits.ensures ∙ c.if-not-row_fits.false) (and_true _)))
