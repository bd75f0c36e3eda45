use native.Mathlib.Omega.{arith}
use mathlib.Core.Path.{◌∙◌}
use Prim.Native.Nat.{◌-◌}
use lib.ListN.{get_or, length-set}
use Rattle.log_check.proofs.Walking.{unmarked, mark_on, fit_on, rows_stop, rows_end}
use Rattle.log_check.proofs.rows.mark_rows.Goals as goal

pub loop-j-init : goal.loop-j-init
loop-j-init c =
    let p = c.requires in
    let a = c.args in
    (omega arith, p.6, unmarked a.places.now a.marks.now p.7, λ j h. absurd (omega arith))

pub returns-then-not-row_fits : goal.returns-then-not-row_fits
returns-then-not-row_fits c =
    let a = c.args in
    let l = c.loop-j in
    rows_stop a.ids.now a.codes.now a.keys.now a.places.now a.count l.marks l.j a.stored _ c.loop-j-test.true l.invariant.1 l.invariant.2 c.row_fits.ensures (c.if-not-row_fits.true)

pub overflow_sub-i : goal.overflow_sub-i
overflow_sub-i c = (c.row_fits.ensures.yes (c.if-not-row_fits.false)).names.starts

pub bounds-marks-i : goal.bounds-marks-i
bounds-marks-i c =
    let r = (c.row_fits.ensures.yes (c.if-not-row_fits.false)).names in
    let s = r.starts in
    let e = r.ends in
    omega (arith, c.requires.0, c.loop-j.invariant.1)

pub loop-j-preserved : goal.loop-j-preserved
loop-j-preserved c =
    let a = c.args in
    let l = c.loop-j in
    let r = c.row_fits.ensures.yes (c.if-not-row_fits.false) in (
      omega arith,
      length-set l.marks (get_or a.places.now l.j 0 - 1) 1 ∙ l.invariant.1,
      mark_on a.ids.now a.codes.now a.keys.now a.places.now a.count l.marks l.j r l.invariant.2,
      fit_on a.ids.now a.codes.now a.keys.now a.places.now a.count l.j l.invariant.3 r,
    )

pub returns : goal.returns
returns c =
    let a = c.args in
    let l = c.loop-j in
    rows_end a.ids.now a.codes.now a.keys.now a.places.now a.count l.marks l.j a.stored (omega arith) l.invariant.1 l.invariant.2 l.invariant.3
