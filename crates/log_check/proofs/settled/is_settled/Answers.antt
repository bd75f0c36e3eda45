use native.Mathlib.Omega.{arith}
use mathlib.Core.Logic.{inr}
use Rattle.log_check.proofs.Answers.{grant}
use Rattle.log_check.proofs.Walking.{walk_rises, by_mark, by_agrees, by-again}
use Rattle.log_check.proofs.settled.is_settled.Goals as goal

pub returns-then-marks-i-ne0 : goal.returns-then-marks-i-ne0
returns-then-marks-i-ne0 c =
    let a = c.args in
    by_mark a.ids.now a.codes.now a.keys.now a.places.now a.marks.now a.count a.stored a.i c.requires.1 c.if-marks-i-ne0.true

pub returns-then-hinted : goal.returns-then-hinted
returns-then-hinted c = grant (inr (c.hinted.ensures c.if-hinted.true))

pub agrees-requires : goal.agrees-requires
agrees-requires c =
    let a = c.args in
    let w = c.requires.1 in
    (omega (arith, c.requires.0, w.count), w.stored, w.ids, w.codes, w.keys, w.places, walk_rises a.ids.now a.codes.now a.keys.now a.places.now a.marks.now a.count a.stored a.i w)

pub returns-then-agrees : goal.returns-then-agrees
returns-then-agrees c =
    let a = c.args in
    by_agrees a.ids.now a.codes.now a.keys.now a.places.now a.marks.now a.count a.stored a.i c.requires.1 c.agrees.result c.agrees.ensures c.if-agrees.true

pub returns : goal.returns
returns c =
    let a = c.args in
    by-again a.ids.now a.codes.now a.keys.now a.places.now a.marks.now a.count a.stored a.i c.requires.1 c.agrees.result c.agrees.ensures c.if-agrees.false c.comes_again.result c.comes_again.ensures
