use native.Mathlib.Omega.{arith}
use mathlib.Core.Logic.{inr}
use Rattle.log_check.proofs.Answers.{grant}
use Rattle.log_check.proofs.Walking.{walk_rises, by_mark, by_agrees, by-again}
use Rattle.image_store.specs.Image.{keys_in, places_in}
use Rattle.image_store.specs.Read.{codes_in}
use Rattle.image_store_check.specs.Test.{ids_in}
use Rattle.image_store_check.proofs.settled.is_settled.Goals as goal

pub returns-then-marks-i-ne0 : goal.returns-then-marks-i-ne0
returns-then-marks-i-ne0 c =
    let a = c.args in let s = a.s.now in by_mark (ids_in s a.base) (codes_in s a.base) (keys_in s a.base) (places_in s a.base) a.marks.now a.count a.stored a.i c.requires.1 c.if-marks-i-ne0.true

pub hinted-requires : goal.hinted-requires
hinted-requires c = (c.requires.0, c.requires.1.count, c.requires.2, c.requires.4, c.requires.3)

pub returns-then-hinted : goal.returns-then-hinted
returns-then-hinted c = grant (inr (c.hinted.ensures c.if-hinted.true))

pub agrees-requires : goal.agrees-requires
agrees-requires c =
    let a = c.args in let s = a.s.now in let w = c.requires.1 in (omega (arith, c.requires.0, w.count), w.stored, c.requires.2, walk_rises (ids_in s a.base) (codes_in s a.base) (keys_in s a.base) (places_in s a.base) a.marks.now a.count a.stored a.i w)

pub returns-then-agrees : goal.returns-then-agrees
returns-then-agrees c =
    let a = c.args in let s = a.s.now in by_agrees (ids_in s a.base) (codes_in s a.base) (keys_in s a.base) (places_in s a.base) a.marks.now a.count a.stored a.i c.requires.1 c.agrees.result c.agrees.ensures c.if-agrees.true

pub comes_again-requires : goal.comes_again-requires
comes_again-requires c = (c.requires.0, c.requires.1.count, c.requires.2)

pub returns : goal.returns
returns c =
    let a = c.args in let s = a.s.now in by-again (ids_in s a.base) (codes_in s a.base) (keys_in s a.base) (places_in s a.base) a.marks.now a.count a.stored a.i c.requires.1 c.agrees.result c.agrees.ensures c.if-agrees.false c.comes_again.result c.comes_again.ensures
