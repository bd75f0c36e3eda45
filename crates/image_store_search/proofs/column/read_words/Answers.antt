use native.Mathlib.Omega.{arith}
use mathlib.Core.Path.{refl, sym, ◌∙◌}
use lib.ListN.{length-set}
use Rattle.image_store.specs.Image.{words}
use Rattle.image_store.proofs.Words.{words-length, words-at, fill_on, fill_done}
use Rattle.image_store_search.proofs.column.read_words.Goals as goal

pub loop-i-init : goal.loop-i-init
loop-i-init c = (omega arith, c.requires.1, refl)

pub get8-requires : goal.get8-requires
get8-requires c = let p = c.requires.0 in let t = c.loop-i-test.true in let l = c.loop-i.invariant.1 in omega arith

pub loop-i-preserved : goal.loop-i-preserved
loop-i-preserved c =
    let a = c.args in let l = c.loop-i in let t = c.loop-i-test.true in let w = words 8 1024 a.s.now a.at in let k = words-length 8 1024 a.s.now a.at in let z = l.invariant.1 in
    (omega arith, length-set l.out l.i _ ∙ l.invariant.1, fill_on l.out w l.i _ 0 (omega arith) (omega arith) (c.get8.ensures ∙ sym (words-at 8 1024 a.s.now a.at l.i (omega arith))) l.invariant.2)

pub shape_of-out : goal.shape_of-out
shape_of-out c = c.loop-i.invariant.1 ∙ sym c.requires.1

pub returns : goal.returns
returns c =
    let a = c.args in let l = c.loop-i in let k = words-length 8 1024 a.s.now a.at in let z = l.invariant.1 in let t = c.loop-i-test.false in fill_done l.out (words 8 1024 a.s.now a.at) l.i (omega arith) (omega arith) l.invariant.2
