use native.Mathlib.Omega.{arith}
use mathlib.Core.Path.{refl, ◌∙◌}
use Rattle.image_store_append.proofs.WordLaws.{down_start, down_on, down_end}
use Rattle.image_store_append.proofs.words.remove_word.Goals as goal

pub loop-k-init : goal.loop-k-init
loop-k-init c = (omega arith, c.requires.0, refl, down_start c.args.out.now c.args.at c.args.n c.args.i)

pub get8-x-requires : goal.get8-x-requires
get8-x-requires c = let p = c.requires.1 in let t = c.loop-k-test.true in let l = c.loop-k.invariant.2 in omega arith

pub put8-requires : goal.put8-requires
put8-requires c = let p = c.requires.1 in let t = c.loop-k-test.true in let l = c.loop-k.invariant.2 in omega arith

pub loop-k-preserved : goal.loop-k-preserved
loop-k-preserved c =
    let a = c.args in let l = c.loop-k in let t = c.loop-k-test.true in let w = l.invariant.0 in
    (omega arith, omega arith, c.put8.auto.out ∙ l.invariant.2, c.put8.ensures ∙ down_on a.out.now a.at a.n a.i l.out l.k c.get8-x.result l.invariant.0 (omega arith) l.invariant.3 c.get8-x.ensures)

pub shape_of-out : goal.shape_of-out
shape_of-out c = c.loop-k.invariant.2

pub returns : goal.returns
returns c =
    let a = c.args in let l = c.loop-k in let t = c.loop-k-test.false in let w = l.invariant.1 in
    down_end a.out.now a.at a.n a.i l.out l.k l.invariant.0 (omega arith) (λ i. omega (arith, c.slice_known-1.given i)) l.invariant.3
