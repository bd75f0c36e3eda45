use native.Mathlib.Omega.{arith}
use mathlib.Core.Path.{refl, ◌∙◌}
use Prim.Native.Nat.{◌-◌}
use Rattle.image_store_append.proofs.WordLaws.{Up, up_start, up_on, up_end}
use Rattle.image_store_append.proofs.words.insert_word.Goals as goal

pub loop-k-init : goal.loop-k-init
loop-k-init c = (c.requires.0, omega arith, refl, up_start c.args.out.now c.args.at c.args.n)

pub get8-x-requires : goal.get8-x-requires
get8-x-requires c =
    let p = c.requires.1 in let t = c.loop-k-test.true in let w = c.loop-k.invariant.1 in let l = c.loop-k.invariant.2 in omega arith

pub put8-requires : goal.put8-requires
put8-requires c =
    let p = c.requires.1 in let t = c.loop-k-test.true in let w = c.loop-k.invariant.1 in let l = c.loop-k.invariant.2 in omega arith

pub loop-k-preserved : goal.loop-k-preserved
loop-k-preserved c =
    let a = c.args in let l = c.loop-k in let t = c.loop-k-test.true in let w = l.invariant.1 in
    let u : Up a.out.now a.at a.n _ (l.k - 1) = up_on a.out.now a.at a.n l.out l.k (l.k - 1) c.get8-x.result (omega arith) (omega arith) l.invariant.3 c.get8-x.ensures in
    (omega arith, omega arith, c.put8.auto.out ∙ l.invariant.2, c.put8.ensures ∙ u)

pub put8-requires-2 : goal.put8-requires-2
put8-requires-2 c = let p = c.requires.0 in let q = c.requires.1 in let l = c.loop-k.invariant.2 in omega arith

pub shape_of-out : goal.shape_of-out
shape_of-out c = c.put8-2.auto.out ∙ c.loop-k.invariant.2

pub returns : goal.returns
returns c =
    let a = c.args in let l = c.loop-k in let t = c.loop-k-test.false in let w = l.invariant.0 in
    c.put8-2.ensures ∙ up_end a.out.now a.at a.n l.out l.k a.i a.v (omega arith) c.requires.0 (λ i. omega (arith, c.slice_known-1.given i)) l.invariant.3
