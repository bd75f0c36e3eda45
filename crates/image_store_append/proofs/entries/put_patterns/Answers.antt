use native.Mathlib.Omega.{arith}
use mathlib.Core.Path.{refl, sym, ◌∙◌, ap}
use mathlib.Core.List.{List}
use Prim.Native.Nat.{ℕ, ◌+◌, ◌*◌}
use lib.ListN.{drop}
use native.Mathlib.Nat.{add-zero}
use lib.Seq.{sets}
use Rattle.spec.specs.Layout.Format.{bytes_of, concat_map}
use Rattle.image_store.specs.Image.{words}
use Rattle.image_store_append.proofs.EntryLaws.{patterns-step, patterns-end}
use Rattle.image_store_append.proofs.entries.put_patterns.Goals as goal

pub loop-i-init : goal.loop-i-init
loop-i-init c = (omega arith, refl, (rw add-zero))

pub get4-x-requires : goal.get4-x-requires
get4-x-requires c = let p = c.requires.1 in let t = c.loop-i-test.true in omega arith

pub put4-requires : goal.put4-requires
put4-requires c = let p = c.requires.0 in let t = c.loop-i-test.true in let l = c.loop-i.invariant.1 in omega arith

pub loop-i-preserved : goal.loop-i-preserved
loop-i-preserved c =
    let a = c.args in let l = c.loop-i in let t = c.loop-i-test.true in
    (omega arith, c.put4.auto.out ∙ l.invariant.1, ap (λ (m : List ℕ). sets m (a.at + 4 * (l.i + 1)) (concat_map (bytes_of 4) (drop (l.i + 1) (words 4 a.n a.s.now a.from)))) c.put4.ensures ∙ patterns-step l.out a.s.now a.at a.from a.n l.i c.get4-x.result c.loop-i-test.true c.get4-x.ensures ∙ l.invariant.2)

pub shape_of-out : goal.shape_of-out
shape_of-out c = c.loop-i.invariant.1

pub returns : goal.returns
returns c =
    let a = c.args in let l = c.loop-i in let t = c.loop-i-test.false in let w = l.invariant.0 in sym (patterns-end l.out a.s.now a.at a.from a.n l.i (omega arith)) ∙ l.invariant.2
