use native.Mathlib.Omega.{arith}
use mathlib.Core.Path.{◌≡◌, refl, sym, ◌∙◌, ap}
use Prim.Native.Nat.{ℕ, ◌+◌}
use lib.ListN.{take, set, length-set}
use lib.Seq.{take_all}
use Rattle.spec.specs.Node.Wire.{float_of}
use Rattle.image_store.specs.Image.{words}
use Rattle.image_store.proofs.Words.{words-length, words-at}
use Rattle.log_store.proofs.Bits.{write-on}
use Rattle.image_store_search.specs.Four.{vector_at}
use Rattle.image_store_search.proofs.FourLaws.{vector-length}
use lib.Ieee.{Float}
use Rattle.image_store_search.proofs.column.read_vector.Goals as goal

pub loop-i-init : goal.loop-i-init
loop-i-init c = (omega arith, refl, refl)

pub overflow_mul-i : goal.overflow_mul-i
overflow_mul-i c = let p = c.requires.0.there in let t = c.loop-i-test.true in omega arith

pub overflow_add-at : goal.overflow_add-at
overflow_add-at c = let p = c.requires.0.there in let t = c.loop-i-test.true in omega arith

pub float_at-requires : goal.float_at-requires
float_at-requires c =
    let p = c.requires.0.there in let t = c.loop-i-test.true in record { there = omega arith; inside = c.requires.0.inside _ t }

pub bounds-out-i : goal.bounds-out-i
bounds-out-i c = let p = c.requires.1 in let t = c.loop-i-test.true in let l = c.loop-i.invariant.1 in omega arith

pub shape_of-out : goal.shape_of-out
shape_of-out c = c.loop-i.invariant.1

pub returns : goal.returns
returns c =
    let a = c.args in let l = c.loop-i in let t = c.loop-i-test.false in let b = l.invariant.0 in let e : l.i ≡ a.n = omega arith in let k = vector-length a.s.now a.at a.n in
    (l.invariant.1, ap (λ (j : ℕ). take j l.out) (sym e) ∙ l.invariant.2 ∙ take_all l.i (vector_at a.s.now a.at a.n) (omega arith))

pub loop-i-preserved : goal.loop-i-preserved
loop-i-preserved c =
    let a = c.args in let l = c.loop-i in let t = c.loop-i-test.true in let w = words 4 a.n a.s.now a.at in let k = words-length 4 a.n a.s.now a.at in let p = c.requires.1 in let z = l.invariant.1 in
    (omega arith, length-set l.out l.i _ ∙ l.invariant.1, ap (λ (x : Float). take (l.i + 1) (set l.out l.i x)) (c.float_at.ensures ∙ sym (ap float_of (words-at 4 a.n a.s.now a.at l.i t))) ∙ write-on l.out w l.i (omega arith) (omega arith) l.invariant.2)
