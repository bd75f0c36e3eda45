use native.Mathlib.Omega.{arith}
use mathlib.Core.Path.{◌≡◌}
use Prim.Native.Nat.{◌+◌, ◌-◌}
use Rattle.image_move.proofs.Moves.{up_start, up_step, up_end}
use Rattle.image_move.proofs.move_up.Goals as goal

pub loop-i-init : goal.loop-i-init
loop-i-init c =
    (up_start c.args.out.now c.args.from c.args.to c.args.words, omega arith, c.requires.0, c.requires.1, λ k. omega (arith, c.slice_known-1.given k))

pub get8-word-requires : goal.get8-word-requires
get8-word-requires c =
    let l = c.loop-i.invariant.0.long in let a = c.loop-i.invariant.1 in let b = c.loop-i.invariant.2 in let d = c.loop-i.invariant.3 in let t = c.loop-i-test.true in omega arith

pub put8-requires : goal.put8-requires
put8-requires c =
    let l = c.loop-i.invariant.0.long in let a = c.loop-i.invariant.1 in let b = c.loop-i.invariant.2 in let d = c.loop-i.invariant.3 in let t = c.loop-i-test.true in omega arith

pub loop-i-preserved : goal.loop-i-preserved
loop-i-preserved c =
    let a = c.loop-i.invariant.1 in let b = c.loop-i.invariant.2 in let d = c.loop-i.invariant.3 in let t = c.loop-i-test.true in let q : c.loop-i.i - 1 + 1 ≡ c.loop-i.i = omega arith in (up_step c.args.out.now c.args.from c.args.to c.args.words c.loop-i.out _ (c.loop-i.i - 1) _ c.loop-i.invariant.4 c.get8-word.ensures c.put8.ensures b (omega arith) (omega arith) (rw q c.loop-i.invariant.0), omega arith, b, d, λ k. omega (arith, c.type_inv.out k))

pub shape_of-out : goal.shape_of-out
shape_of-out c = c.loop-i.invariant.0.long

pub returns : goal.returns
returns c =
    let t = c.loop-i-test.false in let q : c.loop-i.i ≡ 0 = omega arith in up_end c.args.out.now c.args.from c.args.to c.args.words c.loop-i.out (rw q at c.loop-i.invariant.0)
