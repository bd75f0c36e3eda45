use native.Mathlib.Omega.{arith}
use mathlib.Core.Path.{refl}
use Prim.Native.Nat.{zero-le}
use lib.Ieee.{of_bits}
use Rattle.spec.specs.Nearest.Distance.{square}
use Rattle.float_distance.proofs.Lanes.{four-more, four-end}
use Rattle.float_distance.proofs.four.squares_four.Goals as goal

pub loop-i-init : goal.loop-i-init
unfolding of_bits
loop-i-init c = (zero-le, (refl, refl, refl, refl))

pub loop-i-preserved : goal.loop-i-preserved
loop-i-preserved c =
    let lp = c in
    let g = c.args in
    let o = c.loop-i in (
      omega arith,
      four-more square g.query.now g.floats.now g.p g.q g.r g.s g.n c.requires o.i o.a o.b o.c o.d
          c.loop-i-test.true o.invariant.1,
    )

pub returns : goal.returns
returns c =
    let lp = c in
    let g = c.args in
    let o = c.loop-i in
    four-end square g.query.now g.floats.now g.p g.q g.r g.s g.n c.requires o.i o.a o.b o.c o.d
    c.loop-i-test.false o.invariant.1
