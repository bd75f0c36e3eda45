use native.Mathlib.Omega.{arith}
use mathlib.Core.Path.{refl}
use Prim.Native.Nat.{zero-le}
use lib.Ieee.{of_bits, binary32, mul}
use Rattle.float_distance.proofs.Lanes.{with_self, self_end, four-more, four-end}
use Rattle.float_distance.proofs.four.products_four.Goals as goal

pub loop-i-init : goal.loop-i-init
unfolding of_bits
loop-i-init c = (zero-le, (refl, refl, refl, refl), refl, refl, refl, refl)

pub loop-i-preserved : goal.loop-i-preserved
loop-i-preserved c =
    let lp = c in
    let g = c.args in
    let h = c.requires in
    let o = c.loop-i in
    let t = c.loop-i-test.true in (
      omega arith,
      four-more (mul binary32) g.query.now g.floats.now g.p g.q g.r g.s g.n h o.i o.a o.b o.c o.d t o.invariant.1,
      with_self g.floats.now g.p g.n h.first o.i o.e t o.invariant.2,
      with_self g.floats.now g.q g.n h.second o.i o.f t o.invariant.3,
      with_self g.floats.now g.r g.n h.third o.i o.g t o.invariant.4,
      with_self g.floats.now g.s g.n h.fourth o.i o.h t o.invariant.5,
    )

pub returns : goal.returns
returns c =
    let lp = c in
    let g = c.args in
    let h = c.requires in
    let o = c.loop-i in
    let t = c.loop-i-test.false in (
      four-end (mul binary32) g.query.now g.floats.now g.p g.q g.r g.s g.n h o.i o.a o.b o.c o.d t o.invariant.1,
      record {
        first = self_end g.floats.now g.p g.n h.first o.i o.e t o.invariant.2;
        second = self_end g.floats.now g.q g.n h.second o.i o.f t o.invariant.3;
        third = self_end g.floats.now g.r g.n h.third o.i o.g t o.invariant.4;
        fourth = self_end g.floats.now g.s g.n h.fourth o.i o.h t o.invariant.5;
      },
    )
