use mathlib.Core.Path.{refl, sym, ◌∙◌}
use Prim.Native.Nat.{◌<◌}
use native.Mathlib.Omega.{arith}
use lib.ListN.{length, length-set}
use Rattle.log_arrive.specs.Parts.{bits_in}
use Rattle.log_domain.proofs.InMessage.{bits-length, bits_item, bits-within}
use Rattle.log_arrive.proofs.OpLaws.{column_on, column_end}
use Rattle.log_arrive.proofs.ops.read_bits.Goals as goal

pub loop-i-init : goal.loop-i-init
loop-i-init c = (refl, omega arith, refl, refl)

pub component-requires : goal.component-requires
component-requires c = omega (arith, c.requires.0, c.loop-i.invariant.0, c.loop-i-test.true)

pub offset_bounds-out-i : goal.offset_bounds-out-i
offset_bounds-out-i c =
    omega (arith, c.requires.0, c.requires.1, c.loop-i.invariant.0, c.loop-i.invariant.2, c.loop-i-test.true)

pub bounds-out-i : goal.bounds-out-i
bounds-out-i c = omega (arith, c.requires.1, c.loop-i.invariant.0, c.loop-i.invariant.2, c.loop-i-test.true)

pub loop-i-preserved : goal.loop-i-preserved
loop-i-preserved c =
    let a = c.args in
    let l = c.loop-i in
    let h : l.i < a.v.len = omega (arith, l.invariant.0, c.loop-i-test.true) in
    let k : l.i < length l.out = omega (arith, c.requires.1, l.invariant.2) in
    (l.invariant.0, omega arith, simp length-set l.invariant.2, column_on (bits_in a.s.now a.v) l.out l.i _ (bits-within a.s.now a.v l.i h) k (c.component.ensures ∙ sym (bits_item a.s.now a.v l.i h)) l.invariant.3)

pub shape_of-out : goal.shape_of-out
shape_of-out c = c.loop-i.invariant.2

pub returns : goal.returns
returns c =
    let a = c.args in
    let l = c.loop-i in
    (l.invariant.2, column_end (bits_in a.s.now a.v) l.out a.v.len l.i (omega (arith, l.invariant.0, c.loop-i-test.false)) (bits-length a.s.now a.v) l.invariant.3)
