use mathlib.Core.Path.{◌≡◌, refl, sym, ◌∙◌, subst}
use Prim.Native.Nat.{◌<◌}
use native.Mathlib.Omega.{arith}
use lib.ListN.{length, length-set}
use Rattle.log_domain.proofs.Tables.{PairsFrom, pairs-none, pairs-on, table-read}
use Rattle.log_domain.proofs.table.read_table.Goals as goal

pub loop-i-init : goal.loop-i-init
loop-i-init c = (refl, omega arith, c.requires.1, c.requires.2, pairs-none _ _ _ _)

pub end_at-pair-requires : goal.end_at-pair-requires
end_at-pair-requires c = let t = c.requires.0 in omega (arith, t.1, c.loop-i.invariant.0, c.loop-i-test.true)

pub offset_bounds-froms-i : goal.offset_bounds-froms-i
offset_bounds-froms-i c = let t = c.requires.0 in omega (arith, t.0, c.loop-i.invariant.0, c.loop-i-test.true)

pub bounds-froms-i : goal.bounds-froms-i
bounds-froms-i c =
    let t = c.requires.0 in omega (arith, t.0, c.loop-i.invariant.0, c.loop-i.invariant.2, c.loop-i-test.true)

pub offset_bounds-ends-i : goal.offset_bounds-ends-i
offset_bounds-ends-i c = let t = c.requires.0 in omega (arith, t.0, c.loop-i.invariant.0, c.loop-i-test.true)

pub bounds-ends-i : goal.bounds-ends-i
bounds-ends-i c =
    let t = c.requires.0 in omega (arith, t.0, c.loop-i.invariant.0, c.loop-i.invariant.3, c.loop-i-test.true)

pub loop-i-preserved : goal.loop-i-preserved
loop-i-preserved c =
    let l = c.loop-i in
    let t = c.requires.0 in
    let h : l.i < length l.froms = omega (arith, t.0, l.invariant.0, l.invariant.2, c.loop-i-test.true) in
    let k : l.i < length l.ends = omega (arith, t.0, l.invariant.0, l.invariant.3, c.loop-i-test.true) in
    (l.invariant.0, omega arith, simp length-set l.invariant.2, simp length-set l.invariant.3, pairs-on _ _ _ _ l.i _ _ h k c.end_at-pair.ensures.epoch c.end_at-pair.ensures.end l.invariant.4)

pub shape_of-froms : goal.shape_of-froms
shape_of-froms c = c.loop-i.invariant.2 ∙ sym c.requires.1

pub shape_of-ends : goal.shape_of-ends
shape_of-ends c = c.loop-i.invariant.3 ∙ sym c.requires.2

pub returns : goal.returns
returns c =
    let l = c.loop-i in
    let a = c.args in
    let t = c.requires.0 in
    let e : l.i ≡ a.p.len = omega (arith, l.invariant.0, c.loop-i-test.false) in
    (l.invariant.2, l.invariant.3, table-read a.s.now l.froms l.ends a.p (omega (arith, t.0, l.invariant.2)) (omega (arith, t.0, l.invariant.3)) (subst (PairsFrom a.s.now l.froms l.ends a.p.at) e l.invariant.4))
