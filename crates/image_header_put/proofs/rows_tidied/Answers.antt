use native.Mathlib.Omega.{arith}
use mathlib.Core.Path.{refl, ◌∙◌}
use Prim.Native.Nat.{◌+◌, ◌*◌}
use Rattle.image_header_row.specs.Rows.{held_row_at}
use Rattle.image_header_put.proofs.Back.{rows, rows_long, row_of, still, done-step, done_end}
use Rattle.image_header_put.proofs.rows_tidied.Goals as goal

pub loop-i-init : goal.loop-i-init
loop-i-init c = ((refl, refl, refl), omega arith, c.requires.1, c.requires.0)

pub row_tidied-requires : goal.row_tidied-requires
row_tidied-requires c =
    let the-loop = c.loop-i in
    let l = the-loop.invariant.0.0 in
    let few = the-loop.invariant.2 in
    let room = the-loop.invariant.3 in
    let lt = c.loop-i-test.true in omega arith

pub loop-i-preserved : goal.loop-i-preserved
loop-i-preserved c =
    let a = c.args in
    let l = c.loop-i in
    let the-row-tidied = c.row_tidied in
    let s = a.out.now in
    let n = a.count in
    let i = l.i in
    let lt = c.loop-i-test.true in
    let few = l.invariant.2 in
    let k = rows_long s n in
    (done-step s (rows s n) l.out _ i l.invariant.3 (omega arith) (omega arith) l.invariant.0 the-row-tidied.auto.out (held_row_at l.out (48 + 1280 * i)) (still s (rows s n) l.out i l.invariant.0 ∙ row_of s n i lt) the-row-tidied.ensures, omega arith, few, l.invariant.3)

pub shape_of-out : goal.shape_of-out
shape_of-out c = c.loop-i.invariant.0.0

pub returns : goal.returns
returns c =
    let a = c.args in
    let s = a.out.now in
    let n = a.count in
    let k = c.loop-i.invariant.1 in
    let z = c.loop-i-test.false in
    let l = rows_long s n in
    done_end s (rows s n) c.loop-i.out c.loop-i.i (omega arith) c.loop-i.invariant.0
