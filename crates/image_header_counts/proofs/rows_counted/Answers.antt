use native.Mathlib.Omega.{arith}
use mathlib.Core.Path.{refl, ◌∙◌, ap}
use Prim.Native.Nat.{◌+◌, ◌*◌}
use Rattle.image_header_row.specs.Rows.{held_row_at}
use Rattle.image_header_put.proofs.Back.{still, done-step, done_end}
use Rattle.image_header_counts.specs.Counts.{counted, counted_rows}
use Rattle.image_header_counts.proofs.Counts.{counted_long, counted-own, counted-other}
use Rattle.image_header_counts.proofs.rows_counted.Goals as goal
use Rattle.image_header_counts.proofs.rows_counted.Goals.{then-i-row, else-i-row}

pub loop-i-init : goal.loop-i-init
loop-i-init c = ((refl, refl, refl), omega arith, c.requires.1, c.requires.0, c.requires.2)

pub row_counted-requires : goal.row_counted-requires
row_counted-requires c =
    let l = c.loop-i.invariant.0.0 in let few = c.loop-i.invariant.2 in let room = c.loop-i.invariant.3 in let lt = c.loop-i-test.true in omega arith

pub row_tidied-requires : goal.row_tidied-requires
row_tidied-requires c =
    let l = c.loop-i.invariant.0.0 in let few = c.loop-i.invariant.2 in let room = c.loop-i.invariant.3 in let lt = c.loop-i-test.true in omega arith

pub loop-i-preserved : goal.loop-i-preserved
loop-i-preserved c =
    let a = c.args in let s = a.out.now in let n = a.count in let i = c.loop-i.i in let lt = c.loop-i-test.true in let few = c.loop-i.invariant.2 in let w = counted_rows s n a.row a.last a.stored in let k = counted_long s n a.row a.last a.stored c.loop-i.invariant.4 in
    elim c.if-i-row.branch [
      | then-i-row t ↦ rw t.out-is (done-step s w c.loop-i.out _ i c.loop-i.invariant.3 (omega arith) (omega arith) c.loop-i.invariant.0 t.row_counted.auto.out (counted (held_row_at c.loop-i.out (48 + 1280 * i)) a.last a.stored) (ap (λ x. counted x a.last a.stored) (still s w c.loop-i.out i c.loop-i.invariant.0) ∙ counted-own s n a.row a.last a.stored c.loop-i.invariant.4 i t.if-i-row.true) t.row_counted.ensures, omega arith, few, c.loop-i.invariant.3, c.loop-i.invariant.4)
      | else-i-row t ↦ rw t.out-is (done-step s w c.loop-i.out _ i c.loop-i.invariant.3 (omega arith) (omega arith) c.loop-i.invariant.0 t.row_tidied.auto.out (held_row_at c.loop-i.out (48 + 1280 * i)) (still s w c.loop-i.out i c.loop-i.invariant.0 ∙ counted-other s n a.row a.last a.stored c.loop-i.invariant.4 i lt t.if-i-row.false) t.row_tidied.ensures, omega arith, few, c.loop-i.invariant.3, c.loop-i.invariant.4)
    ]

pub shape_of-out : goal.shape_of-out
shape_of-out c = c.loop-i.invariant.0.0

pub returns : goal.returns
returns c =
    let a = c.args in let s = a.out.now in let n = a.count in let k = c.loop-i.invariant.1 in let z = c.loop-i-test.false in let w = counted_rows s n a.row a.last a.stored in let l = counted_long s n a.row a.last a.stored c.loop-i.invariant.4 in
    done_end s w c.loop-i.out c.loop-i.i (omega arith) c.loop-i.invariant.0
