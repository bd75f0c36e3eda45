use Prim.Native.Nat.{◌<◌}
use native.Mathlib.Omega.{arith}
use Rattle.wire_put.proofs.Rows.{size_step, row-op, rows_later, row_small}
use Rattle.wire_put.proofs.columns.rows_size.Goals as goal

pub op_size-requires : goal.op_size-requires
op_size-requires c =
    let l = c.loop-i in
    let a = c.args in
    let h : l.i < a.n = omega arith in
    row-op a.codes.now a.lens.now a.n l.i h l.invariant.1

pub loop-i-preserved : goal.loop-i-preserved
loop-i-preserved c =
    let l = c.loop-i in
    let a = c.args in
    let h : l.i < a.n = omega arith in (
      omega arith,
      rows_later a.codes.now a.lens.now a.n l.i h l.invariant.1,
      omega (arith, c.op_size.ensures, row_small a.codes.now a.lens.now a.n l.i h l.invariant.1),
      omega (arith, c.op_size.ensures, size_step a.codes.now a.lens.now a.n l.i h),
    )
