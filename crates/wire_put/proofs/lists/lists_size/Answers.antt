use native.Mathlib.Omega.{arith}
use Prim.Native.Nat.{◌<◌}
use Rattle.wire_put.proofs.Placed.{size_step, list_count, lists_later}
use Rattle.wire_put.proofs.lists.lists_size.Goals as goal

pub loop-i-preserved : goal.loop-i-preserved
loop-i-preserved c =
    let l = c.loop-i in
    let a = c.args in
    let h : l.i < a.n = omega arith in
    let k = list_count a.counts.now a.n l.i h l.invariant.1 in (
      omega arith,
      lists_later a.counts.now a.n l.i h l.invariant.1,
      omega arith,
      omega (arith, size_step a.counts.now a.n l.i h),
    )
