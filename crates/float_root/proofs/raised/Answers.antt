use Rattle.std.proofs.Common.{arith}
use Rattle.float_root.proofs.Settle.{square-fits, root_small}
use Rattle.float_root.proofs.raised.Goals as goal

pub overflow_mul-r : goal.overflow_mul-r
overflow_mul-r c = omega (arith, square-fits c.loop-r.r c.loop-r.invariant)

pub overflow_add-r : goal.overflow_add-r
overflow_add-r c = omega (arith, square-fits c.loop-r.r c.loop-r.invariant)

pub loop-r-smaller : goal.loop-r-smaller
loop-r-smaller c = omega arith

pub loop-r-preserved : goal.loop-r-preserved
loop-r-preserved c =
    omega (
      arith,
      root_small c.args.n c.loop-r.r c.requires.0
          c.loop-r-test.true,
    )
