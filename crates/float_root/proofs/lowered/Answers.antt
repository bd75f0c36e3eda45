use Rattle.std.proofs.Common.{arith}
use Rattle.float_root.proofs.Settle.{square-fits, step_pos, step_down_lem}
use Rattle.float_root.proofs.lowered.Goals as goal

pub overflow_mul-r : goal.overflow_mul-r
overflow_mul-r c = omega (arith, square-fits c.loop-r.r c.loop-r.invariant.1)

pub overflow_sub-r : goal.overflow_sub-r
overflow_sub-r c = step_pos c.args.n c.loop-r.r c.requires.0 (omega arith)

pub loop-r-smaller : goal.loop-r-smaller
loop-r-smaller c =
    omega (
      arith,
      step_pos c.args.n c.loop-r.r c.requires.0
          (omega arith),
    )

pub loop-r-preserved : goal.loop-r-preserved
loop-r-preserved c = (step_down_lem c.args.n c.loop-r.r (omega arith), omega arith)

pub returns : goal.returns
returns c = (c.loop-r.invariant.0, omega arith)
