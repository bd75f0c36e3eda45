use native.Mathlib.Omega.{arith}
use mathlib.Core.Path.{sym}
use lib.Seq.{length-take-le}
use Rattle.test_join.proofs.case.Goals as goal

pub slice_bounds-replay-end-2 : goal.slice_bounds-replay-end-2
slice_bounds-replay-end-2 c = sym (length-take-le _ _ (omega arith))

pub slice_bounds-replay-end-4 : goal.slice_bounds-replay-end-4
slice_bounds-replay-end-4 c = sym (length-take-le _ _ (omega arith))
