use Rattle.std.proofs.Common.{sym, arith, length-take-le}
use Rattle.test_count.proofs.records.fill.Goals as goal

pub slice_bounds-read_full-end-2 : goal.slice_bounds-read_full-end-2
slice_bounds-read_full-end-2 c = sym (length-take-le _ _ (omega arith))
