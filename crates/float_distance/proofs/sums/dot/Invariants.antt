use mathlib.Core.Path.{◌≡◌}
use lib.ListN.{drop}
use lib.Ieee.{binary32, mul}
use Rattle.spec.specs.Nearest.Distance.{sum_from, dot}
use Rattle.float_distance.proofs.sums.dot.Given as goal

abbrev pub invariant-loop-i : goal.invariant-loop-i
invariant-loop-i l =
    sum_from (mul binary32) l.acc (drop l.i l.a) (drop l.i l.b) ≡ dot l.a l.b
