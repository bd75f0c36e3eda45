use mathlib.Core.Path.{◌≡◌}
use lib.ListN.{drop}
use Rattle.spec.specs.Nearest.Distance.{sum_from, square, squares}
use Rattle.float_distance.proofs.sums.squares.Given as goal

abbrev pub invariant-loop-i : goal.invariant-loop-i
invariant-loop-i l =
    sum_from square l.acc (drop l.i l.a) (drop l.i l.b) ≡ squares l.a l.b
