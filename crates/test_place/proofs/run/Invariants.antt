use Rattle.std.proofs.Common.{◌≡◌, length}
use Rattle.test_place.proofs.run.Given as goal

abbrev pub invariant-loop-left : goal.invariant-loop-left
invariant-loop-left l =
    length l.map ≡ length l.initial.map

abbrev pub decreases-loop-left : goal.decreases-loop-left
decreases-loop-left l =
    l.left
