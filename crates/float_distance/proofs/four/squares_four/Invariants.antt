use Prim.Native.Nat.{◌≤◌}
use Rattle.spec.specs.Nearest.Distance.{square}
use Rattle.float_distance.proofs.Lanes.{FourLanes}
use Rattle.float_distance.proofs.four.squares_four.Given as goal

abbrev pub invariant-loop-i : goal.invariant-loop-i
invariant-loop-i l =
    (l.i ≤ l.n) × FourLanes square l.query l.floats l.p l.q l.r l.s l.n l.i l.a l.b l.c l.d
