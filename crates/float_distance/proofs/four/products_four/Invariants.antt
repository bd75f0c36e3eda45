use Prim.Native.Nat.{◌≤◌}
use lib.Ieee.{binary32, mul}
use Rattle.float_distance.specs.Lanes.{stored}
use Rattle.float_distance.proofs.Lanes.{Lane, FourLanes}
use Rattle.float_distance.proofs.four.products_four.Given as goal

abbrev pub invariant-loop-i : goal.invariant-loop-i
invariant-loop-i l =
    (l.i ≤ l.n)
    × (FourLanes (mul binary32) l.query l.floats l.p l.q l.r l.s l.n l.i l.a l.b l.c l.d)
    × Lane (mul binary32) (stored l.floats l.p l.n) (stored l.floats l.p l.n) l.i l.e
    × Lane (mul binary32) (stored l.floats l.q l.n) (stored l.floats l.q l.n) l.i l.f
    × Lane (mul binary32) (stored l.floats l.r l.n) (stored l.floats l.r l.n) l.i l.g
    × Lane (mul binary32) (stored l.floats l.s l.n) (stored l.floats l.s l.n) l.i l.h
