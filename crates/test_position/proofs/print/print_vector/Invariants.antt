use Prim.Native.Nat.{◌≤◌}
use Rattle.test_position.proofs.print.print_vector.Given as goal

abbrev pub invariant-loop-i : goal.invariant-loop-i
invariant-loop-i l =
    l.i ≤ 4
