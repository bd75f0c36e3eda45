use Prim.Native.Nat.{◌≤◌}
use lib.ListN.{length}
use Rattle.test_join.proofs.print_hits.Given as goal

abbrev pub invariant-loop : goal.invariant-loop
invariant-loop l =
    l.at ≤ length l.out
