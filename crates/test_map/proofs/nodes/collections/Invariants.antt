use Prim.Native.Nat.{◌-◌, ◌≤◌}
use Rattle.test_map.proofs.nodes.collections.Given as goal

abbrev pub invariant-loop-i : goal.invariant-loop-i
invariant-loop-i l =
    l.i ≤ l.count
