use Prim.Native.Nat.{◌-◌, ◌≤◌}
use Rattle.loadsheet.proofs.print_lines.Given as goal

abbrev pub invariant-loop-i : goal.invariant-loop-i
invariant-loop-i l =
    l.i ≤ l.l.count
