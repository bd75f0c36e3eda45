use mathlib.Core.Path.{◌≡◌}
use Prim.Native.Nat.{◌-◌, ◌≤◌}
use Rattle.wire_put.specs.Placed.{lists_fit}
use Rattle.wire_put.proofs.lists.lists_fit.Given as goal

abbrev pub invariant-loop-i : goal.invariant-loop-i
invariant-loop-i l =
    (l.i ≤ l.n) × (lists_fit l.counts l.n 0 ≡ lists_fit l.counts (l.n - l.i) l.i)
