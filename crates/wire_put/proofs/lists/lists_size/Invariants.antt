use mathlib.Core.Path.{◌≡◌}
use Prim.Native.Nat.{◌+◌, ◌-◌, ◌*◌, ◌≤◌}
use mathlib.Core.Bool.{true}
use Rattle.wire_put.specs.Placed.{lists_fit, lists_size}
use Rattle.wire_put.proofs.lists.lists_size.Given as goal

abbrev pub invariant-loop-i : goal.invariant-loop-i
invariant-loop-i l =
    (l.i ≤ l.n) × (lists_fit l.counts (l.n - l.i) l.i ≡ true) × (l.total ≤ 65 * l.i) × (l.total + lists_size l.counts (l.n - l.i) l.i ≡ lists_size l.counts l.n 0)
