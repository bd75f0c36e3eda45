use Prim.Native.Nat.{◌+◌, ◌-◌, ◌≤◌}
use mathlib.Core.Path.{◌≡◌}
use Rattle.spec.specs.Layout.Format.{all_within}
use Rattle.wire_shape.proofs.within.Given as goal

abbrev pub invariant-loop-i : goal.invariant-loop-i
invariant-loop-i l =
    (l.i ≤ l.n) × (all_within l.lo l.hi l.n l.s l.at ≡ all_within l.lo l.hi (l.n - l.i) l.s (l.at + l.i))
