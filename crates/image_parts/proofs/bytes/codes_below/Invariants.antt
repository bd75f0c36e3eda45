use mathlib.Core.Path.{◌≡◌}
use Prim.Native.Nat.{◌+◌, ◌-◌, ◌*◌, ◌≤◌}
use Rattle.image_parts.specs.Shape.{codes_below}
use Rattle.image_parts.proofs.bytes.codes_below.Given as goal

abbrev pub invariant-loop-i : goal.invariant-loop-i
invariant-loop-i l =
    (l.i ≤ l.n) × (codes_below l.limit l.w l.s (l.n - l.i) (l.at + l.w * l.i) ≡ codes_below l.limit l.w l.s l.n l.at)
