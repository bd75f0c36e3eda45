use Prim.Native.Nat.{◌-◌, ◌≤◌}
use mathlib.Core.Path.{◌≡◌}
use Rattle.spec.specs.Layout.Format.{many}
use Rattle.spec.specs.Layout.Parts.{u64}
use Rattle.wire_shape.specs.Skip.{skip_n}
use Rattle.wire_shape.proofs.skip_lists_n.Given as goal

abbrev pub invariant-loop-i : goal.invariant-loop-i
invariant-loop-i l =
    (l.i ≤ l.n) × (skip_n (many 1 0 8 u64) l.s l.n l.at ≡ skip_n (many 1 0 8 u64) l.s (l.n - l.i) l.p)
