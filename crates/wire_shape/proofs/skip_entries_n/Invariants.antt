use Prim.Native.Nat.{◌-◌, ◌≤◌}
use mathlib.Core.Path.{◌≡◌}
use Rattle.spec.specs.Layout.Parts.{entry_f}
use Rattle.wire_shape.specs.Skip.{skip_n}
use Rattle.wire_shape.proofs.skip_entries_n.Given as goal

abbrev pub invariant-loop-i : goal.invariant-loop-i
invariant-loop-i l =
    (l.i ≤ l.n) × (skip_n entry_f l.s l.n l.at ≡ skip_n entry_f l.s (l.n - l.i) l.p)
