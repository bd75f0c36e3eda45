use Prim.Native.Nat.{◌-◌, ◌≤◌}
use Rattle.spec.specs.Layout.Format.{many}
use Rattle.spec.specs.Layout.Parts.{u64}
use Rattle.wire_read.specs.Shown.{part}
use Rattle.test_decode.specs.Held.{Row}
use Rattle.test_decode.proofs.items.placement.Given as goal

abbrev pub invariant-loop-i : goal.invariant-loop-i
invariant-loop-i l =
    (l.n ≤ 16) × (l.i ≤ l.n) × Row (many 1 0 8 u64) l.s (part l.at (l.n - l.i))
