use Prim.Native.Nat.{◌-◌, ◌≤◌}
use Rattle.spec.specs.Layout.Parts.{entry_f}
use Rattle.wire_read.specs.Shown.{part}
use Rattle.test_decode.specs.Held.{Row}
use Rattle.test_decode.proofs.items.entries.Given as goal

abbrev pub invariant-loop-i : goal.invariant-loop-i
invariant-loop-i l =
    (l.n ≤ 256) × (l.i ≤ l.n) × Row entry_f l.s (part l.at (l.n - l.i))
