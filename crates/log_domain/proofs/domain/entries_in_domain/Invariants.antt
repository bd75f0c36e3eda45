use mathlib.Core.Path.{◌≡◌}
use Prim.Native.Nat.{◌-◌, ◌≤◌}
use Rattle.spec.specs.Lists.{every}
use Rattle.spec.specs.Node.Wire.{entry_in_domain}
use Rattle.wire_read.specs.Shown.{part}
use Rattle.log_domain.specs.Parts.{entries_in, EntriesThere}
use Rattle.log_domain.proofs.domain.entries_in_domain.Given as goal

abbrev pub invariant-loop-i : goal.invariant-loop-i
invariant-loop-i l =
    (l.i ≤ l.n) × EntriesThere l.s (part l.at (l.n - l.i)) × (every entry_in_domain (entries_in l.s (part l.at (l.n - l.i))) ≡ every entry_in_domain (entries_in l.s (part l.initial.at l.n)))
