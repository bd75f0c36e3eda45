use mathlib.Core.Path.{◌≡◌}
use Prim.Native.Nat.{◌+◌, ◌-◌, ◌≤◌}
use Rattle.wire_read.specs.Shown.{part}
use Rattle.log_domain.specs.Parts.{entries_in, EntriesThere}
use Rattle.log_domain.proofs.GrowthLaws.{grown}
use Rattle.log_domain.proofs.growth.grows_to.Given as goal

abbrev pub invariant-loop-i : goal.invariant-loop-i
invariant-loop-i l =
    (l.i ≤ l.n) × EntriesThere l.s (part l.at (l.n - l.i)) × (l.last ≤ l.count + l.i) × (grown l.last (entries_in l.s (part l.at (l.n - l.i))) ≡ grown l.count (entries_in l.s (part l.initial.at l.n)))
