use mathlib.Core.Path.{◌≡◌}
use Prim.Native.Nat.{◌≤◌}
use Rattle.log_store.specs.Store.{every_below}
use Rattle.log_check.specs.Entries.{number_fits}
use Rattle.log_check.proofs.entries.numbered.Given as goal

abbrev pub invariant-loop-i : goal.invariant-loop-i
invariant-loop-i l =
    (l.i ≤ l.count) × (l.ok ≡ every_below (number_fits l.offsets) l.i)
