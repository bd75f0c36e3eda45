use mathlib.Core.Path.{◌≡◌}
use Prim.Native.Nat.{◌≤◌}
use Rattle.log_store.specs.Store.{every_below}
use Rattle.log_check.specs.Entries.{shape_at}
use Rattle.log_check.proofs.entries.listed.Given as goal

abbrev pub invariant-loop-i : goal.invariant-loop-i
invariant-loop-i l =
    (l.i ≤ l.count) × (l.ok ≡ every_below (shape_at l.codes l.lengths) l.i)
