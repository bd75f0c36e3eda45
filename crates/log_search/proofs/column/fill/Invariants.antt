use mathlib.Core.Path.{◌≡◌}
use Prim.Native.Nat.{◌-◌, ◌≤◌}
use lib.ListN.{length}
use Rattle.log_search.specs.Column.{Filled}
use Rattle.log_search.proofs.column.fill.Given as goal

abbrev pub invariant-loop-i : goal.invariant-loop-i
invariant-loop-i l =
    (l.i ≤ l.stored) × (length l.xs ≡ length l.initial.xs) × Filled l.codes l.lengths l.floats l.count l.places l.metric l.query l.xs l.i

abbrev pub decreases-loop-i : goal.decreases-loop-i
decreases-loop-i l =
    l.stored - l.i
