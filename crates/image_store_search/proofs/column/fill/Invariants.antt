use mathlib.Core.Path.{◌≡◌}
use Prim.Native.Nat.{◌-◌, ◌≤◌}
use lib.ListN.{length}
use Rattle.image_store_search.specs.Column.{Filled}
use Rattle.image_store_search.proofs.column.fill.Given as goal

abbrev pub invariant-loop-i : goal.invariant-loop-i
invariant-loop-i l =
    (l.i ≤ l.stored) × (length l.xs ≡ 1024) × Filled l.s l.base l.metric l.query l.qnorm l.xs l.i

abbrev pub decreases-loop-i : goal.decreases-loop-i
decreases-loop-i l =
    l.stored - l.i
