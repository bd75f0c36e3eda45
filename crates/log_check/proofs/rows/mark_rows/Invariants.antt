use mathlib.Core.Path.{◌≡◌}
use Prim.Native.Nat.{◌≤◌}
use lib.ListN.{length}
use Rattle.log_check.specs.Conditions.{Marked, RowsFit}
use Rattle.log_check.proofs.rows.mark_rows.Given as goal

abbrev pub invariant-loop-j : goal.invariant-loop-j
invariant-loop-j l =
    (l.j ≤ l.stored) × (length l.marks ≡ 1024) × Marked l.places l.marks l.j × RowsFit l.ids l.codes l.keys l.places l.count l.j
