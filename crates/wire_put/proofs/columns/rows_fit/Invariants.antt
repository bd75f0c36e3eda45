use Prim.Native.Nat.{◌-◌, ◌≤◌}
use mathlib.Core.Path.{◌≡◌}
use Rattle.wire_put.specs.Rows.{rows_fit}
use Rattle.wire_put.proofs.columns.rows_fit.Given as goal

abbrev pub invariant-loop-i : goal.invariant-loop-i
invariant-loop-i l =
    (l.i ≤ l.n) × (rows_fit l.codes l.lens l.n 0 ≡ rows_fit l.codes l.lens (l.n - l.i) l.i)
