use Prim.Native.Nat.{◌+◌, ◌-◌, ◌*◌, ◌≤◌}
use mathlib.Core.Path.{◌≡◌}
use mathlib.Core.Bool.{true}
use Rattle.wire_put.specs.Rows.{rows_fit, rows_size}
use Rattle.wire_put.proofs.columns.rows_size.Given as goal

abbrev pub invariant-loop-i : goal.invariant-loop-i
invariant-loop-i l =
    (l.i ≤ l.n) × (rows_fit l.codes l.lens (l.n - l.i) l.i ≡ true) × (l.total ≤ 154 * l.i) × (l.total + rows_size l.codes l.lens (l.n - l.i) l.i ≡ rows_size l.codes l.lens l.n 0)
