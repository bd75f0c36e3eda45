use Prim.Native.Nat.{◌+◌, ◌-◌, ◌≤◌}
use mathlib.Core.Path.{◌≡◌}
use mathlib.Core.Bool.{true}
use lib.ListN.{length}
use lib.Seq.{sets}
use Rattle.wire_put.specs.Rows.{rows_fit, rows_size, rows_bytes}
use Rattle.wire_put.proofs.columns.put_rows.Given as goal

abbrev pub invariant-loop-i : goal.invariant-loop-i
invariant-loop-i l =
    (l.i ≤ l.n) × (length l.out ≡ length l.initial.out) × (rows_fit l.codes l.lens (l.n - l.i) l.i ≡ true) × (l.p + rows_size l.codes l.lens (l.n - l.i) l.i ≡ l.at + rows_size l.codes l.lens l.n 0) × (sets l.out l.p (rows_bytes l.epochs l.offsets l.codes l.ids l.lens l.bits (l.n - l.i) l.i) ≡ sets l.initial.out l.at (rows_bytes l.epochs l.offsets l.codes l.ids l.lens l.bits l.n 0))
