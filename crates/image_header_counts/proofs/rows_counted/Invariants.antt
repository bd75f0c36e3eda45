use Prim.Native.Nat.{◌-◌, ◌≤◌, ◌<◌}
use lib.ListN.{length}
use Rattle.image_header_put.proofs.Back.{Done}
use Rattle.image_header_counts.specs.Counts.{counted_rows}
use Rattle.image_header_counts.proofs.rows_counted.Given as goal

abbrev pub invariant-loop-i : goal.invariant-loop-i
invariant-loop-i l =
    Done l.initial.out (counted_rows l.initial.out l.count l.row l.last l.stored) l.out l.i × (l.i ≤ l.count) × (l.count ≤ 8) × (10288 ≤ length l.initial.out) × (l.row < l.count)
