use Prim.Native.Nat.{◌+◌, ◌*◌}
use Rattle.image_header_row.specs.Rows.{held_row_at}
use Rattle.image_header_put.proofs.Back.{Done}
use Rattle.calls_wait.specs.Waited.{waited_held_row}
use Rattle.calls_wait.proofs.BackLaws.{rows_set}
use Rattle.calls_wait.proofs.back.rows_waited.Given as goal

abbrev pub invariant-loop-i : goal.invariant-loop-i
invariant-loop-i l =
    Done l.initial.out (rows_set l.initial.out l.count l.at (waited_held_row (held_row_at l.initial.out (48 + 1280 * l.at)) l.clock l.timeout)) l.out l.i
