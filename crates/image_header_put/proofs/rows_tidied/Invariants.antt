use Prim.Native.Nat.{◌-◌, ◌≤◌}
use lib.ListN.{length}
use Rattle.image_header_put.proofs.Back.{rows, Done}
use Rattle.image_header_put.proofs.rows_tidied.Given as goal

abbrev pub invariant-loop-i : goal.invariant-loop-i
invariant-loop-i l =
    Done l.initial.out (rows l.initial.out l.count) l.out l.i × (l.i ≤ l.count) × (l.count ≤ 8) × (10288 ≤ length l.initial.out)
