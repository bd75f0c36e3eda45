use mathlib.Core.Path.{◌≡◌}
use Prim.Native.Nat.{◌+◌, ◌≤◌}
use lib.ListN.{length}
use Rattle.image_send_entries.proofs.Runs.{pairs_from}
use Rattle.image_send_entries.proofs.table.pairs_of.Given as goal

abbrev pub invariant-loop-i : goal.invariant-loop-i
invariant-loop-i l =
    (l.i ≤ l.n) × (l.pairs ≤ l.i) × (l.pairs + length (pairs_from l.s l.base l.n l.i) ≡ length (pairs_from l.s l.base l.n 0))
