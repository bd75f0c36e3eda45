use mathlib.Core.Path.{◌≡◌}
use Prim.Native.Nat.{◌≤◌}
use lib.ListN.{length}
use Rattle.log_check.proofs.Walking.{From}
use Rattle.log_check.proofs.settled.all_settled.Given as goal

abbrev pub invariant-loop-i : goal.invariant-loop-i
invariant-loop-i l =
    (l.i ≤ l.count) × (length l.heads ≡ 2039) × (length l.nexts ≡ 1024) × From l.ids l.codes l.keys l.places l.count l.stored l.i
