use mathlib.Core.Path.{◌≡◌}
use Prim.Native.Nat.{◌≤◌}
use lib.ListN.{length}
use Rattle.calls_join.proofs.Buckets.{Kept}
use Rattle.calls_join.proofs.repeats.apart.Given as goal

abbrev pub invariant-loop-i : goal.invariant-loop-i
invariant-loop-i l =
    (l.i ≤ l.n) × (length l.last ≡ 2048) × (length l.next ≡ 1024) × Kept l.s l.p l.last l.next l.i
