use mathlib.Core.Path.{◌≡◌}
use Prim.Native.Nat.{◌≤◌}
use lib.ListN.{length, take}
use Rattle.image_store_search.specs.Four.{vector_at}
use Rattle.image_store_search.proofs.column.read_vector.Given as goal

abbrev pub invariant-loop-i : goal.invariant-loop-i
invariant-loop-i l =
    (l.i ≤ l.n) × (length l.out ≡ length l.initial.out) × (take l.i l.out ≡ take l.i (vector_at l.s l.at l.n))
