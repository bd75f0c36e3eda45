use mathlib.Core.Path.{◌≡◌}
use Prim.Native.Nat.{◌≤◌}
use Rattle.image_store_align.proofs.Pairs.{Passed}
use Rattle.image_store_align.proofs.agrees.Given as goal

abbrev pub invariant-loop-i : goal.invariant-loop-i
invariant-loop-i l =
    (l.n ≡ l.table.len) × (l.i ≤ l.n) × Passed l.message l.table l.offset l.i
