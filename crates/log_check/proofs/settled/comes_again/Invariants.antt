use mathlib.Core.Path.{◌≡◌}
use Prim.Native.Nat.{ℕ, ◌≤◌, ◌<◌}
use lib.ListN.{get_or}
use Rattle.log_check.proofs.settled.comes_again.Given as goal

abbrev pub invariant-loop-k : goal.invariant-loop-k
invariant-loop-k l =
    (l.i < l.k) × (l.k ≤ l.count) × ((j : ℕ) → l.i < j → j < l.k → get_or l.ids j 0 ≡ get_or l.ids l.i 0 → ⊥)
