use mathlib.Core.Path.{◌≡◌}
use Prim.Native.Nat.{ℕ, ◌≤◌}
use Rattle.calls_join.specs.Buckets.{id_at, Reaches}
use Rattle.calls_join.proofs.repeats.listed.Given as goal

abbrev pub invariant-loop-c : goal.invariant-loop-c
invariant-loop-c l =
    (l.c ≤ l.n) × ((i : ℕ) → Reaches l.next l.from i → id_at l.s l.p i ≡ l.id → Reaches l.next l.c i)

abbrev pub decreases-loop-c : goal.decreases-loop-c
decreases-loop-c l =
    l.c
