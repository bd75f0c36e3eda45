use mathlib.Core.Path.{◌≡◌}
use Prim.Native.Nat.{◌≤◌, ◌^◌}
use Rattle.spec.specs.Limits.{max_u64}
use Rattle.spec_count.specs.Closed.{geometric}
use Rattle.image_map_count.proofs.sums.geometric.Given as goal

abbrev pub invariant-loop-i : goal.invariant-loop-i
invariant-loop-i l =
    (l.i ≤ l.n) × (l.sum ≡ geometric l.base l.i) × (l.last ≡ l.base ^ l.i) × (l.sum ≤ max_u64)
