use mathlib.Core.Path.{◌≡◌}
use Prim.Native.Nat.{◌≤◌}
use lib.ListN.{length, take}
use mathlib.Core.Bool.{not}
use Rattle.spec.specs.Lists.{filter}
use Rattle.spec.specs.Map.Change.{is_id}
use Rattle.map_tables.proofs.holders_of.synced_removed.Given as goal

abbrev pub invariant-loop-i : goal.invariant-loop-i
invariant-loop-i l =
    (l.i ≤ l.count) × (l.n ≤ l.i) × (length l.out ≡ 8) × (take l.n l.out ≡ filter (λ r. not (is_id l.node.0 r)) (take l.i l.xs))
