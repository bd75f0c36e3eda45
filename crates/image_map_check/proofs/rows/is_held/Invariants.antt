use mathlib.Core.Path.{◌≡◌}
use Prim.Native.Nat.{◌≤◌}
use lib.ListN.{take, drop}
use Rattle.spec.specs.Lists.{any}
use Rattle.spec.specs.Map.Change.{is_on}
use Rattle.image_parts.specs.Parts.{replicas_at}
use Rattle.image_map_check.proofs.rows.is_held.Given as goal

abbrev pub invariant-loop-i : goal.invariant-loop-i
invariant-loop-i l =
    (l.i ≤ l.count) × (any (is_on l.id) (take l.count (replicas_at l.s l.at)) ≡ any (is_on l.id) (drop l.i (take l.count (replicas_at l.s l.at))))
