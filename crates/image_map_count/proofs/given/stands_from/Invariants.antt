use mathlib.Core.Path.{◌≡◌}
use Prim.Native.Nat.{◌≤◌}
use lib.ListN.{take, drop}
use lib.Dec.{eqb}
use Rattle.spec.specs.Lists.{any}
use Rattle.image_map_count.proofs.given.stands_from.Given as goal

abbrev pub invariant-loop-i : goal.invariant-loop-i
invariant-loop-i l =
    (l.i ≤ l.ids.count) × (any (eqb l.id) (drop l.from (take l.ids.count l.ids.items)) ≡ any (eqb l.id) (drop l.i (take l.ids.count l.ids.items)))
