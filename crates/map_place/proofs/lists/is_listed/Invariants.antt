use mathlib.Core.Path.{◌≡◌}
use Prim.Native.Nat.{◌≤◌}
use lib.ListN.{take, drop}
use lib.Dec.{eqb}
use Rattle.spec.specs.Lists.{any}
use Rattle.spec.specs.declared.DataNodeId.{DataNodeId}
use Rattle.map_place.proofs.lists.is_listed.Given as goal

abbrev pub invariant-loop-i : goal.invariant-loop-i
invariant-loop-i l =
    (l.i ≤ l.l.count)
    × (any (λ (d : DataNodeId). eqb l.node.0 d.0) (take l.l.count l.l.nodes) ≡ any (λ (d : DataNodeId). eqb l.node.0 d.0) (drop l.i (take l.l.count l.l.nodes)))
