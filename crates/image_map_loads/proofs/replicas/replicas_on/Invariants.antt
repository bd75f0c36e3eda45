use mathlib.Core.Path.{◌≡◌}
use Prim.Native.Nat.{◌+◌, ◌≤◌}
use lib.ListN.{take, drop}
use Rattle.spec.specs.Map.Place.{on_node}
use Rattle.image_parts.specs.Parts.{replicas_at}
use Rattle.image_map_loads.proofs.replicas.replicas_on.Given as goal

abbrev pub invariant-loop-i : goal.invariant-loop-i
invariant-loop-i l =
    (l.i ≤ l.count) × (l.n ≤ l.i) × (on_node l.node (take l.count (replicas_at l.s l.at)) ≡ l.n + on_node l.node (drop l.i (take l.count (replicas_at l.s l.at))))
