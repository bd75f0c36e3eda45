use mathlib.Core.Path.{◌≡◌}
use mathlib.Core.List.{map}
use Prim.Native.Nat.{◌-◌, ◌≤◌}
use lib.ListN.{length, take}
use Rattle.spec.specs.declared.DataNodeId.{DataNodeId}
use Rattle.map_request.specs.Parts.{Nodes, nodes_at}
use Rattle.map_request.proofs.lists.load_list.Given as goal

abbrev pub invariant-loop-i : goal.invariant-loop-i
invariant-loop-i l =
    (l.i ≤ l.n) × (l.n ≡ l.p.len) × Nodes l.s l.p × (length l.nodes ≡ 8) × (map (λ (d : DataNodeId). d.0) (take l.i l.nodes) ≡ take l.i (nodes_at l.s l.p))
