use Prim.Native.Nat.{◌≤◌}
use lib.ListN.{take}
use Rattle.image_parts.specs.Parts.{replicas_at}
use Rattle.map_place.specs.Read.{best_of}
use Rattle.image_map_loads.proofs.Loads.{Held}
use Rattle.image_map_loads.proofs.lightest.lightest_beside.Given as goal

abbrev pub invariant-loop-i : goal.invariant-loop-i
invariant-loop-i l =
    (l.i ≤ l.nodes) × Held l.s (take l.held (replicas_at l.s l.at)) (best_of l.best) l.i
