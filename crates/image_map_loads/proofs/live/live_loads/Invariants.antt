use Prim.Native.Nat.{◌≤◌}
use Rattle.image_map_loads.proofs.Loads.{Filled}
use Rattle.image_map_loads.proofs.live.live_loads.Given as goal

abbrev pub invariant-loop-i : goal.invariant-loop-i
invariant-loop-i l =
    (l.i ≤ l.nodes) × (l.n ≤ l.i) × Filled l.s l.ids l.counts l.n l.i
