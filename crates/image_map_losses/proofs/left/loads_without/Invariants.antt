use mathlib.Core.Path.{◌≡◌}
use Prim.Native.Nat.{◌-◌, ◌≤◌}
use lib.ListN.{length}
use Rattle.spec.specs.Lists.{collect}
use Rattle.map_place.specs.Read.{loads_in}
use Rattle.image_map_losses.proofs.OnLoads.{others}
use Rattle.spec.specs.Map.Place as place
use Rattle.image_map_losses.proofs.left.loads_without.Given as goal

abbrev pub invariant-loop-i : goal.invariant-loop-i
invariant-loop-i l =
    (l.i ≤ l.l.count) × (l.n ≤ l.i) × (length l.ids ≡ 32) × (length l.counts ≡ 32) × (loads_in l.ids l.counts l.n ≡ collect (others l.node.0) (λ (x : place.Load). x) (loads_in l.l.ids l.l.counts l.i))
