use mathlib.Core.Path.{◌≡◌}
use Prim.Native.Nat.{◌+◌, ◌*◌, ◌≤◌}
use lib.ListN.{drop}
use Rattle.spec.specs.Map.Place.{replicas_of}
use Rattle.map_tables.specs.View.{view_shards}
use Rattle.image_map.specs.Image.{shards_at}
use Rattle.image_map_loads.proofs.replicas.replicas_of.Given as goal

abbrev pub invariant-loop-i : goal.invariant-loop-i
invariant-loop-i l =
    (l.i ≤ l.shards) × (l.n ≤ 8 * l.i) × (replicas_of l.node (view_shards (shards_at l.s)) ≡ l.n + replicas_of l.node (drop l.i (view_shards (shards_at l.s))))
