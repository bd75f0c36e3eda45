use Prim.Native.Nat.{◌-◌, ◌≤◌}
use Rattle.map_tables.specs.Names.{view_name}
use Rattle.map_tables.specs.View.{view_placement}
use Rattle.image_map_create.proofs.Grown.{Grown}
use Rattle.image_map_create.proofs.shards.shards_put.Given as goal

abbrev pub invariant-loop-i : goal.invariant-loop-i
invariant-loop-i l =
    (l.i ≤ l.p.count) × Grown l.initial.out (view_name l.name) (view_placement l.p) l.out l.i
