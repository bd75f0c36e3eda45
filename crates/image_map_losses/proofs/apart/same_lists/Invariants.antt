use mathlib.Core.Path.{◌≡◌}
use Prim.Native.Nat.{◌-◌, ◌≤◌}
use lib.ListN.{drop}
use lib.Dec.{eqb}
use Rattle.map_tables.specs.View.{view_placement}
use Rattle.spec_losses.specs.Losses.{same_all}
use Rattle.image_map_losses.proofs.apart.same_lists.Given as goal

abbrev pub invariant-loop-i : goal.invariant-loop-i
invariant-loop-i l =
    (l.i ≤ l.n) × (same_all (same_all eqb) (view_placement l.a) (view_placement l.b) ≡ same_all (same_all eqb) (drop l.i (view_placement l.a)) (drop l.i (view_placement l.b)))
