use mathlib.Core.Path.{◌≡◌}
use Prim.Native.Nat.{◌≤◌}
use lib.ListN.{drop}
use Rattle.spec.specs.Lists.{every}
use Rattle.spec.specs.Map.Create.{list_matches}
use Rattle.map_tables.specs.View.{view_placement}
use Rattle.map_create.proofs.lists_match.Given as goal

abbrev pub invariant-loop-i : goal.invariant-loop-i
invariant-loop-i l =
    (l.i ≤ l.p.count) × (every (list_matches l.replication) (view_placement l.p) ≡ every (list_matches l.replication) (drop l.i (view_placement l.p)))
