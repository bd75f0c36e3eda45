use mathlib.Core.Path.{◌≡◌}
use Prim.Native.Nat.{◌+◌, ◌≤◌}
use lib.ListN.{drop}
use Rattle.spec.specs.Lists.{lead}
use Rattle.spec.specs.Map.Change.{id_below}
use Rattle.map_tables.specs.View.{view_in_sync}
use Rattle.map_tables.proofs.holders_of.synced_place.Given as goal

abbrev pub invariant-loop-i : goal.invariant-loop-i
invariant-loop-i l =
    (l.i ≤ l.s.count) × (lead (λ y. id_below y l.node) (view_in_sync l.s) ≡ l.i + lead (λ y. id_below y l.node) (drop l.i (view_in_sync l.s)))
