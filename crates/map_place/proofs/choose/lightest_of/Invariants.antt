use mathlib.Core.Path.{◌≡◌}
use Prim.Native.Nat.{◌≤◌}
use lib.ListN.{drop}
use Rattle.spec.specs.Lists.{filter}
use Rattle.spec.specs.Map.Place.{lightest}
use Rattle.map_tables.specs.View.{view_list}
use Rattle.map_place.specs.Read.{loads_in, best_of, unlisted}
use Rattle.map_place.proofs.Choosing.{lightest_after}
use Rattle.map_place.proofs.choose.lightest_of.Given as goal

abbrev pub invariant-loop-i : goal.invariant-loop-i
invariant-loop-i l =
    (l.i ≤ l.count) × (lightest (filter (unlisted (view_list l.taken)) (loads_in l.ids l.counts l.count)) ≡ lightest_after (best_of l.best) (filter (unlisted (view_list l.taken)) (drop l.i (loads_in l.ids l.counts l.count))))
