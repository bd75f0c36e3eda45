use mathlib.Core.Path.{◌≡◌}
use Prim.Native.Nat.{◌+◌, ◌≤◌}
use lib.ListN.{drop}
use mathlib.Core.Bool.{not}
use Rattle.spec.specs.Lists.{lead}
use Rattle.spec.specs.Map.Place.{is_load}
use Rattle.map_place.specs.Read.{loads_in}
use Rattle.map_place.proofs.choose.raise.Given as goal

abbrev pub invariant-loop-i : goal.invariant-loop-i
invariant-loop-i l =
    (l.i ≤ l.count) × (l.counts ≡ l.initial.counts) × (lead (λ x. not (is_load l.node x)) (loads_in l.ids l.initial.counts l.count) ≡ l.i + lead (λ x. not (is_load l.node x)) (drop l.i (loads_in l.ids l.initial.counts l.count)))
