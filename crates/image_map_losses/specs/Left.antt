-- The list of losses by the loads of the live nodes: one run of place for all of them, and one without each. That it is the list of the
-- definition is shown in proofs/OnLoads.antt. Definitions only.
use Rattle.std.specs.Prelude.{ℕ, ◌≤◌, ◌≡◌, Bool, not, List, length}
use Rattle.spec.specs.Lists.{collect}
use Rattle.spec.specs.Map.Tables.{Spec}
use Rattle.spec.specs.Map.Place as place
use Rattle.spec.specs.Map.Place.{place_on}
use Rattle.spec_losses.specs.Losses.{Loss, same_placed}
use Rattle.spec_losses.specs.Loads.{without_load}
use Rattle.map_place.specs.Read.{view_loads}
use Rattle.map_place.specs.declared.Loads.{Loads}

-- the answer without a node
unfoldable pub loss_on : Spec → List place.Load → place.Load → Loss
loss_on spec l x = record { node = x.node; then = place_on spec (without_load x.node l) }

-- it is another
unfoldable pub matters_on : Spec → List place.Load → place.Load → Bool
matters_on spec l x = not (same_placed (loss_on spec l x).then (place_on spec l))

unfoldable pub losses_on : Spec → List place.Load → List Loss
losses_on spec l = collect (matters_on spec l) (loss_on spec l) l

-- the loads without a node
pub record Left (l : Loads) (n : ℕ) (r : Loads) : Type 0 where
  pub loads : view_loads r ≡ without_load n (view_loads l)
  pub size : length (view_loads r) ≡ r.count
  pub count : r.count ≤ 32
