-- The list by the loads of a small map: the premise of OnLoads holds there, and the list is the computed one. Assumes nothing.
use mathlib.Core.Path.{◌≡◌, refl, ◌∙◌}
use Rattle.spec.specs.Cases.Commands.{sized}
use Rattle.spec.proofs.Opened.{opened}
use Rattle.spec_losses.specs.Losses.{losses_of}
use Rattle.spec_losses.specs.Loads.{live_loads}
use Rattle.spec_losses.proofs.Cases.{hall}
use Rattle.image_map_losses.specs.Left.{losses_on}
use Rattle.image_map_losses.proofs.OnLoads.{losses-on}

by_loads : losses_on (sized 2 1 2) (live_loads (hall (sized 2 1 2))) ≡ losses_of (hall (sized 2 1 2)) (sized 2 1 2)
unfolding opened
by_loads = losses-on (hall (sized 2 1 2)) (sized 2 1 2) refl
