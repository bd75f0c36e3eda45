-- Paper 01, 'Near misses': the definitions get each of the five cases right, computed by the checker. Assumes nothing.
use mathlib.Core.Path.{◌≡◌, refl}
use mathlib.Core.Bool.{true}
use mathlib.Core.List.{[], ◌∷◌}
use Rattle.spec.specs.NearMisses.{near_misses}
use Rattle.spec.proofs.Opened.{opened}

pub near_misses_pass : near_misses ≡ true ∷ true ∷ true ∷ true ∷ true ∷ []
unfolding opened
near_misses_pass = refl
