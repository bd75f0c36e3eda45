-- Paper 01, 'Place': every row of the table holds, computed by the checker. Assumes nothing.
use mathlib.Core.Path.{◌≡◌, refl}
use mathlib.Core.List.{map}
use Rattle.spec.specs.Map.Place.{place, replacement, nobody}
use Rattle.spec.specs.Cases.Commands.{part}
use Rattle.spec.specs.Cases.Placing.{loaded, placing, ten, wide, replacing, taken}
use Rattle.spec.proofs.Opened.{opened}

pub placing-holds : map (λ r. place loaded r.spec) placing ≡ map (λ r. r.placed) placing
unfolding opened
placing-holds = refl

pub wide-holds : map (λ r. place ten r.spec) wide ≡ map (λ r. r.placed) wide
unfolding opened
wide-holds = refl

pub replacing-holds : map (λ r. replacement loaded r.key) replacing ≡ map (λ r. r.replaced) replacing
unfolding opened
replacing-holds = refl

-- a node that the shard lists under an old incarnation holds it all the same
pub nobody_left : replacement taken (part 0) ≡ nobody
unfolding opened
nobody_left = refl
