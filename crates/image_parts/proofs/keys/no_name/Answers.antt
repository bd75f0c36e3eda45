use mathlib.Core.Path.{refl}
use Rattle.image_parts.specs.Parts.{no_name}
use Rattle.image_parts.proofs.keys.no_name.Goals as goal

pub returns : goal.returns
unfolding no_name
returns c = refl
