use mathlib.Core.Path.{ap, ◌∙◌}
use lib.Ieee.{binary32}
use Rattle.spec.specs.Nearest.Root.{sqrt}
use Rattle.float_distance.proofs.sums.norm.Goals as goal

pub returns : goal.returns
returns c = c.sqrt_f32.ensures ∙ ap (sqrt binary32) c.dot.ensures
