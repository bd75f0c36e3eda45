-- Paper 01, 'Starred cases': every row of the table row_holds, computed by the checker. Assumes nothing.
use mathlib.Core.Path.{◌≡◌, refl}
use mathlib.Core.Bool.{true}
use lib.ListN.{length}
use Rattle.spec.specs.Lists.{every}
use Rattle.spec.specs.Starred.{row_holds, starred}
use Rattle.spec.proofs.Opened.{opened}

-- there are twelve
pub twelve : length starred ≡ 12
unfolding opened
twelve = refl

pub starred_hold : every row_holds starred ≡ true
unfolding opened
starred_hold = refl
