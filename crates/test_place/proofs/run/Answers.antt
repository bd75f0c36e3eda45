use Rattle.std.proofs.Common.{refl}
use Rattle.test_place.proofs.run.Goals as goal

pub loop-left-init : goal.loop-left-init
loop-left-init c = refl
