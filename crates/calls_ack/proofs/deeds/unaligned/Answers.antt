use mathlib.Core.Path.{refl}
use Rattle.spec.specs.Node.Ack as model
use Rattle.calls_ack.proofs.deeds.unaligned.Goals as goal

pub returns : goal.returns
unfolding model.unaligned
returns c = refl
