use Rattle.num_position.proofs.SignedLaws.{sign_of}
use mathlib.Core.Path.{refl}
use Rattle.num_position.proofs.parts.fields_of.Goals as goal

pub returns : goal.returns
returns c = rw (sign_of c.args.minus) refl
