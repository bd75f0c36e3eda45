use Rattle.num_position.proofs.SignedLaws.{plus_is}
use Rattle.num_position.proofs.signed.plain.Goals as goal

pub returns : goal.returns
returns c = plus_is _ c.ranges.n
