use Rattle.num_position.proofs.SignedLaws.{negated_fits, negated_is}
use Rattle.num_position.proofs.signed.negated.Goals as goal

pub overflow_sub-result : goal.overflow_sub-result
overflow_sub-result c = negated_fits _ c.ranges.n

pub returns : goal.returns
returns c = negated_is _ c.ranges.n
