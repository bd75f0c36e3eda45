use Rattle.num_position.proofs.SignedLaws.{less_fits, less_cast, size_fits, with-minus, plus_cast, with_plus}
use Rattle.num_position.proofs.signed.split.Goals as goal

pub overflow_sub-less : goal.overflow_sub-less
overflow_sub-less c = less_fits _ c.ranges.z c.if-z-lt0.true

pub overflow_cast-result : goal.overflow_cast-result
overflow_cast-result c = less_cast _ c.ranges.z c.if-z-lt0.true

pub overflow_add-result : goal.overflow_add-result
overflow_add-result c = size_fits _ c.ranges.z c.if-z-lt0.true

pub returns-then-z-lt0 : goal.returns-then-z-lt0
returns-then-z-lt0 c = with-minus _ c.ranges.z c.if-z-lt0.true

pub overflow_cast-result-2 : goal.overflow_cast-result-2
overflow_cast-result-2 c = plus_cast _ c.ranges.z c.if-z-lt0.false

pub returns : goal.returns
returns c = with_plus _ c.ranges.z c.if-z-lt0.false
