use Rattle.calls_position.proofs.Pattern.{some_size, one_less, down_from_lem, plain_size}
use Rattle.calls_position.proofs.stored.pattern.Goals as goal

pub overflow_sub-result : goal.overflow_sub-result
overflow_sub-result c = some_size _ c.ranges.z _ _ c.split-s.ensures c.if-s.true

pub overflow_sub-result-then-s : goal.overflow_sub-result-then-s
overflow_sub-result-then-s c = one_less _ c.ranges.z _ _ c.split-s.ensures

pub returns-then-s : goal.returns-then-s
returns-then-s c = down_from_lem _ c.ranges.z _ _ c.split-s.ensures c.if-s.true

pub returns : goal.returns
returns c = plain_size _ c.ranges.z _ _ c.split-s.ensures c.if-s.false
