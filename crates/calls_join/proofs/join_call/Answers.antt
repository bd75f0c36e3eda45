use Rattle.calls_join.proofs.Calls.{is-short, joins_for, no_count, refused_for_23}
use Rattle.calls_join.proofs.join_call.Goals as goal

pub returns-then-hits-m : goal.returns-then-hits-m
returns-then-hits-m c = rw c.from.ensures (refused_for_23 _ _ _ _ _ (is-short _ _ _ _ _ c.in-Ok.ensures _ c.if-hits-m.true))

pub returns-then-answer-lt8 : goal.returns-then-answer-lt8
returns-then-answer-lt8 c = rw c.from-then-answer-lt8.ensures (no_count _ _ _ _ _ c.in-Ok.ensures _ _ c.if-hits-m.false c.if-answer-lt8.true)

pub returns-else-answer-lt8 : goal.returns-else-answer-lt8
returns-else-answer-lt8 c = joins_for _ _ _ _ _ c.in-Ok.ensures _ _ c.if-hits-m.false c.merge.ensures _ _ c.if-answer-lt8.false c.put8.ensures
