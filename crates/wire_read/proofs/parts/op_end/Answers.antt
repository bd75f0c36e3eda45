use Rattle.std.proofs.Common.{arith}
use Rattle.wire_read.proofs.Places.{upsert_count, op_room, upsert_next}
use Rattle.wire_read.proofs.parts.op_end.Goals as goal

pub bounds-s-at : goal.bounds-s-at
bounds-s-at c = omega (arith, op_room c.args.s.now c.args.at c.requires)

pub bounds-s-at-then-s-at-eq1 : goal.bounds-s-at-then-s-at-eq1
bounds-s-at-then-s-at-eq1 c = omega (arith, upsert_count c.args.s.now c.args.at c.requires c.if-s-at-eq1.true)

pub returns-then-s-at-eq1 : goal.returns-then-s-at-eq1
returns-then-s-at-eq1 c = upsert_next c.args.s.now c.args.at c.if-s-at-eq1.true

pub overflow_add-result-2 : goal.overflow_add-result-2
overflow_add-result-2 c = omega (arith, op_room c.args.s.now c.args.at c.requires)

pub overflow_add-result-3 : goal.overflow_add-result-3
overflow_add-result-3 c = omega (arith, op_room c.args.s.now c.args.at c.requires)
