use Rattle.std.proofs.Common.{arith}
use Rattle.wire_read.proofs.Places.{upsert_count, op_room, upsert_is}
use Rattle.wire_read.proofs.parts.op_at.Goals as goal

pub overflow_add-at : goal.overflow_add-at
overflow_add-at c = omega (arith, op_room c.args.s.now c.args.at c.requires)

pub get8-id-requires : goal.get8-id-requires
get8-id-requires c = omega (arith, op_room c.args.s.now c.args.at c.requires)

pub bounds-s-at : goal.bounds-s-at
bounds-s-at c = omega (arith, op_room c.args.s.now c.args.at c.requires)

pub text_at-vector-requires : goal.text_at-vector-requires
text_at-vector-requires c = omega (arith, upsert_count c.args.s.now c.args.at c.requires c.if-s-at-eq1.true)

pub returns-then-s-at-eq1 : goal.returns-then-s-at-eq1
returns-then-s-at-eq1 c =
    (rw (c.get8-id.ensures, c.text_at-vector.ensures) (upsert_is c.args.s.now c.args.at c.if-s-at-eq1.true))
