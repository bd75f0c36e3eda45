use Rattle.std.proofs.Common.{arith}
use Rattle.wire_read.proofs.Places.{entry-fits, entry-room}
use Rattle.wire_read.proofs.parts.entry_at.Goals as goal

pub get8-requires : goal.get8-requires
get8-requires c = omega (arith, entry-room c.args.s.now c.args.at c.requires)

pub overflow_add-at : goal.overflow_add-at
overflow_add-at c = omega (arith, entry-room c.args.s.now c.args.at c.requires)

pub get8-requires-2 : goal.get8-requires-2
get8-requires-2 c = omega (arith, entry-room c.args.s.now c.args.at c.requires)

pub overflow_add-at-2 : goal.overflow_add-at-2
overflow_add-at-2 c = omega (arith, entry-room c.args.s.now c.args.at c.requires)

pub overflow_add-at-3 : goal.overflow_add-at-3
overflow_add-at-3 c = omega (arith, entry-room c.args.s.now c.args.at c.requires)

pub op_at-op-requires : goal.op_at-op-requires
op_at-op-requires c = entry-fits c.args.s.now c.args.at c.requires

pub overflow_add-at-4 : goal.overflow_add-at-4
overflow_add-at-4 c = omega (arith, entry-room c.args.s.now c.args.at c.requires)

pub overflow_add-at-5 : goal.overflow_add-at-5
overflow_add-at-5 c = omega (arith, entry-room c.args.s.now c.args.at c.requires)

pub op_end-next-requires : goal.op_end-next-requires
op_end-next-requires c = entry-fits c.args.s.now c.args.at c.requires
