use Rattle.std.proofs.Common.{arith}
use Rattle.wire_read.proofs.Commands.{dead-room}
use Rattle.wire_read.proofs.command.dead_at.Goals as goal

pub get8-requires : goal.get8-requires
get8-requires c = omega (arith, dead-room c.args.s.now c.args.at c.requires)

pub overflow_add-at : goal.overflow_add-at
overflow_add-at c = omega (arith, dead-room c.args.s.now c.args.at c.requires)

pub get8-incarnation-requires : goal.get8-incarnation-requires
get8-incarnation-requires c = omega (arith, dead-room c.args.s.now c.args.at c.requires)
