use Rattle.std.proofs.Common.{arith}
use Rattle.spec_laws.proofs.Wire.Tests.{and_left}
use Rattle.wire_read.proofs.Commands.{change-room}
use Rattle.wire_read.proofs.command.change_at.Goals as goal

pub key_at-key-requires : goal.key_at-key-requires
key_at-key-requires c = and_left _ _ c.requires

pub overflow_add-p-2 : goal.overflow_add-p-2
overflow_add-p-2 c = omega (arith, change-room c.args.s.now c.args.at c.requires)

pub overflow_add-p-3 : goal.overflow_add-p-3
overflow_add-p-3 c = omega (arith, change-room c.args.s.now c.args.at c.requires)

pub get8-requires : goal.get8-requires
get8-requires c = omega (arith, change-room c.args.s.now c.args.at c.requires)

pub overflow_add-p-4 : goal.overflow_add-p-4
overflow_add-p-4 c = omega (arith, change-room c.args.s.now c.args.at c.requires)

pub get8-requires-2 : goal.get8-requires-2
get8-requires-2 c = omega (arith, change-room c.args.s.now c.args.at c.requires)
