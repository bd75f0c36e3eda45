use Rattle.std.proofs.Common.{arith}
use Rattle.wire_read.proofs.Commands.{register_room, register_is}
use Rattle.wire_read.proofs.command.register_at.Goals as goal

pub get8-requires : goal.get8-requires
get8-requires c = omega (arith, register_room c.args.s.now c.args.at c.requires)

pub overflow_add-at : goal.overflow_add-at
overflow_add-at c = omega (arith, register_room c.args.s.now c.args.at c.requires)

pub text_at-address-requires : goal.text_at-address-requires
text_at-address-requires c = omega (arith, register_room c.args.s.now c.args.at c.requires)

pub overflow_add-at-4 : goal.overflow_add-at-4
overflow_add-at-4 c = omega (arith, register_room c.args.s.now c.args.at c.requires)

pub get8-incarnation-requires : goal.get8-incarnation-requires
get8-incarnation-requires c = omega (arith, register_room c.args.s.now c.args.at c.requires)

pub returns : goal.returns
returns c =
    (rw (c.get8.ensures, c.text_at-address.ensures, c.get8-incarnation.ensures) (register_is c.args.s.now c.args.at c.requires))
