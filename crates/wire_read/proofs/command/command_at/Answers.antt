use Rattle.std.proofs.Common.{◌+◌, arith}
use Rattle.wire_read.proofs.Commands.{name-room, bench_room, command_room, fits_10, fits_11, fits_12, fits_13, fits_14, fits_15, fits_16, fits_17, fits_18, fits_19, shown_11, shown_19}
use Rattle.wire_read.proofs.command.command_at.Goals as goal

pub overflow_add-p : goal.overflow_add-p
overflow_add-p c = omega (arith, command_room c.args.s.now c.args.at c.requires)

pub bounds-s-at : goal.bounds-s-at
bounds-s-at c = omega (arith, command_room c.args.s.now c.args.at c.requires)

pub create_at-requires : goal.create_at-requires
create_at-requires c = fits_10 c.args.s.now c.args.at c.requires c.in-16.is

pub text_at-requires : goal.text_at-requires
text_at-requires c =
    omega (arith, name-room c.args.s.now (c.args.at + 1) (fits_11 c.args.s.now c.args.at c.requires c.in-17.is))

pub register_at-requires : goal.register_at-requires
register_at-requires c = fits_12 c.args.s.now c.args.at c.requires c.in-18.is

pub dead_at-requires : goal.dead_at-requires
dead_at-requires c = fits_13 c.args.s.now c.args.at c.requires c.in-19.is

pub add_at-requires : goal.add_at-requires
add_at-requires c = fits_14 c.args.s.now c.args.at c.requires c.in-20.is

pub change_at-requires : goal.change_at-requires
change_at-requires c = fits_15 c.args.s.now c.args.at c.requires c.in-21.is

pub change_at-requires-in-22 : goal.change_at-requires-in-22
change_at-requires-in-22 c = fits_16 c.args.s.now c.args.at c.requires c.in-22.is

pub change_at-requires-in-23 : goal.change_at-requires-in-23
change_at-requires-in-23 c = fits_17 c.args.s.now c.args.at c.requires c.in-23.is

pub change_at-requires-in-24 : goal.change_at-requires-in-24
change_at-requires-in-24 c = fits_18 c.args.s.now c.args.at c.requires c.in-24.is

pub get2-n-requires : goal.get2-n-requires
get2-n-requires c =
    omega (arith, bench_room c.args.s.now c.args.at (fits_19 c.args.s.now c.args.at c.in_default.in_default-own.rest.0.0.0.0.0.0.0.0.1 c.in_default.in_default-own.rest.0.0.0.0.0.0.0.1 c.in_default.in_default-own.rest.0.0.0.0.0.0.1 c.in_default.in_default-own.rest.0.0.0.0.0.1 c.in_default.in_default-own.rest.0.0.0.0.1 c.in_default.in_default-own.rest.0.0.0.1 c.in_default.in_default-own.rest.0.0.1 c.in_default.in_default-own.rest.0.1 c.in_default.in_default-own.rest.1 c.requires))

pub overflow_add-result : goal.overflow_add-result
overflow_add-result c =
    omega (arith, bench_room c.args.s.now c.args.at (fits_19 c.args.s.now c.args.at c.in_default.in_default-own.rest.0.0.0.0.0.0.0.0.1 c.in_default.in_default-own.rest.0.0.0.0.0.0.0.1 c.in_default.in_default-own.rest.0.0.0.0.0.0.1 c.in_default.in_default-own.rest.0.0.0.0.0.1 c.in_default.in_default-own.rest.0.0.0.0.1 c.in_default.in_default-own.rest.0.0.0.1 c.in_default.in_default-own.rest.0.0.1 c.in_default.in_default-own.rest.0.1 c.in_default.in_default-own.rest.1 c.requires))

pub returns-in-17 : goal.returns-in-17
returns-in-17 c =
    (rw c.text_at.ensures (shown_11 c.args.s.now c.args.at (fits_11 c.args.s.now c.args.at c.requires c.in-17.is) c.in-17.is))

pub returns-in_default : goal.returns-in_default
returns-in_default c =
    (rw c.get2-n.ensures (shown_19 c.args.s.now c.args.at c.in_default.in_default-own.rest.0.0.0.0.0.0.0.0.1 c.in_default.in_default-own.rest.0.0.0.0.0.0.0.1 c.in_default.in_default-own.rest.0.0.0.0.0.0.1 c.in_default.in_default-own.rest.0.0.0.0.0.1 c.in_default.in_default-own.rest.0.0.0.0.1 c.in_default.in_default-own.rest.0.0.0.1 c.in_default.in_default-own.rest.0.0.1 c.in_default.in_default-own.rest.0.1 c.in_default.in_default-own.rest.1))
