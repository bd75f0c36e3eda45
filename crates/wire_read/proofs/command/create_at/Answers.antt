use Rattle.std.proofs.Common.{arith}
use Rattle.wire_read.proofs.Commands.{create_room_lem, create_is}
use Rattle.wire_read.proofs.command.create_at.Goals as goal

pub text_at-name-requires : goal.text_at-name-requires
text_at-name-requires c = omega (arith, create_room_lem c.args.s.now c.args.at c.requires)

pub overflow_add-p-2 : goal.overflow_add-p-2
overflow_add-p-2 c = omega (arith, create_room_lem c.args.s.now c.args.at c.requires)

pub get4-dimension-requires : goal.get4-dimension-requires
get4-dimension-requires c = omega (arith, create_room_lem c.args.s.now c.args.at c.requires)

pub overflow_add-p-3 : goal.overflow_add-p-3
overflow_add-p-3 c = omega (arith, create_room_lem c.args.s.now c.args.at c.requires)

pub metric_at-metric-requires : goal.metric_at-metric-requires
metric_at-metric-requires c = omega (arith, create_room_lem c.args.s.now c.args.at c.requires)

pub overflow_add-p-4 : goal.overflow_add-p-4
overflow_add-p-4 c = omega (arith, create_room_lem c.args.s.now c.args.at c.requires)

pub overflow_add-p-5 : goal.overflow_add-p-5
overflow_add-p-5 c = omega (arith, create_room_lem c.args.s.now c.args.at c.requires)

pub get4-shards-requires : goal.get4-shards-requires
get4-shards-requires c = omega (arith, create_room_lem c.args.s.now c.args.at c.requires)

pub overflow_add-p-6 : goal.overflow_add-p-6
overflow_add-p-6 c = omega (arith, create_room_lem c.args.s.now c.args.at c.requires)

pub overflow_add-p-7 : goal.overflow_add-p-7
overflow_add-p-7 c = omega (arith, create_room_lem c.args.s.now c.args.at c.requires)

pub overflow_add-p-8 : goal.overflow_add-p-8
overflow_add-p-8 c = omega (arith, create_room_lem c.args.s.now c.args.at c.requires)

pub get4-replication-requires : goal.get4-replication-requires
get4-replication-requires c = omega (arith, create_room_lem c.args.s.now c.args.at c.requires)

pub overflow_add-p-9 : goal.overflow_add-p-9
overflow_add-p-9 c = omega (arith, create_room_lem c.args.s.now c.args.at c.requires)

pub overflow_add-p-10 : goal.overflow_add-p-10
overflow_add-p-10 c = omega (arith, create_room_lem c.args.s.now c.args.at c.requires)

pub overflow_add-p-11 : goal.overflow_add-p-11
overflow_add-p-11 c = omega (arith, create_room_lem c.args.s.now c.args.at c.requires)

pub overflow_add-p-12 : goal.overflow_add-p-12
overflow_add-p-12 c = omega (arith, create_room_lem c.args.s.now c.args.at c.requires)

pub text_at-placement-requires : goal.text_at-placement-requires
text_at-placement-requires c = omega (arith, create_room_lem c.args.s.now c.args.at c.requires)

pub returns : goal.returns
returns c =
    (rw (c.text_at-name.ensures, c.get4-dimension.ensures, c.metric_at-metric.ensures, c.get4-shards.ensures, c.get4-replication.ensures, c.text_at-placement.ensures) (create_is c.args.s.now c.args.at c.requires))
