use native.Mathlib.Omega.{arith}
use mathlib.Core.Path.{refl}
use Rattle.wire_write.specs.Written.{key_given}
use Rattle.calls_worker.proofs.Found.{few, row-there, slot-few, sends-there, asks_stop, asks_wait, asks_align, send_fits, asks_send}
use Rattle.calls_worker.proofs.told.request_at.Goals as goal

pub overflow_mul-row : goal.overflow_mul-row
overflow_mul-row c =
    let w = few c.args.header.now c.args.stores.now (key_given c.args.name.now c.args.shard) c.args.at c.requires.0 in omega arith

pub overflow_add-row : goal.overflow_add-row
overflow_add-row c =
    let w = few c.args.header.now c.args.stores.now (key_given c.args.name.now c.args.shard) c.args.at c.requires.0 in omega arith

pub overflow_add-roles : goal.overflow_add-roles
overflow_add-roles c =
    let w = few c.args.header.now c.args.stores.now (key_given c.args.name.now c.args.shard) c.args.at c.requires.0 in omega arith

pub overflow_add-row-2 : goal.overflow_add-row-2
overflow_add-row-2 c =
    let w = few c.args.header.now c.args.stores.now (key_given c.args.name.now c.args.shard) c.args.at c.requires.0 in omega arith

pub get8-requires : goal.get8-requires
get8-requires c =
    let w = row-there c.args.header.now c.args.stores.now (key_given c.args.name.now c.args.shard) c.args.at c.requires.0 in omega arith

pub overflow_mul-base : goal.overflow_mul-base
overflow_mul-base c =
    let w = row-there c.args.header.now c.args.stores.now (key_given c.args.name.now c.args.shard) c.args.at c.requires.0 in let q = slot-few c.args.header.now c.args.stores.now (key_given c.args.name.now c.args.shard) c.args.at c.requires.0 (λ i. omega (arith, c.type_inv.stores i)) c.get8.result _ c.get8.ensures refl in omega arith

pub overflow_add-row-3 : goal.overflow_add-row-3
overflow_add-row-3 c =
    let w = few c.args.header.now c.args.stores.now (key_given c.args.name.now c.args.shard) c.args.at c.requires.0 in omega arith

pub get8-count-requires : goal.get8-count-requires
get8-count-requires c =
    let w = row-there c.args.header.now c.args.stores.now (key_given c.args.name.now c.args.shard) c.args.at c.requires.0 in omega arith

pub role_at-role-requires : goal.role_at-role-requires
role_at-role-requires c =
    let w = row-there c.args.header.now c.args.stores.now (key_given c.args.name.now c.args.shard) c.args.at c.requires.0 in omega arith

pub write_align-requires : goal.write_align-requires
write_align-requires c =
    let d = sends-there c.args.header.now c.args.stores.now (key_given c.args.name.now c.args.shard) c.args.at c.requires.0 (λ i. omega (arith, c.type_inv.stores i)) c.get8.result c.get8-count.result c.get8.ensures c.get8-count.ensures in let m = d.sendable.room.count in let u = c.up_to-n.ensures in (c.requires.1, omega arith, d.stands)

pub write_send-requires : goal.write_send-requires
write_send-requires c =
    let b = send_fits c.args.header.now c.args.stores.now (key_given c.args.name.now c.args.shard) c.args.at c.requires.0 (λ i. omega (arith, c.type_inv.stores i)) c.get8.result c.get8-count.result c.get8.ensures c.get8-count.ensures c.args.epoch c.args.peer c.args.metric c.args.step c.requires.2 _ _ c.in-Send.is in (sends-there c.args.header.now c.args.stores.now (key_given c.args.name.now c.args.shard) c.args.at c.requires.0 (λ i. omega (arith, c.type_inv.stores i)) c.get8.result c.get8-count.result c.get8.ensures c.get8-count.ensures, b.0, b.1, b.2, b.3, c.requires.1)

pub returns-in-Stop : goal.returns-in-Stop
returns-in-Stop c =
    asks_stop c.args.header.now c.args.stores.now (key_given c.args.name.now c.args.shard) c.args.at c.requires.0 (λ i. omega (arith, c.type_inv.stores i)) c.get8.result c.get8-count.result c.get8.ensures c.get8-count.ensures c.args.epoch c.args.peer c.args.metric c.args.step c.requires.2 c.in-Stop.is c.args.out.now

pub returns-in-Wait : goal.returns-in-Wait
returns-in-Wait c =
    asks_wait c.args.header.now c.args.stores.now (key_given c.args.name.now c.args.shard) c.args.at c.requires.0 (λ i. omega (arith, c.type_inv.stores i)) c.get8.result c.get8-count.result c.get8.ensures c.get8-count.ensures c.args.epoch c.args.peer c.args.metric c.args.step c.requires.2 c.in-Wait.is c.args.out.now

pub shape_of-out-in-Align : goal.shape_of-out-in-Align
shape_of-out-in-Align c = c.write_align.auto.out

pub returns-in-Align : goal.returns-in-Align
returns-in-Align c =
    asks_align c.args.header.now c.args.stores.now (key_given c.args.name.now c.args.shard) c.args.at c.requires.0 (λ i. omega (arith, c.type_inv.stores i)) c.get8.result c.get8-count.result c.get8.ensures c.get8-count.ensures c.args.epoch c.args.peer c.args.metric c.args.step c.requires.2 c.in-Align.is c.role_at-role.result c.role_at-role.ensures c.end_of-end.result.0 c.end_of-end.ensures c.up_to-n.result c.up_to-n.ensures _ _ _ c.write_align.ensures

pub shape_of-out-in-Send : goal.shape_of-out-in-Send
shape_of-out-in-Send c = c.write_send.auto.out

pub returns-in-Send : goal.returns-in-Send
returns-in-Send c =
    asks_send c.args.header.now c.args.stores.now (key_given c.args.name.now c.args.shard) c.args.at c.requires.0 (λ i. omega (arith, c.type_inv.stores i)) c.get8.result c.get8-count.result c.get8.ensures c.get8-count.ensures c.args.epoch c.args.peer c.args.metric c.args.step c.requires.2 _ _ c.in-Send.is _ _ _ c.write_send.ensures
