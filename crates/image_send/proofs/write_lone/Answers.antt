use borrow.Author.Rules.{rules}
use native.Mathlib.Omega.{arith}
use mathlib.Core.Path.{◌∙◌}
use Prim.Native.Nat.{◌+◌}
use lib.ListN.{get_or}
use Rattle.spec.specs.Node.Worker.{lone_of}
use Rattle.log_store.specs.View.{entry_of}
use Rattle.node_send_entries.specs.Sent.{key_named}
use Rattle.image_send_entries.specs.Store.{store_columns}
use Rattle.image_send_entries.proofs.Store.{few}
use Rattle.node_send.proofs.Answer.{short, wrote}
use lib.Dec.{eqb}
use Rattle.image_send.proofs.Requests.{op_some, lone_room, lone-size, lone-sent}
use Rattle.image_send.proofs.write_lone.Goals as goal

pub overflow_add-i : goal.overflow_add-i
overflow_add-i c = let a = c.args in let w = few a.s.now a.base a.count c.requires.0 a.i c.requires.1 in omega arith

pub entries_size-size-requires : goal.entries_size-size-requires
entries_size-size-requires c =
    let a = c.args in let w = few a.s.now a.base a.count c.requires.0 a.i c.requires.1 in (omega arith, omega arith, c.requires.0.stands)

pub overflow_add-size : goal.overflow_add-size
overflow_add-size c = let q = c.entries_size-size.ensures.1 in omega arith

pub returns-then-out-size : goal.returns-then-out-size
returns-then-out-size c =
    let a = c.args in
    let w = lone-size a.s.now a.base a.count c.requires.0 a.name.now a.shard a.epoch c.requires.2 a.i c.requires.1 c.entries_size-size.result c.entries_size-size.ensures.0 in
    let h = c.if-out-size.true in
    short (lone_of (key_named a.name.now a.shard) a.epoch (entry_of (store_columns a.s.now a.base a.count) a.i)) a.out.now (omega arith)

pub overflow_add-base : goal.overflow_add-base
overflow_add-base c = let a = c.args in let r = c.requires.0.stands in let g = c.ranges in search rules

pub overflow_mul-i : goal.overflow_mul-i
overflow_mul-i c = let a = c.args in let w = few a.s.now a.base a.count c.requires.0 a.i c.requires.1 in omega arith

pub get8-offset-requires : goal.get8-offset-requires
get8-offset-requires c =
    let a = c.args in let r = c.requires.0.stands in let w = few a.s.now a.base a.count c.requires.0 a.i c.requires.1 in omega arith

pub put_head-requires : goal.put_head-requires
put_head-requires c =
    let w = lone_room c.args.s.now c.args.base c.args.count c.requires.0 c.args.name.now c.args.shard c.args.epoch c.requires.2 c.args.i c.requires.1 c.entries_size-size.result c.entries_size-size.ensures.0 in let z = op_some (eqb (get_or c.args.s.now (c.args.base + 24576 + c.args.i) 0) 1) (get_or c.args.s.now (c.args.base + 25600 + c.args.i) 0) in let h = c.if-out-size.false in (omega arith, c.requires.2)

pub put8-requires : goal.put8-requires
put8-requires c =
    let w = lone_room c.args.s.now c.args.base c.args.count c.requires.0 c.args.name.now c.args.shard c.args.epoch c.requires.2 c.args.i c.requires.1 c.entries_size-size.result c.entries_size-size.ensures.0 in let z = op_some (eqb (get_or c.args.s.now (c.args.base + 24576 + c.args.i) 0) 1) (get_or c.args.s.now (c.args.base + 25600 + c.args.i) 0) in let h = c.if-out-size.false in let l = c.put_head.auto.out in omega arith

pub put_op-requires : goal.put_op-requires
put_op-requires c =
    let a = c.args in
    let w = lone_room a.s.now a.base a.count c.requires.0 a.name.now a.shard a.epoch c.requires.2 a.i c.requires.1 c.entries_size-size.result c.entries_size-size.ensures.0 in
    let h = c.if-out-size.false in let l = c.put_head.auto.out in let m = c.put8.auto.out in (c.requires.0, c.requires.1, omega arith)

pub shape_of-out : goal.shape_of-out
shape_of-out c = c.put_op.auto.out ∙ c.put8.auto.out ∙ c.put_head.auto.out

pub returns : goal.returns
returns c =
    let a = c.args in
    let w = lone-size a.s.now a.base a.count c.requires.0 a.name.now a.shard a.epoch c.requires.2 a.i c.requires.1 c.entries_size-size.result c.entries_size-size.ensures.0 in
    let h = c.if-out-size.false in
    wrote (lone_of (key_named a.name.now a.shard) a.epoch (entry_of (store_columns a.s.now a.base a.count) a.i)) a.out.now _ _ w (omega arith)
    (c.put_op.ensures ∙ (rw (c.put8.ensures, c.put_head.ensures, c.get8-offset.ensures) (lone-sent a.s.now a.base a.count c.requires.0 a.name.now a.shard a.epoch c.requires.2 a.i c.requires.1 c.entries_size-size.result c.entries_size-size.ensures.0 a.out.now)))
