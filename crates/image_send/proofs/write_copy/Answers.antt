use native.Mathlib.Omega.{arith}
use mathlib.Core.Path.{◌∙◌}
use Prim.Native.Nat.{◌-◌}
use Rattle.spec.specs.Node.Worker.{copy_of}
use Rattle.node_send_entries.specs.Sent.{key_named, entries_at}
use Rattle.image_send_entries.specs.Store.{store_columns}
use Rattle.node_send.proofs.Answer.{short, wrote}
use Rattle.image_send.proofs.Requests.{copy_size, copy_sent}
use Rattle.image_send.proofs.write_copy.Goals as goal

pub entries_size-size-requires : goal.entries_size-size-requires
entries_size-size-requires c =
    let r = c.requires.0.sendable.room.count in let q = c.requires.2 in (c.requires.1, omega arith, c.requires.0.stands)

pub overflow_add-size : goal.overflow_add-size
overflow_add-size c = let q = c.entries_size-size.ensures.1 in omega arith

pub returns-then-out-size : goal.returns-then-out-size
returns-then-out-size c =
    let a = c.args in
    let w = copy_size a.s.now a.base a.count c.requires.0 a.name.now a.shard a.epoch c.requires.4 a.from a.end c.requires.1 c.requires.2 c.entries_size-size.result c.entries_size-size.ensures.0 in
    let h = c.if-out-size.true in
    short (copy_of (key_named a.name.now a.shard) a.epoch (entries_at (store_columns a.s.now a.base a.count) (a.end - a.from) a.from)) a.out.now (omega arith)

pub overflow_sub-n : goal.overflow_sub-n
overflow_sub-n c = c.requires.1

pub put_head-requires : goal.put_head-requires
put_head-requires c = let h = c.if-out-size.false in (omega arith, c.requires.4)

pub overflow_cast-n : goal.overflow_cast-n
overflow_cast-n c = let p = c.requires.3 in omega arith

pub put2-requires : goal.put2-requires
put2-requires c = let h = c.if-out-size.false in let l = c.put_head.auto.out in omega arith

pub put_entries-requires : goal.put_entries-requires
put_entries-requires c =
    let h = c.if-out-size.false in let l = c.put_head.auto.out in let m = c.put2.auto.out in let q = c.entries_size-size.ensures.0 in (c.requires.0, c.requires.1, c.requires.2, omega arith)

pub shape_of-out : goal.shape_of-out
shape_of-out c = c.put_entries.auto.out ∙ c.put2.auto.out ∙ c.put_head.auto.out

pub returns : goal.returns
returns c =
    let a = c.args in
    let w = copy_size a.s.now a.base a.count c.requires.0 a.name.now a.shard a.epoch c.requires.4 a.from a.end c.requires.1 c.requires.2 c.entries_size-size.result c.entries_size-size.ensures.0 in
    let h = c.if-out-size.false in
    wrote (copy_of (key_named a.name.now a.shard) a.epoch (entries_at (store_columns a.s.now a.base a.count) (a.end - a.from) a.from)) a.out.now _ _ w (omega arith)
    (c.put_entries.ensures ∙ (rw (c.put2.ensures, c.put_head.ensures) (copy_sent a.s.now a.base a.count c.requires.0 a.name.now a.shard a.epoch c.requires.4 a.from a.end c.requires.1 c.requires.2 a.out.now)))
