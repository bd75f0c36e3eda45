use borrow.Author.Rules.{rules}
use native.Mathlib.Omega.{arith}
use mathlib.Core.Path.{◌∙◌, ap}
use Prim.Native.Nat.{ℕ, ◌+◌, ◌*◌}
use lib.ListN.{get_or}
use lib.Seq.{sets}
use mathlib.Core.Bool.{true}
use Rattle.wire_write.specs.Written.{op_bytes}
use Rattle.image_store.specs.Image.{words}
use Rattle.image_send_entries.proofs.Store.{few, short, op_set_sent, op_drop_sent, upsert_room, delete_room}
use Rattle.image_send_entries.proofs.entries.put_op.Goals as goal

pub overflow_mul-i : goal.overflow_mul-i
overflow_mul-i c = let a = c.args in let w = few a.s.now a.base a.count c.requires.0 a.i c.requires.1 in omega arith

pub overflow_add-base-2 : goal.overflow_add-base-2
overflow_add-base-2 c =
    let a = c.args in let r = c.requires.0.stands in let f = c.ranges in let w = few a.s.now a.base a.count c.requires.0 a.i c.requires.1 in search rules

pub get8-id-requires : goal.get8-id-requires
get8-id-requires c =
    let a = c.args in let r = c.requires.0.stands in let w = few a.s.now a.base a.count c.requires.0 a.i c.requires.1 in omega arith

pub bounds-s-base : goal.bounds-s-base
bounds-s-base c =
    let a = c.args in let r = c.requires.0.stands in let w = few a.s.now a.base a.count c.requires.0 a.i c.requires.1 in omega arith

pub bounds-s-base-then-s-base-eq1 : goal.bounds-s-base-then-s-base-eq1
bounds-s-base-then-s-base-eq1 c =
    let a = c.args in let r = c.requires.0.stands in let w = few a.s.now a.base a.count c.requires.0 a.i c.requires.1 in omega arith

pub overflow_mul-i-then-s-base-eq1 : goal.overflow_mul-i-then-s-base-eq1
overflow_mul-i-then-s-base-eq1 c = let a = c.args in let w = few a.s.now a.base a.count c.requires.0 a.i c.requires.1 in omega arith

pub overflow_add-base-then-s-base-eq1-2 : goal.overflow_add-base-then-s-base-eq1-2
overflow_add-base-then-s-base-eq1-2 c =
    let a = c.args in let r = c.requires.0.stands in let f = c.ranges in let w = few a.s.now a.base a.count c.requires.0 a.i c.requires.1 in search rules

pub put_upsert-requires : goal.put_upsert-requires
put_upsert-requires c =
    let a = c.args in let r = c.requires.0.stands in let w = few a.s.now a.base a.count c.requires.0 a.i c.requires.1 in let p = c.requires.2 in
    let k = upsert_room (get_or a.s.now (a.base + 24576 + a.i) 0) (get_or a.s.now (a.base + 25600 + a.i) 0) c.if-s-base-eq1.true in
    let m = short a.s.now a.base a.count c.requires.0 a.i c.requires.1 c.if-s-base-eq1.true in
    (omega arith, omega arith, omega arith, c.requires.0.bytes)

pub put_delete-requires : goal.put_delete-requires
put_delete-requires c =
    let a = c.args in let p = c.requires.2 in let k = delete_room (get_or a.s.now (a.base + 24576 + a.i) 0) (get_or a.s.now (a.base + 25600 + a.i) 0) c.if-s-base-eq1.false in omega arith

pub shape_of-out-then-s-base-eq1 : goal.shape_of-out-then-s-base-eq1
shape_of-out-then-s-base-eq1 c = c.put_upsert.auto.out

pub returns-then-s-base-eq1 : goal.returns-then-s-base-eq1
returns-then-s-base-eq1 c =
    let a = c.args in
    c.put_upsert.ensures
    ∙ ap (λ (n : ℕ). sets a.out.now a.at (op_bytes true n (words 4 (get_or a.s.now (a.base + 25600 + a.i) 0) a.s.now (a.base + 26624 + a.i * 128)))) c.get8-id.ensures
    ∙ ap (sets a.out.now a.at) (op_set_sent a.s.now a.base a.count c.requires.0 a.i c.requires.1 c.if-s-base-eq1.true)

pub shape_of-out-else-s-base-eq1 : goal.shape_of-out-else-s-base-eq1
shape_of-out-else-s-base-eq1 c = c.put_delete.auto.out

pub returns-else-s-base-eq1 : goal.returns-else-s-base-eq1
returns-else-s-base-eq1 c =
    let a = c.args in
    c.put_delete.ensures ∙ (rw c.get8-id.ensures (ap (sets a.out.now a.at) (op_drop_sent a.s.now a.base a.count c.requires.0 a.i c.requires.1 c.if-s-base-eq1.false)))
