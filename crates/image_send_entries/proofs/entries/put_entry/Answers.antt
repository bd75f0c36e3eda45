use borrow.Author.Rules.{rules}
use native.Mathlib.Omega.{arith}
use mathlib.Core.Path.{◌∙◌}
use Rattle.image_send_entries.proofs.Store.{few, entry-sent}
use Rattle.image_send_entries.proofs.entries.put_entry.Goals as goal

pub overflow_mul-i : goal.overflow_mul-i
overflow_mul-i c = let a = c.args in let w = few a.s.now a.base a.count c.requires.0 a.i c.requires.1 in omega arith

pub overflow_add-base : goal.overflow_add-base
overflow_add-base c =
    let a = c.args in let r = c.requires.0.stands in let f = c.ranges in let w = few a.s.now a.base a.count c.requires.0 a.i c.requires.1 in search rules

pub get8-epoch-requires : goal.get8-epoch-requires
get8-epoch-requires c =
    let a = c.args in let r = c.requires.0.stands in let w = few a.s.now a.base a.count c.requires.0 a.i c.requires.1 in omega arith

pub overflow_mul-i-2 : goal.overflow_mul-i-2
overflow_mul-i-2 c = let a = c.args in let w = few a.s.now a.base a.count c.requires.0 a.i c.requires.1 in omega arith

pub overflow_add-base-3 : goal.overflow_add-base-3
overflow_add-base-3 c =
    let a = c.args in let r = c.requires.0.stands in let f = c.ranges in let w = few a.s.now a.base a.count c.requires.0 a.i c.requires.1 in search rules

pub get8-offset-requires : goal.get8-offset-requires
get8-offset-requires c =
    let a = c.args in let r = c.requires.0.stands in let w = few a.s.now a.base a.count c.requires.0 a.i c.requires.1 in omega arith

pub put8-requires : goal.put8-requires
put8-requires c = let p = c.requires.2 in omega arith

pub put8-requires-2 : goal.put8-requires-2
put8-requires-2 c = let p = c.requires.2 in let l = c.put8.auto.out in omega arith

pub put_op-requires : goal.put_op-requires
put_op-requires c =
    let p = c.requires.2 in let l = c.put8.auto.out in let m = c.put8-2.auto.out in (c.requires.0, c.requires.1, omega arith)

pub shape_of-out : goal.shape_of-out
shape_of-out c = c.put_op.auto.out ∙ c.put8-2.auto.out ∙ c.put8.auto.out

pub returns : goal.returns
returns c =
    let a = c.args in c.put_op.ensures ∙ (rw (c.put8-2.ensures, c.put8.ensures, c.get8-epoch.ensures, c.get8-offset.ensures) (entry-sent a.s.now a.base a.count c.requires.0 a.i c.requires.1 a.out.now a.at))
