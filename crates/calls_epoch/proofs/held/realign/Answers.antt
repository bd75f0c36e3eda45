use native.Mathlib.Omega.{arith}
use mathlib.Core.Path.{sym, ◌∙◌, ap}
use Rattle.image_header_check.proofs.Rows.{counted}
use Rattle.image_header_set.specs.Row.{aligned_set}
use Rattle.image_header_set.proofs.SetLaws.{counts-still, row_put, row_as}
use Rattle.image_node_grow.specs.Grow.{row_in}
use Rattle.image_node_grow.proofs.GrowLaws.{row_is}
use Rattle.node_header.specs.declared.HeldRow.{HeldRow}
use Rattle.calls_epoch.proofs.held.realign.Goals as goal

pub get8-count-requires : goal.get8-count-requires
get8-count-requires c = let p = c.requires.0.0 in omega arith

pub overflow_mul-at : goal.overflow_mul-at
overflow_mul-at c = let f = c.requires.0.1 in let u = c.requires.1 in omega arith

pub overflow_add-at : goal.overflow_add-at
overflow_add-at c = let f = c.requires.0.1 in let u = c.requires.1 in omega arith

pub set_aligned-requires : goal.set_aligned-requires
set_aligned-requires c = let f = c.requires.0.1 in let u = c.requires.1 in let r = c.requires.0.0 in omega arith

pub put_back-requires : goal.put_back-requires
put_back-requires c =
    let s = c.args.header.now in let e = counted s in let g = c.get8-count.ensures in let f = c.requires.0.1 in let u = c.requires.1 in
    counts-still s _ c.get8-count.result (c.requires.0.0, omega arith, sym g) c.args.at (omega arith) c.set_aligned.ensures.outside

pub shape_of-header : goal.shape_of-header
shape_of-header c = c.put_back.auto.out ∙ c.set_aligned.auto.out

pub returns : goal.returns
returns c =
    let a = c.args in let s = a.header.now in let e = counted s in let g = c.get8-count.ensures in let f = c.requires.0.1 in let u = c.requires.1 in
    row_put s _ _ c.get8-count.result (c.requires.0.0, omega arith, sym g) a.at (omega arith) (aligned_set (row_in s a.at) a.epoch a.last a.stored)
    (row_as (ap (λ (x : HeldRow). aligned_set x a.epoch a.last a.stored) (sym (row_is s a.at c.requires.0 u))) c.set_aligned.ensures)
    (λ i. omega (arith, c.slice_known-2-1.given i)) c.put_back.ensures
