use native.Mathlib.Omega.{arith}
use mathlib.Core.Path.{sym, ◌∙◌}
use Rattle.map_tables.specs.Names.{view_key}
use Rattle.image_header_check.proofs.Rows.{counted}
use Rattle.image_header_begin.proofs.Begun.{place-few, counts-after, begun}
use Rattle.image_header_begin.proofs.begin.Goals as goal

pub get8-count-requires : goal.get8-count-requires
get8-count-requires c = let p = c.requires.0.0 in omega arith

pub free_slot-slot-requires : goal.free_slot-slot-requires
free_slot-slot-requires c =
    let s = c.args.header.now in let e = counted s in let g = c.get8-count.ensures in let f = c.requires.0.1 in (c.requires.0.0, omega arith, sym g)

pub key_place-at-requires : goal.key_place-at-requires
key_place-at-requires c =
    let s = c.args.header.now in let e = counted s in let g = c.get8-count.ensures in let f = c.requires.0.1 in (c.requires.0.0, omega arith, sym g)

pub open_row-requires : goal.open_row-requires
open_row-requires c =
    let s = c.args.header.now in let e = counted s in let g = c.get8-count.ensures in let f = c.requires.0.1 in let l = c.requires.1 in
    (c.requires.0.0, place-few s c.get8-count.result (c.requires.0.0, omega arith, sym g) (view_key c.args.key) c.key_place-at.result c.key_place-at.ensures, omega arith)

pub overflow_mul-at : goal.overflow_mul-at
overflow_mul-at c =
    let s = c.args.header.now in let e = counted s in let g = c.get8-count.ensures in let f = c.requires.0.1 in
    let h = place-few s c.get8-count.result (c.requires.0.0, omega arith, sym g) (view_key c.args.key) c.key_place-at.result c.key_place-at.ensures in omega arith

pub overflow_add-at : goal.overflow_add-at
overflow_add-at c =
    let s = c.args.header.now in let e = counted s in let g = c.get8-count.ensures in let f = c.requires.0.1 in
    let h = place-few s c.get8-count.result (c.requires.0.0, omega arith, sym g) (view_key c.args.key) c.key_place-at.result c.key_place-at.ensures in omega arith

pub set_begun-requires : goal.set_begun-requires
set_begun-requires c =
    let s = c.args.header.now in let e = counted s in let g = c.get8-count.ensures in let f = c.requires.0.1 in let z = c.requires.1 in let r = c.requires.0.0 in let n = c.open_row.auto.out in
    let h = place-few s c.get8-count.result (c.requires.0.0, omega arith, sym g) (view_key c.args.key) c.key_place-at.result c.key_place-at.ensures in omega arith

pub overflow_add-count : goal.overflow_add-count
overflow_add-count c =
    let s = c.args.header.now in let e = counted s in let g = c.get8-count.ensures in let f = c.requires.0.1 in omega arith

pub put_back-requires : goal.put_back-requires
put_back-requires c =
    let s = c.args.header.now in let e = counted s in let g = c.get8-count.ensures in let f = c.requires.0.1 in let l = c.requires.1 in
    counts-after s _ _ c.get8-count.result (c.requires.0.0, omega arith, sym g) (omega arith) c.args.key c.free_slot-slot.result c.key_place-at.result c.args.epoch.0 c.args.metric c.free_slot-slot.ensures c.key_place-at.ensures c.open_row.ensures c.set_begun.ensures

pub shape_of-header : goal.shape_of-header
shape_of-header c = c.put_back.auto.out ∙ c.set_begun.auto.out ∙ c.open_row.auto.out

pub returns : goal.returns
returns c =
    let s = c.args.header.now in let e = counted s in let g = c.get8-count.ensures in let f = c.requires.0.1 in let l = c.requires.1 in
    begun s _ _ c.get8-count.result (c.requires.0.0, omega arith, sym g) (omega arith) c.args.key c.free_slot-slot.result c.key_place-at.result c.args.epoch.0 c.args.metric c.free_slot-slot.ensures c.key_place-at.ensures c.open_row.ensures c.set_begun.ensures _ (λ i. omega (arith, c.slice_known-3-1.given i)) c.put_back.ensures
