use native.Mathlib.Omega.{arith}
use mathlib.Core.Path.{sym}
use Rattle.map_tables.specs.Names.{view_name}
use Rattle.image_map_edit.proofs.Types.{collection_good}
use Rattle.image_map_add.proofs.CollectionLaws.{collection-within, collection_in}
use Rattle.image_map_add.proofs.collections.collection_put.Goals as goal

pub get8-count-requires : goal.get8-count-requires
get8-count-requires c = let l = c.requires.0.long in omega arith

pub collection_room-place-requires : goal.collection_room-place-requires
collection_room-place-requires c =
    let f = c.requires.0.collections in let e = c.get8-count.ensures in (c.requires.0.long, omega arith, sym e)

pub overflow_mul-at : goal.overflow_mul-at
overflow_mul-at c =
    let w = collection-within c.args.out.now c.requires.0 (view_name c.args.row.name) _ c.collection_room-place.ensures _ c.get8-count.ensures in let r = c.requires.1 in let e = c.get8-count.ensures in omega arith

pub overflow_add-at : goal.overflow_add-at
overflow_add-at c =
    let w = collection-within c.args.out.now c.requires.0 (view_name c.args.row.name) _ c.collection_room-place.ensures _ c.get8-count.ensures in let r = c.requires.1 in let e = c.get8-count.ensures in omega arith

pub overflow_add-place : goal.overflow_add-place
overflow_add-place c =
    let w = collection-within c.args.out.now c.requires.0 (view_name c.args.row.name) _ c.collection_room-place.ensures _ c.get8-count.ensures in let r = c.requires.1 in let e = c.get8-count.ensures in omega arith

pub overflow_mul-place : goal.overflow_mul-place
overflow_mul-place c =
    let w = collection-within c.args.out.now c.requires.0 (view_name c.args.row.name) _ c.collection_room-place.ensures _ c.get8-count.ensures in let r = c.requires.1 in let e = c.get8-count.ensures in omega arith

pub overflow_add-place-2 : goal.overflow_add-place-2
overflow_add-place-2 c =
    let w = collection-within c.args.out.now c.requires.0 (view_name c.args.row.name) _ c.collection_room-place.ensures _ c.get8-count.ensures in let r = c.requires.1 in let e = c.get8-count.ensures in omega arith

pub overflow_sub-count : goal.overflow_sub-count
overflow_sub-count c =
    let w = collection-within c.args.out.now c.requires.0 (view_name c.args.row.name) _ c.collection_room-place.ensures _ c.get8-count.ensures in omega arith

pub overflow_mul-count : goal.overflow_mul-count
overflow_mul-count c =
    let w = collection-within c.args.out.now c.requires.0 (view_name c.args.row.name) _ c.collection_room-place.ensures _ c.get8-count.ensures in let r = c.requires.1 in let e = c.get8-count.ensures in omega arith

pub move_up-requires : goal.move_up-requires
move_up-requires c =
    let l = c.requires.0.long in let w = collection-within c.args.out.now c.requires.0 (view_name c.args.row.name) _ c.collection_room-place.ensures _ c.get8-count.ensures in let r = c.requires.1 in let e = c.get8-count.ensures in (omega arith, omega arith)

pub put_collection-requires : goal.put_collection-requires
put_collection-requires c =
    let l = c.requires.0.long in let n = c.move_up.auto.out in let w = collection-within c.args.out.now c.requires.0 (view_name c.args.row.name) _ c.collection_room-place.ensures _ c.get8-count.ensures in let r = c.requires.1 in let e = c.get8-count.ensures in omega arith

pub overflow_add-count : goal.overflow_add-count
overflow_add-count c = let r = c.requires.1 in let e = c.get8-count.ensures in omega arith

pub put8-requires : goal.put8-requires
put8-requires c =
    let l = c.requires.0.long in let n = c.move_up.auto.out in let k = c.put_collection.auto.out in omega arith

pub shape_of-out : goal.shape_of-out
shape_of-out c = let n = c.move_up.auto.out in let k = c.put_collection.auto.out in let j = c.put8.auto.out in omega arith

pub returns : goal.returns
returns c =
    collection_in c.args.out.now c.requires.0 c.args.row (collection_good c.args.row _ c.well_formed.1.0) c.requires.1 c.requires.2 _ _ c.get8-count.ensures c.collection_room-place.ensures _ _ _ c.move_up.ensures c.put_collection.ensures c.put8.ensures
