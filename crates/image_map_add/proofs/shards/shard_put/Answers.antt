use native.Mathlib.Omega.{arith}
use mathlib.Core.Path.{sym, ◌∙◌}
use Prim.Native.Nat.{◌+◌, ◌*◌}
use Rattle.spec.specs.Keys.{key_below}
use Rattle.map_tables.specs.Names.{view_key}
use Rattle.map_tables.specs.View.{view_shard}
use Rattle.image_map_row.specs.Rows.{shard_at}
use Rattle.image_map_edit.proofs.Types.{shard_good}
use Rattle.image_map_edit.proofs.Tables.{level-there, level_not}
use Rattle.image_map_add.proofs.ShardLaws.{shard-within, put_over, shard-room, shard_in}
use Rattle.image_map_add.proofs.shards.shard_put.Goals as goal

pub get8-count-requires : goal.get8-count-requires
get8-count-requires c = let l = c.requires.0.long in omega arith

pub shard_room-place-requires : goal.shard_room-place-requires
shard_room-place-requires c =
    let f = c.requires.0.shards in let e = c.get8-count.ensures in (c.requires.0.long, omega arith, sym e)

pub overflow_mul-at : goal.overflow_mul-at
overflow_mul-at c =
    let w = shard-within c.args.out.now c.requires.0 (view_key c.args.row.key) _ c.shard_room-place.ensures _ c.get8-count.ensures in let a = w.0 in let b = w.1 in omega arith

pub overflow_add-at : goal.overflow_add-at
overflow_add-at c =
    let w = shard-within c.args.out.now c.requires.0 (view_key c.args.row.key) _ c.shard_room-place.ensures _ c.get8-count.ensures in let a = w.0 in let b = w.1 in omega arith

pub is_level-requires : goal.is_level-requires
is_level-requires c =
    let f = c.requires.0.shards in let e = c.get8-count.ensures in (c.requires.0.long, omega arith, sym e)

pub put_shard-requires : goal.put_shard-requires
put_shard-requires c =
    let l = c.requires.0.long in let f = c.requires.0.shards in let e = c.get8-count.ensures in let p = level-there c.shard_room-place.result c.get8-count.result (key_below (view_key c.args.row.key) (view_shard (shard_at c.args.out.now (4008 + 272 * c.shard_room-place.result))).key) (sym c.is_level.ensures ∙ c.if-is_level.true) in let a = p.0 in omega arith

pub shape_of-out-then-is_level : goal.shape_of-out-then-is_level
shape_of-out-then-is_level c = let k = c.put_shard.auto.out in omega arith

pub returns-then-is_level : goal.returns-then-is_level
returns-then-is_level c =
    let p = level-there c.shard_room-place.result c.get8-count.result (key_below (view_key c.args.row.key) (view_shard (shard_at c.args.out.now (4008 + 272 * c.shard_room-place.result))).key) (sym c.is_level.ensures ∙ c.if-is_level.true) in put_over c.args.out.now c.requires.0 c.args.row (shard_good c.args.row _ c.well_formed.1.0) c.requires.2 c.requires.1 _ _ c.get8-count.ensures c.shard_room-place.ensures _ p.0 p.1 c.put_shard.ensures

pub overflow_add-place : goal.overflow_add-place
overflow_add-place c =
    let w = shard-within c.args.out.now c.requires.0 (view_key c.args.row.key) _ c.shard_room-place.ensures _ c.get8-count.ensures in let a = w.0 in let b = w.1 in omega arith

pub overflow_mul-place : goal.overflow_mul-place
overflow_mul-place c =
    let w = shard-within c.args.out.now c.requires.0 (view_key c.args.row.key) _ c.shard_room-place.ensures _ c.get8-count.ensures in let a = w.0 in let b = w.1 in omega arith

pub overflow_add-place-2 : goal.overflow_add-place-2
overflow_add-place-2 c =
    let w = shard-within c.args.out.now c.requires.0 (view_key c.args.row.key) _ c.shard_room-place.ensures _ c.get8-count.ensures in let a = w.0 in let b = w.1 in omega arith

pub overflow_sub-count : goal.overflow_sub-count
overflow_sub-count c =
    let w = shard-within c.args.out.now c.requires.0 (view_key c.args.row.key) _ c.shard_room-place.ensures _ c.get8-count.ensures in let a = w.0 in let b = w.1 in omega arith

pub overflow_mul-count : goal.overflow_mul-count
overflow_mul-count c =
    let w = shard-within c.args.out.now c.requires.0 (view_key c.args.row.key) _ c.shard_room-place.ensures _ c.get8-count.ensures in let a = w.0 in let b = w.1 in omega arith

pub move_up-requires : goal.move_up-requires
move_up-requires c =
    let l = c.requires.0.long in let w = shard-within c.args.out.now c.requires.0 (view_key c.args.row.key) _ c.shard_room-place.ensures _ c.get8-count.ensures in let a = w.0 in let b = w.1 in let r = shard-room c.args.out.now c.requires.0 c.args.row (shard_good c.args.row _ c.well_formed.1.0) c.requires.2 c.requires.1 _ _ c.get8-count.ensures c.shard_room-place.ensures a (level_not c.shard_room-place.result c.get8-count.result (key_below (view_key c.args.row.key) (view_shard (shard_at c.args.out.now (4008 + 272 * c.shard_room-place.result))).key) (sym c.is_level.ensures ∙ c.if-is_level.false)) in (omega arith, omega arith)

pub put_shard-requires-2 : goal.put_shard-requires-2
put_shard-requires-2 c =
    let l = c.requires.0.long in let n = c.move_up.auto.out in let w = shard-within c.args.out.now c.requires.0 (view_key c.args.row.key) _ c.shard_room-place.ensures _ c.get8-count.ensures in let a = w.0 in let b = w.1 in let r = shard-room c.args.out.now c.requires.0 c.args.row (shard_good c.args.row _ c.well_formed.1.0) c.requires.2 c.requires.1 _ _ c.get8-count.ensures c.shard_room-place.ensures a (level_not c.shard_room-place.result c.get8-count.result (key_below (view_key c.args.row.key) (view_shard (shard_at c.args.out.now (4008 + 272 * c.shard_room-place.result))).key) (sym c.is_level.ensures ∙ c.if-is_level.false)) in omega arith

pub overflow_add-count : goal.overflow_add-count
overflow_add-count c =
    let w = shard-within c.args.out.now c.requires.0 (view_key c.args.row.key) _ c.shard_room-place.ensures _ c.get8-count.ensures in let a = w.0 in let b = w.1 in omega arith

pub put8-requires : goal.put8-requires
put8-requires c = let l = c.requires.0.long in let n = c.move_up.auto.out in let k = c.put_shard-2.auto.out in omega arith

pub shape_of-out : goal.shape_of-out
shape_of-out c = let n = c.move_up.auto.out in let k = c.put_shard-2.auto.out in let j = c.put8.auto.out in omega arith

pub returns : goal.returns
returns c =
    let w = shard-within c.args.out.now c.requires.0 (view_key c.args.row.key) _ c.shard_room-place.ensures _ c.get8-count.ensures in shard_in c.args.out.now c.requires.0 c.args.row (shard_good c.args.row _ c.well_formed.1.0) c.requires.2 c.requires.1 _ _ c.get8-count.ensures c.shard_room-place.ensures w.0 (level_not c.shard_room-place.result c.get8-count.result (key_below (view_key c.args.row.key) (view_shard (shard_at c.args.out.now (4008 + 272 * c.shard_room-place.result))).key) (sym c.is_level.ensures ∙ c.if-is_level.false)) _ _ _ c.move_up.ensures c.put_shard-2.ensures c.put8.ensures
