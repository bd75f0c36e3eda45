use borrow.Author.Rules.{rules}
use native.Mathlib.Omega.{arith}
use mathlib.Core.Path.{sym, ◌∙◌}
use Prim.Native.Nat.{◌+◌, ◌*◌}
use lib.Dec.{ltb}
use Rattle.map_tables.specs.View.{view_node}
use Rattle.image_map_row.specs.Rows.{node_at}
use Rattle.image_map_edit.proofs.Types.{node_good}
use Rattle.image_map_edit.proofs.Tables.{level-there, level_not}
use Rattle.image_map_edit.proofs.NodeLaws.{node-within, node_over, node-room, node_in_lem}
use Rattle.image_map_edit.proofs.nodes.node_put.Goals as goal

pub get8-count-requires : goal.get8-count-requires
get8-count-requires c = let l = c.requires.0.long in omega arith

pub node_room-place-requires : goal.node_room-place-requires
node_room-place-requires c =
    let l = c.requires.0.long in let f = c.requires.0.nodes in let e = c.get8-count.ensures in (l, omega arith, sym e)

pub overflow_mul-at : goal.overflow_mul-at
overflow_mul-at c =
    let w = node-within c.args.out.now c.requires.0 c.args.row.node.0 _ _ c.get8-count.ensures c.node_room-place.ensures in let a = w.0 in let b = w.1 in search rules

pub overflow_add-at : goal.overflow_add-at
overflow_add-at c =
    let w = node-within c.args.out.now c.requires.0 c.args.row.node.0 _ _ c.get8-count.ensures c.node_room-place.ensures in let a = w.0 in let b = w.1 in search rules

pub is_level-requires : goal.is_level-requires
is_level-requires c =
    let l = c.requires.0.long in let f = c.requires.0.nodes in let e = c.get8-count.ensures in (l, omega arith, sym e)

pub put_node-requires : goal.put_node-requires
put_node-requires c =
    let l = c.requires.0.long in let w = node-within c.args.out.now c.requires.0 c.args.row.node.0 _ _ c.get8-count.ensures c.node_room-place.ensures in let a = w.0 in let b = w.1 in let h = level-there c.node_room-place.result c.get8-count.result (ltb c.args.row.node.0 (view_node (node_at c.args.out.now (40 + 96 * c.node_room-place.result))).node) (sym c.is_level.ensures ∙ c.if-is_level.true) in let k = h.0 in omega arith

pub returns-then-is_level : goal.returns-then-is_level
returns-then-is_level c =
    let h = level-there c.node_room-place.result c.get8-count.result (ltb c.args.row.node.0 (view_node (node_at c.args.out.now (40 + 96 * c.node_room-place.result))).node) (sym c.is_level.ensures ∙ c.if-is_level.true) in node_over c.args.out.now c.requires.0 c.args.row (node_good c.args.row _ c.well_formed.1.0) c.requires.1 _ _ c.get8-count.ensures c.node_room-place.ensures _ h.0 h.1 c.put_node.ensures

pub overflow_add-place : goal.overflow_add-place
overflow_add-place c =
    let w = node-within c.args.out.now c.requires.0 c.args.row.node.0 _ _ c.get8-count.ensures c.node_room-place.ensures in let a = w.0 in let b = w.1 in search rules

pub overflow_mul-place : goal.overflow_mul-place
overflow_mul-place c =
    let w = node-within c.args.out.now c.requires.0 c.args.row.node.0 _ _ c.get8-count.ensures c.node_room-place.ensures in let a = w.0 in let b = w.1 in search rules

pub overflow_add-place-2 : goal.overflow_add-place-2
overflow_add-place-2 c =
    let w = node-within c.args.out.now c.requires.0 c.args.row.node.0 _ _ c.get8-count.ensures c.node_room-place.ensures in let a = w.0 in let b = w.1 in search rules

pub overflow_sub-count : goal.overflow_sub-count
overflow_sub-count c =
    let w = node-within c.args.out.now c.requires.0 c.args.row.node.0 _ _ c.get8-count.ensures c.node_room-place.ensures in let a = w.0 in let b = w.1 in search rules

pub overflow_mul-count : goal.overflow_mul-count
overflow_mul-count c =
    let w = node-within c.args.out.now c.requires.0 c.args.row.node.0 _ _ c.get8-count.ensures c.node_room-place.ensures in let a = w.0 in let b = w.1 in search rules

pub move_up-requires : goal.move_up-requires
move_up-requires c =
    let l = c.requires.0.long in let w = node-within c.args.out.now c.requires.0 c.args.row.node.0 _ _ c.get8-count.ensures c.node_room-place.ensures in let a = w.0 in let b = w.1 in let r = node-room c.args.out.now c.requires.0 c.args.row (node_good c.args.row _ c.well_formed.1.0) c.requires.1 _ _ c.get8-count.ensures c.node_room-place.ensures a (level_not c.node_room-place.result c.get8-count.result (ltb c.args.row.node.0 (view_node (node_at c.args.out.now (40 + 96 * c.node_room-place.result))).node) (sym c.is_level.ensures ∙ c.if-is_level.false)) in (omega arith, omega arith)

pub put_node-requires-2 : goal.put_node-requires-2
put_node-requires-2 c =
    let l = c.requires.0.long in let n = c.move_up.auto.out in let w = node-within c.args.out.now c.requires.0 c.args.row.node.0 _ _ c.get8-count.ensures c.node_room-place.ensures in let a = w.0 in let b = w.1 in let r = node-room c.args.out.now c.requires.0 c.args.row (node_good c.args.row _ c.well_formed.1.0) c.requires.1 _ _ c.get8-count.ensures c.node_room-place.ensures a (level_not c.node_room-place.result c.get8-count.result (ltb c.args.row.node.0 (view_node (node_at c.args.out.now (40 + 96 * c.node_room-place.result))).node) (sym c.is_level.ensures ∙ c.if-is_level.false)) in omega arith

pub overflow_add-count : goal.overflow_add-count
overflow_add-count c =
    let w = node-within c.args.out.now c.requires.0 c.args.row.node.0 _ _ c.get8-count.ensures c.node_room-place.ensures in let a = w.0 in let b = w.1 in search rules

pub put8-requires : goal.put8-requires
put8-requires c = let l = c.requires.0.long in let n = c.move_up.auto.out in let k = c.put_node-2.auto.out in omega arith

pub shape_of-out : goal.shape_of-out
shape_of-out c = let n = c.move_up.auto.out in let k = c.put_node-2.auto.out in let j = c.put8.auto.out in omega arith

pub returns : goal.returns
returns c =
    let w = node-within c.args.out.now c.requires.0 c.args.row.node.0 _ _ c.get8-count.ensures c.node_room-place.ensures in node_in_lem c.args.out.now c.requires.0 c.args.row (node_good c.args.row _ c.well_formed.1.0) c.requires.1 _ _ c.get8-count.ensures c.node_room-place.ensures w.0 (level_not c.node_room-place.result c.get8-count.result (ltb c.args.row.node.0 (view_node (node_at c.args.out.now (40 + 96 * c.node_room-place.result))).node) (sym c.is_level.ensures ∙ c.if-is_level.false)) _ _ _ c.move_up.ensures c.put_node-2.ensures c.put8.ensures
