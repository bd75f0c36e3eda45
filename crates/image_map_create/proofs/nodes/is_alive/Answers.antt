use native.Mathlib.Omega.{arith}
use mathlib.Core.Path.{sym}
use Rattle.image_map_create.proofs.NodeLaws.{alive-none, alive_some}
use Rattle.image_map_create.proofs.nodes.is_alive.Goals as goal

pub get8-count-requires : goal.get8-count-requires
get8-count-requires c = let l = c.requires.long in omega arith

pub node_place-place-requires : goal.node_place-place-requires
node_place-place-requires c = let f = c.requires.nodes in let e = c.get8-count.ensures in (c.requires.long, omega arith, sym e)

pub returns-then-count-place : goal.returns-then-count-place
returns-then-count-place c =
    alive-none c.args.map.now c.requires c.args.node.0 _ _ c.get8-count.ensures c.node_place-place.ensures c.if-count-place.true

pub overflow_mul-place : goal.overflow_mul-place
overflow_mul-place c =
    let f = c.requires.nodes in let e = c.get8-count.ensures in let h = c.if-count-place.false in omega arith

pub overflow_add-place : goal.overflow_add-place
overflow_add-place c =
    let f = c.requires.nodes in let e = c.get8-count.ensures in let h = c.if-count-place.false in omega arith

pub overflow_add-place-2 : goal.overflow_add-place-2
overflow_add-place-2 c =
    let f = c.requires.nodes in let e = c.get8-count.ensures in let h = c.if-count-place.false in omega arith

pub get4-requires : goal.get4-requires
get4-requires c =
    let l = c.requires.long in let f = c.requires.nodes in let e = c.get8-count.ensures in let h = c.if-count-place.false in omega arith

pub returns : goal.returns
returns c =
    alive_some c.args.map.now c.requires c.args.node.0 _ _ c.get8-count.ensures c.node_place-place.ensures c.if-count-place.false _ c.get4.ensures _ c.flag_of.ensures
