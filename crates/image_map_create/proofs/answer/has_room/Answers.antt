use native.Mathlib.Omega.{arith}
use Rattle.map_tables.specs.Names.{view_name}
use Rattle.image_map_create.proofs.RoomLaws.{room-none, room-is}
use Rattle.image_map_create.proofs.answer.has_room.Goals as goal

pub get8-collections-requires : goal.get8-collections-requires
get8-collections-requires c = let l = c.requires.0.long in omega arith

pub returns-then-collections-ge16 : goal.returns-then-collections-ge16
returns-then-collections-ge16 c =
    let e = c.get8-collections.ensures in let t = c.if-collections-ge16.true in room-none c.args.map.now c.requires.0 (view_name c.args.name) c.requires.1 c.args.lists (omega arith)

pub get8-shards-requires : goal.get8-shards-requires
get8-shards-requires c = let l = c.requires.0.long in omega arith

pub absent_keys-requires : goal.absent_keys-requires
absent_keys-requires c = let h = c.requires.2 in (c.requires.0, omega arith)

pub overflow_add-result : goal.overflow_add-result
overflow_add-result c =
    let e = c.get8-shards.ensures in let f = c.requires.0.shards in let k = c.absent_keys.ensures.1 in omega arith

pub returns : goal.returns
returns c =
    let e = c.get8-collections.ensures in let t = c.if-collections-ge16.false in room-is c.args.map.now c.requires.0 (view_name c.args.name) c.requires.1 c.args.lists (omega arith) _ _ c.get8-shards.ensures c.absent_keys.ensures.0
