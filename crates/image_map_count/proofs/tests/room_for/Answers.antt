use native.Mathlib.Omega.{arith}
use mathlib.Core.Path.{sym}
use Rattle.map_tables.specs.Names.{view_name}
use Rattle.map_tables.specs.View.{view_map}
use Rattle.image_map.specs.Image.{map_at}
use Rattle.image_map_count.proofs.Room.{key_of, no_collection_left, room-left, key_counts, key_stands, keys-start, keys-end}
use Rattle.image_map_count.proofs.TestLaws.{shards-few, collections-many, shards-many, shards-rise, shard-there, shard-new}
use Rattle.image_map_count.proofs.tests.room_for.Goals as goal

pub get8-requires : goal.get8-requires
get8-requires c = let l = c.requires.0.long in omega arith

pub returns-then-get8-ge16 : goal.returns-then-get8-ge16
returns-then-get8-ge16 c =
    let e = c.get8.ensures in let t = c.if-get8-ge16.true in no_collection_left (view_map (map_at c.args.map.now)) (view_name c.args.name) c.args.shards (shards-rise c.args.map.now c.requires.0) (omega (arith, collections-many c.args.map.now c.requires.0))

pub get8-count-requires : goal.get8-count-requires
get8-count-requires c = let l = c.requires.0.long in omega arith

pub loop-i-init : goal.loop-i-init
loop-i-init c =
    (omega arith, omega arith, omega (arith, keys-start (view_map (map_at c.args.map.now)).shards (view_name c.args.name) c.args.shards))

pub shard_place-requires : goal.shard_place-requires
shard_place-requires c =
    let e = c.get8-count.ensures in (c.requires.0.long, omega (arith, shards-few c.args.map.now c.requires.0), sym e)

pub loop-i-preserved-then-shard_place-count : goal.loop-i-preserved-then-shard_place-count
loop-i-preserved-then-shard_place-count c =
    let lt = c.loop-i-test.true in let e = c.get8-count.ensures in let here = c.if-shard_place-count.true in
    (omega arith, omega arith, key_stands (view_map (map_at c.args.map.now)).shards (view_name c.args.name) c.args.shards c.loop-i.i c.loop-i.total _ lt c.loop-i.invariant.2 (shard-there c.args.map.now c.requires.0 (key_of (view_name c.args.name) c.loop-i.i) c.shard_place.result c.shard_place.ensures (omega arith)))

pub overflow_add-total : goal.overflow_add-total
overflow_add-total c =
    let e = c.get8-count.ensures in let k = shards-few c.args.map.now c.requires.0 in let lt = c.loop-i-test.true in omega (arith, c.loop-i.invariant.1, c.requires.1)

pub loop-i-preserved : goal.loop-i-preserved
loop-i-preserved c =
    let lt = c.loop-i-test.true in let e = c.get8-count.ensures in let past = c.if-shard_place-count.false in
    (omega arith, omega arith, key_counts (view_map (map_at c.args.map.now)).shards (view_name c.args.name) c.args.shards c.loop-i.i c.loop-i.total _ lt c.loop-i.invariant.2 (shard-new c.args.map.now c.requires.0 (key_of (view_name c.args.name) c.loop-i.i) c.shard_place.result c.shard_place.ensures (omega arith)))

pub returns : goal.returns
returns c =
    let e = c.get8-count.ensures in let f = c.get8.ensures in let t = c.if-get8-ge16.false in
    let z = keys-end (view_map (map_at c.args.map.now)).shards (view_name c.args.name) c.args.shards c.loop-i.i c.loop-i.total _ c.loop-i-test.false c.loop-i.invariant.2 in
    room-left (view_map (map_at c.args.map.now)) (view_name c.args.name) c.args.shards (shards-rise c.args.map.now c.requires.0) (omega (arith, collections-many c.args.map.now c.requires.0)) c.loop-i.total (omega (arith, z, shards-many c.args.map.now c.requires.0))
