use native.Mathlib.Omega.{arith}
use mathlib.Core.Path.{sym}
use Rattle.map_tables.specs.Names.{view_name}
use Rattle.image_map_put.specs.Rows.{read_as}
use Rattle.image_map_create.proofs.RoomLaws.{absent-start, absent-there, absent-free, absent-end, key-absent, key-there}
use Rattle.image_map_create.proofs.room.absent_keys.Goals as goal

pub get8-used-requires : goal.get8-used-requires
get8-used-requires c = let l = c.requires.0.long in omega arith

pub loop-i-init : goal.loop-i-init
loop-i-init c =
    (omega arith, omega arith, c.get8-used.ensures, absent-start (view_name c.args.name) (read_as c.args.map.now).shards c.args.n)

pub overflow_cast-key : goal.overflow_cast-key
overflow_cast-key c = let h = c.requires.1 in let t = c.loop-i-test.true in omega arith

pub shard_place-requires : goal.shard_place-requires
shard_place-requires c =
    let f = c.requires.0.shards in let e = c.get8-used.ensures in (c.requires.0.long, omega arith, sym e)

pub overflow_add-free : goal.overflow_add-free
overflow_add-free c = let h = c.requires.1 in let t = c.loop-i-test.true in let f = c.loop-i.invariant.1 in omega arith

pub loop-i-preserved : goal.loop-i-preserved
loop-i-preserved c =
    let t = c.loop-i-test.true in let f = c.loop-i.invariant.1 in (omega arith, omega arith, c.loop-i.invariant.2, absent-free (view_name c.args.name) (read_as c.args.map.now).shards c.args.n c.loop-i.i c.loop-i.free t c.loop-i.invariant.3 (key-absent c.args.map.now c.requires.0 (record { collection = c.args.name; shard = c.loop-i.i }) _ _ c.loop-i.invariant.2 c.shard_place.ensures c.if-shard_place-used.false))

pub loop-i-preserved-then-shard_place-used : goal.loop-i-preserved-then-shard_place-used
loop-i-preserved-then-shard_place-used c =
    let t = c.loop-i-test.true in let f = c.loop-i.invariant.1 in (omega arith, omega arith, c.loop-i.invariant.2, absent-there (view_name c.args.name) (read_as c.args.map.now).shards c.args.n c.loop-i.i c.loop-i.free t c.loop-i.invariant.3 (key-there c.args.map.now c.requires.0 (record { collection = c.args.name; shard = c.loop-i.i }) _ _ c.loop-i.invariant.2 c.shard_place.ensures c.if-shard_place-used.true))

pub returns : goal.returns
returns c =
    let h = c.requires.1 in let t = c.loop-i-test.false in let a = c.loop-i.invariant.0 in let f = c.loop-i.invariant.1 in (absent-end (view_name c.args.name) (read_as c.args.map.now).shards c.args.n c.loop-i.i c.loop-i.free t c.loop-i.invariant.3, omega arith)
