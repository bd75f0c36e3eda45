use native.Mathlib.Omega.{arith}
use mathlib.Core.Path.{sym, subst, ◌∙◌}
use mathlib.Core.Bool.{true, false}
use Rattle.image_header.specs.Image.{node_at}
use Rattle.image_show.proofs.MapRows.{shards-many, collections-many}
use Rattle.calls_show_walk.proofs.WalkLaws.{listed_by, going_sized, going_start, going_past, going_skip, going_full, going_take, going_end}
use Prim.Native.Nat.{ℕ}
use Rattle.std.specs.Prelude as prelude
use Rattle.std.specs.Prelude.{Ok}
use Rattle.image_map.specs.Image.{collections_at}
use Rattle.calls_show_walk.specs.Rows.{Takes}
use Rattle.calls_show_walk.proofs.walk.make_rows.Goals as goal

pub get8-total-requires : goal.get8-total-requires
get8-total-requires c = let p = c.requires.2 in omega arith

pub get8-me-requires : goal.get8-me-requires
get8-me-requires c = let p = c.requires.0.0 in omega arith

pub get8-own-requires : goal.get8-own-requires
get8-own-requires c = let p = c.requires.0.0 in omega arith

pub loop-i-init : goal.loop-i-init
loop-i-init c =
    going_start (node_at c.args.header.now) c.args.map.now c.args.rows.now c.args.workers.now

pub overflow_mul-i : goal.overflow_mul-i
overflow_mul-i c =
    let k = c.get8-total.ensures in let e = shards-many c.args.map.now in let lt = c.loop-i-test.true in let m = c.requires.3.shards.count in omega arith

pub overflow_add-i : goal.overflow_add-i
overflow_add-i c =
    let k = c.get8-total.ensures in let e = shards-many c.args.map.now in let lt = c.loop-i-test.true in let m = c.requires.3.shards.count in omega arith

pub shard_at-row-requires : goal.shard_at-row-requires
shard_at-row-requires c =
    let k = c.get8-total.ensures in let e = shards-many c.args.map.now in let lt = c.loop-i-test.true in let m = c.requires.3.shards.count in let p = c.requires.2 in omega arith

pub is_listed-requires : goal.is_listed-requires
is_listed-requires c =
    let k = c.get8-total.ensures in let e = shards-many c.args.map.now in let lt = c.loop-i-test.true in
    (going_sized (node_at c.args.header.now) c.args.map.now c.requires.3 c.args.rows.now c.args.workers.now c.loop-i.rows c.loop-i.workers c.loop-i.count c.loop-i.many c.loop-i.i c.loop-i.invariant (omega arith) c.shard_at-row.result c.shard_at-row.ensures).held

pub take_row-requires : goal.take_row-requires
take_row-requires c =
    let g = c.loop-i.invariant in let k = c.get8-total.ensures in let e = shards-many c.args.map.now in let lt = c.loop-i-test.true in let f = collections-many c.args.map.now in let cs = c.requires.3.collections in let wu = g.wide in let wp = g.reach in let ru = c.requires.4 in let rp = c.requires.5 in
    (c.requires.0, c.requires.1, c.requires.2, omega arith, going_sized (node_at c.args.header.now) c.args.map.now c.requires.3 c.args.rows.now c.args.workers.now c.loop-i.rows c.loop-i.workers c.loop-i.count c.loop-i.many c.loop-i.i c.loop-i.invariant (omega arith) c.shard_at-row.result c.shard_at-row.ensures, omega arith, omega arith, g.most)

pub overflow_add-count : goal.overflow_add-count
overflow_add-count c = let f = c.loop-i.invariant.few in omega arith

pub loop-i-preserved-then-not-is_listed : goal.loop-i-preserved-then-not-is_listed
loop-i-preserved-then-not-is_listed c =
    let k = c.get8-total.ensures in let e = shards-many c.args.map.now in let lt = c.loop-i-test.true in
    going_past (node_at c.args.header.now) c.args.map.now c.requires.3 c.args.rows.now c.args.workers.now c.loop-i.rows c.loop-i.workers c.loop-i.count c.loop-i.many c.loop-i.i c.loop-i.invariant (omega arith) c.shard_at-row.result c.shard_at-row.ensures
    (listed_by c.args.header.now _ _ c.get8-me.ensures c.get8-own.ensures _ false (sym c.if-not-is_listed.true ∙ c.is_listed.ensures))

pub returns-in_default : goal.returns-in_default
returns-in_default c =
    let k = c.get8-total.ensures in let e = shards-many c.args.map.now in let lt = c.loop-i-test.true in
    going_full (node_at c.args.header.now) c.args.map.now c.requires.3 c.args.rows.now c.args.workers.now c.loop-i.rows c.loop-i.workers c.loop-i.count c.loop-i.many c.loop-i.i c.loop-i.invariant (omega arith) c.shard_at-row.result c.shard_at-row.ensures
    (listed_by c.args.header.now _ _ c.get8-me.ensures c.get8-own.ensures _ true (sym c.if-not-is_listed.false ∙ c.is_listed.ensures)) c.in_default.ensures

pub loop-i-preserved-in_default-taken : goal.loop-i-preserved-in_default-taken
loop-i-preserved-in_default-taken c =
    let k = c.get8-total.ensures in let e = shards-many c.args.map.now in let lt = c.loop-i-test.true in
    going_skip (node_at c.args.header.now) c.args.map.now c.requires.3 c.args.rows.now c.args.workers.now c.loop-i.rows c.loop-i.workers c.loop-i.count c.loop-i.many c.loop-i.i c.loop-i.invariant (omega arith) c.shard_at-row.result c.shard_at-row.ensures
    (listed_by c.args.header.now _ _ c.get8-me.ensures c.get8-own.ensures _ true (sym c.if-not-is_listed.false ∙ c.is_listed.ensures)) _ _ (subst (λ (o : prelude.Option ℕ). Takes (node_at c.args.header.now) (collections_at c.args.map.now) c.shard_at-row.result c.loop-i.rows c.take_row.new.rows c.loop-i.workers c.take_row.new.workers c.loop-i.count c.loop-i.many (Ok o)) c.in_default-taken.is c.in-Ok.ensures)

pub loop-i-preserved : goal.loop-i-preserved
loop-i-preserved c =
    let k = c.get8-total.ensures in let e = shards-many c.args.map.now in let lt = c.loop-i-test.true in
    going_take (node_at c.args.header.now) c.args.map.now c.requires.3 c.args.rows.now c.args.workers.now c.loop-i.rows c.loop-i.workers c.loop-i.count c.loop-i.many c.loop-i.i c.loop-i.invariant (omega arith) c.shard_at-row.result c.shard_at-row.ensures
    (listed_by c.args.header.now _ _ c.get8-me.ensures c.get8-own.ensures _ true (sym c.if-not-is_listed.false ∙ c.is_listed.ensures)) c.requires.4 c.requires.5 _ _ _ (subst (λ (o : prelude.Option ℕ). Takes (node_at c.args.header.now) (collections_at c.args.map.now) c.shard_at-row.result c.loop-i.rows c.take_row.new.rows c.loop-i.workers c.take_row.new.workers c.loop-i.count c.loop-i.many (Ok o)) c.in-Some.is c.in-Ok.ensures)

pub shape_of-rows : goal.shape_of-rows
shape_of-rows c = c.loop-i.invariant.wide

pub shape_of-workers : goal.shape_of-workers
shape_of-workers c = c.loop-i.invariant.reach

pub returns : goal.returns
returns c =
    let k = c.get8-total.ensures in let e = shards-many c.args.map.now in let z = c.loop-i-test.false in
    going_end (node_at c.args.header.now) c.args.map.now c.requires.3 c.args.rows.now c.args.workers.now c.loop-i.rows c.loop-i.workers c.loop-i.count c.loop-i.many c.loop-i.i c.loop-i.invariant (omega arith)
