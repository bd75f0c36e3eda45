use native.Mathlib.Omega.{arith}
use mathlib.Core.Path.{sym}
use Rattle.calls_apply.proofs.ChangedLaws.{hit_inside, takes, change-taken}
use Rattle.calls_apply.proofs.changed.change_shard.Goals as goal

pub get8-count-requires : goal.get8-count-requires
get8-count-requires c = let l = c.requires.0.ready.few.long in omega arith

pub shard_place-hit-requires : goal.shard_place-hit-requires
shard_place-hit-requires c =
    let l = c.requires.0.ready.few.long in let f = c.requires.0.ready.few.shards in let e = c.get8-count.ensures in (l, omega arith, sym e)

pub changed_at-new-requires : goal.changed_at-new-requires
changed_at-new-requires c =
    let f = c.requires.0.ready.few.shards in let e = c.get8-count.ensures in let h = hit_inside c.args.map.now c.args.r c.requires.0 c.args.change c.args.epoch c.requires.2 c.requires.1 _ _ c.get8-count.ensures c.shard_place-hit.ensures in (c.requires.0.ready.few, omega arith, takes c.args.map.now c.args.r c.requires.0 c.args.change c.args.epoch c.requires.2 c.requires.1 _ _ c.get8-count.ensures c.shard_place-hit.ensures)

pub shard_set-requires : goal.shard_set-requires
shard_set-requires c =
    let e = c.get8-count.ensures in let h = hit_inside c.args.map.now c.args.r c.requires.0 c.args.change c.args.epoch c.requires.2 c.requires.1 _ _ c.get8-count.ensures c.shard_place-hit.ensures in (c.requires.0.ready.few, omega arith, c.changed_at-new.ensures.1)

pub returns : goal.returns
returns c =
    change-taken c.args.map.now c.args.r c.requires.0 c.args.change c.args.epoch c.requires.2 c.requires.1 _ _ c.get8-count.ensures c.shard_place-hit.ensures c.changed_at-new.result c.changed_at-new.ensures.0 _ c.shard_set.ensures
