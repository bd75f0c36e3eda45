use Rattle.calls_apply.proofs.Collections.{create_accepts, create_taken, drop-taken, bench_taken}
use Rattle.calls_apply.proofs.taken.take_effect.Goals as goal

pub create_collection-requires : goal.create_collection-requires
create_collection-requires c =
    (c.requires.0.ready.few, create_accepts c.args.map.now c.args.r c.requires.0 _ c.in-Create.is c.requires.1, c.requires.0.ready.settleable.lists)

pub drop_collection-requires : goal.drop_collection-requires
drop_collection-requires c = c.requires.0.ready.few

pub register-requires : goal.register-requires
register-requires c = (c.requires.0, c.requires.1, c.in-Register.is)

pub mark_dead-requires : goal.mark_dead-requires
mark_dead-requires c = (c.requires.0, c.requires.1, c.in-MarkNodeDead.is)

pub change_shard-requires : goal.change_shard-requires
change_shard-requires c = (c.requires.0, c.requires.1, c.in-OfShard.is)

pub returns-in-Create : goal.returns-in-Create
returns-in-Create c =
    create_taken c.args.map.now c.args.r c.requires.0 _ c.in-Create.is c.requires.1 _ c.create_collection.ensures

pub returns-in-Drop : goal.returns-in-Drop
returns-in-Drop c = drop-taken c.args.map.now c.args.r c.requires.0 c.in-Drop.is _ c.drop_collection.ensures

pub returns-in-Register : goal.returns-in-Register
returns-in-Register c = c.register.ensures

pub returns-in-MarkNodeDead : goal.returns-in-MarkNodeDead
returns-in-MarkNodeDead c = c.mark_dead.ensures

pub returns-in-OfShard : goal.returns-in-OfShard
returns-in-OfShard c = c.change_shard.ensures

pub returns-in-Bench : goal.returns-in-Bench
returns-in-Bench c = bench_taken c.args.map.now c.args.r c.requires.0 c.in-Bench.is
