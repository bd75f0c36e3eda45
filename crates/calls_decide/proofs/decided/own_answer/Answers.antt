use Rattle.calls_decide.proofs.CommandLaws.{shards-rise, shards-counted, create_decided, drop-decided, register_decided, dead-decided, change-decided, bench_decided}
use Rattle.calls_decide.proofs.decided.own_answer.Goals as goal

pub create_answer-requires : goal.create_answer-requires
create_answer-requires c =
    (c.requires.ready.few, shards-rise c.args.map.now c.args.r (c.requires), c.requires.ready.settleable.lists)

pub drop_answer-requires : goal.drop_answer-requires
drop_answer-requires c = c.requires.ready.few

pub register_answer-requires : goal.register_answer-requires
register_answer-requires c = c.requires.ready.few

pub dead_answer-requires : goal.dead_answer-requires
dead_answer-requires c = c.requires.ready.few

pub change_answer-requires : goal.change_answer-requires
change_answer-requires c = (c.requires.ready.few, shards-counted c.args.map.now c.args.r (c.requires))

pub returns-in-Create : goal.returns-in-Create
returns-in-Create c = create_decided c.args.map.now c.args.r (c.requires) _ c.in-Create.is _ c.create_answer.ensures

pub returns-in-Drop : goal.returns-in-Drop
returns-in-Drop c = drop-decided c.args.map.now c.args.r (c.requires) c.in-Drop.is _ c.drop_answer.ensures

pub returns-in-Register : goal.returns-in-Register
returns-in-Register c =
    register_decided c.args.map.now c.args.r (c.requires) _ _ c.in-Register.is _ c.register_answer.ensures

pub returns-in-MarkNodeDead : goal.returns-in-MarkNodeDead
returns-in-MarkNodeDead c = dead-decided c.args.map.now c.args.r (c.requires) _ _ c.in-MarkNodeDead.is _ c.dead_answer.ensures

pub returns-in-OfShard : goal.returns-in-OfShard
returns-in-OfShard c = change-decided c.args.map.now c.args.r (c.requires) _ _ c.in-OfShard.is _ c.change_answer.ensures

pub returns-in-Bench : goal.returns-in-Bench
returns-in-Bench c = bench_decided c.args.map.now c.args.r (c.requires) c.in-Bench.is _ c.applied.ensures
