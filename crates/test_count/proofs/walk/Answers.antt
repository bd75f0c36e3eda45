use Rattle.calls_apply.proofs.Call.{few_of}
use Rattle.test_count.proofs.Rises.{shards-rise}
use Rattle.test_count.proofs.walk.Goals as goal

pub create_answer-v-requires : goal.create_answer-v-requires
create_answer-v-requires c =
    let i = c.requires in
    let few = few_of _ i.lent i.formed in
    (few, shards-rise _ i few, c.placement_at-p.ensures)
