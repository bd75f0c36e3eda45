use Rattle.calls_apply.proofs.Call.{few_of}
use Rattle.test_map.proofs.replay.Goals as goal

pub start-requires : goal.start-requires
start-requires c = c.requires

pub drain-requires : goal.drain-requires
drain-requires c = c.start.ensures.intact

pub show-requires : goal.show-requires
show-requires c = let i = c.drain.ensures in few_of _ i.lent i.formed
