use native.Mathlib.Omega.{arith}
use mathlib.Core.Path.{sym}
use Rattle.calls_decide.proofs.answers.change_answer.Goals as goal

pub get8-count-requires : goal.get8-count-requires
get8-count-requires c = let l = c.requires.0.long in omega arith

pub shard_place-hit-requires : goal.shard_place-hit-requires
shard_place-hit-requires c =
    let l = c.requires.0.long in let f = c.requires.0.shards in let e = c.get8-count.ensures in (l, omega arith, sym e)

pub answer_at-requires : goal.answer_at-requires
answer_at-requires c =
    record { few = c.requires.0; counted = c.requires.1; count = c.get8-count.ensures; found = c.shard_place-hit.ensures }

pub returns : goal.returns
returns c = c.answer_at.ensures
