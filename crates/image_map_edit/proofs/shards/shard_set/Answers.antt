use borrow.Author.Rules.{rules}
use native.Mathlib.Omega.{arith}
use Rattle.image_map_edit.proofs.Types.{shard_good}
use Rattle.image_map_edit.proofs.Tables.{shard_over}
use Rattle.image_map_edit.proofs.shards.shard_set.Goals as goal

pub overflow_mul-place : goal.overflow_mul-place
overflow_mul-place c = let f = c.requires.0.shards in let i = c.requires.1 in search rules

pub overflow_add-place : goal.overflow_add-place
overflow_add-place c = let f = c.requires.0.shards in let i = c.requires.1 in search rules

pub put_shard-requires : goal.put_shard-requires
put_shard-requires c = let l = c.requires.0.long in let f = c.requires.0.shards in let i = c.requires.1 in omega arith

pub returns : goal.returns
returns c =
    shard_over c.args.out.now c.requires.0 c.args.row (shard_good c.args.row _ c.well_formed.1.1.0) c.requires.2 c.args.place c.requires.1 _ c.put_shard.ensures
