use borrow.Author.Rules.{rules}
use native.Mathlib.Omega.{arith}
use Rattle.image_map_edit.proofs.Types.{node_good}
use Rattle.image_map_edit.proofs.NodeLaws.{node_set_at}
use Rattle.image_map_edit.proofs.nodes.node_set.Goals as goal

pub overflow_mul-place : goal.overflow_mul-place
overflow_mul-place c = let f = c.requires.0.nodes in let i = c.requires.1 in search rules

pub overflow_add-place : goal.overflow_add-place
overflow_add-place c = let f = c.requires.0.nodes in let i = c.requires.1 in search rules

pub put_node-requires : goal.put_node-requires
put_node-requires c = let l = c.requires.0.long in let f = c.requires.0.nodes in let i = c.requires.1 in omega arith

pub returns : goal.returns
returns c =
    node_set_at c.args.out.now c.requires.0 c.args.row (node_good c.args.row _ c.well_formed.1.1.0) c.args.place c.requires.1 _ c.put_node.ensures
