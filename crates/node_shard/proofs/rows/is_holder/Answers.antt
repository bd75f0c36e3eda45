use borrow.Author.Rules.{rules}
use borrow.Author.Tests.{eq-eqb, ne_eqb}
use Rattle.node_shard.proofs.Loops.{any-on, any_stop, any-end}
use Rattle.spec.specs.Node.Shards.{on_node}
use Rattle.node_shard.proofs.rows.is_holder.Goals as goal

pub returns-then-n-node : goal.returns-then-n-node
returns-then-n-node c =
    any_stop (on_node c.args.node) c.args.replicas c.args.count c.loop-i.i (search rules) c.loop-i.invariant.1 _ (eq-eqb _ _ c.if-n-node.true) (search rules)

pub loop-i-preserved : goal.loop-i-preserved
loop-i-preserved c =
    (search rules, any-on (on_node c.args.node) c.args.replicas c.args.count c.loop-i.i (search rules) c.loop-i.invariant.1 _ (ne_eqb _ _ c.if-n-node.false) (search rules))

pub returns : goal.returns
returns c =
    any-end (on_node c.args.node) c.args.replicas c.args.count c.loop-i.i (search rules) c.loop-i.invariant.1 (search rules)
