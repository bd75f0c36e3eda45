use borrow.Author.Rules.{rules}
use Rattle.image_map_count.proofs.SumLaws.{listed_some, fitted}
use Rattle.image_map_count.proofs.six.fitting.Goals as goal

pub overflow_sub-each : goal.overflow_sub-each
overflow_sub-each c =
    listed_some c.args.ids c.args.shards c.args.replication c.args.lists c.args.nodes c.min.result (search rules) c.geometric-each.result c.geometric-each.ensures c.requires.1

pub returns : goal.returns
returns c =
    fitted c.args.ids c.args.shards c.args.replication c.args.lists c.args.nodes c.min.result (search rules) c.geometric-each.result c.geometric-each.ensures c.requires.1 c.geometric-all.result c.geometric-all.ensures c.requires.0 c.requires.2
