use Rattle.calls_apply.proofs.NodeLaws.{register_room, register_taken}
use Rattle.calls_apply.proofs.nodes.register.Goals as goal

pub node_put-requires : goal.node_put-requires
node_put-requires c =
    (c.requires.0.ready.few, register_room c.args.map.now c.args.r c.requires.0 c.args.node c.args.incarnation c.requires.2 c.requires.1)

pub returns : goal.returns
returns c =
    register_taken c.args.map.now c.args.r c.requires.0 c.args.node c.args.incarnation c.requires.2 c.requires.1 _ c.node_put.ensures
