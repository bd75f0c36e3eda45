use Rattle.map_tables.specs.View.{view_placement}
use Rattle.calls_map.proofs.Places.{lists_short, lists_long_lem}
use Rattle.calls_map.proofs.lists.put_placement.Goals as goal

pub returns-then-out-lists_size : goal.returns-then-out-lists_size
returns-then-out-lists_size c =
    lists_short (view_placement c.args.p) c.args.out.now c.lists_size.result c.lists_size.ensures.0 c.if-out-lists_size.true

pub returns : goal.returns
returns c =
    lists_long_lem (view_placement c.args.p) c.args.out.now _ c.lists_size.result c.lists_size.ensures.0 c.if-out-lists_size.false c.put_lists.ensures
