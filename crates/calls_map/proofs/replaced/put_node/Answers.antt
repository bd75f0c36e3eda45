use mathlib.Core.Bool.{true, false}
use Rattle.calls_map.proofs.Places.{node-put}
use Rattle.calls_map.proofs.replaced.put_node.Goals as goal

pub returns-then-put_number : goal.returns-then-put_number
returns-then-put_number c =
    let a = c.args in
    node-put a.out.now a.node.0 _ _ true c.if-put_number.true c.put_number.ensures

pub returns-else-put_number : goal.returns-else-put_number
returns-else-put_number c =
    let a = c.args in
    node-put a.out.now a.node.0 _ _ false c.if-put_number.false c.put_number.ensures
