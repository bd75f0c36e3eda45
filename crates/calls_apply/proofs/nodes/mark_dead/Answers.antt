use borrow.Author.Rules.{rules}
use native.Mathlib.Omega.{arith}
use mathlib.Core.Path.{sym, ap}
use mathlib.Core.Bool.{false}
use Rattle.spec.specs.Map.Apply.{dead}
use Rattle.map_tables.specs.View.{view_node}
use Rattle.map_tables.specs.declared.NodeRow.{NodeRow}
use Rattle.calls_decide.specs.Decides.{NodeStands}
use Rattle.calls_apply.proofs.NodeLaws.{dead_inside, dead-taken}
use Rattle.calls_apply.proofs.nodes.mark_dead.Goals as goal

pub get8-count-requires : goal.get8-count-requires
get8-count-requires c = let l = c.requires.0.ready.few.long in omega arith

pub node_place-hit-requires : goal.node_place-hit-requires
node_place-hit-requires c =
    let l = c.requires.0.ready.few.long in let f = c.requires.0.ready.few.nodes in let e = c.get8-count.ensures in (l, omega arith, sym e)

pub overflow_mul-hit : goal.overflow_mul-hit
overflow_mul-hit c =
    let f = c.requires.0.ready.few.nodes in let z : NodeStands c.args.map.now c.get8-count.result c.node_place-hit.result c.args.node.0 = record { few = c.requires.0.ready.few; count = c.get8-count.ensures; found = c.node_place-hit.ensures } in let h = dead_inside c.args.map.now c.args.r c.requires.0 c.args.node c.args.incarnation c.requires.2 c.requires.1 _ _ z in search rules

pub overflow_add-hit : goal.overflow_add-hit
overflow_add-hit c =
    let f = c.requires.0.ready.few.nodes in let z : NodeStands c.args.map.now c.get8-count.result c.node_place-hit.result c.args.node.0 = record { few = c.requires.0.ready.few; count = c.get8-count.ensures; found = c.node_place-hit.ensures } in let h = dead_inside c.args.map.now c.args.r c.requires.0 c.args.node c.args.incarnation c.requires.2 c.requires.1 _ _ z in search rules

pub node_at-row-requires : goal.node_at-row-requires
node_at-row-requires c =
    let l = c.requires.0.ready.few.long in let f = c.requires.0.ready.few.nodes in let z : NodeStands c.args.map.now c.get8-count.result c.node_place-hit.result c.args.node.0 = record { few = c.requires.0.ready.few; count = c.get8-count.ensures; found = c.node_place-hit.ensures } in let h = dead_inside c.args.map.now c.args.r c.requires.0 c.args.node c.args.incarnation c.requires.2 c.requires.1 _ _ z in omega arith

pub node_set-requires : goal.node_set-requires
node_set-requires c =
    let z : NodeStands c.args.map.now c.get8-count.result c.node_place-hit.result c.args.node.0 = record { few = c.requires.0.ready.few; count = c.get8-count.ensures; found = c.node_place-hit.ensures } in (c.requires.0.ready.few, dead_inside c.args.map.now c.args.r c.requires.0 c.args.node c.args.incarnation c.requires.2 c.requires.1 _ _ z)

pub returns : goal.returns
returns c =
    let z : NodeStands c.args.map.now c.get8-count.result c.node_place-hit.result c.args.node.0 = record { few = c.requires.0.ready.few; count = c.get8-count.ensures; found = c.node_place-hit.ensures } in dead-taken c.args.map.now c.args.r c.requires.0 c.args.node c.args.incarnation c.requires.2 c.requires.1 _ _ z (record { node = c.node_at-row.result.node; address = c.node_at-row.result.address; incarnation = c.node_at-row.result.incarnation; alive = false }) (ap (λ (x : NodeRow). dead (view_node x)) c.node_at-row.ensures) _ c.node_set.ensures
