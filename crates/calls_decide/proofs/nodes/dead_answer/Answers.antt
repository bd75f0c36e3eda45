use borrow.Author.Rules.{rules}
use native.Mathlib.Omega.{arith}
use mathlib.Core.Path.{sym}
use Prim.Native.Nat.{◌+◌, ◌*◌}
use borrow.Author.Tests.{eq-eqb, ne_eqb}
use Rattle.spec.specs.Map.Apply.{dead_answer}
use Rattle.calls_decide.specs.Decides.{NodeStands}
use Rattle.calls_decide.proofs.Places.{node-none, node_some, incarnation_is}
use Rattle.calls_decide.proofs.nodes.dead_answer.Goals as goal
use Rattle.calls_decide.proofs.nodes.dead_answer.Goals.{then-hit-count+else-get8-incarnation, else-hit-count}

pub get8-count-requires : goal.get8-count-requires
get8-count-requires c = let l = c.requires.long in omega arith

pub node_place-hit-requires : goal.node_place-hit-requires
node_place-hit-requires c =
    let l = c.requires.long in let f = c.requires.nodes in let e = c.get8-count.ensures in (l, omega arith, sym e)

pub overflow_mul-hit : goal.overflow_mul-hit
overflow_mul-hit c =
    let f = c.requires.nodes in let e = c.get8-count.ensures in let i = c.if-hit-count.true in search rules

pub overflow_add-hit : goal.overflow_add-hit
overflow_add-hit c =
    let f = c.requires.nodes in let e = c.get8-count.ensures in let i = c.if-hit-count.true in search rules

pub overflow_add-hit-then-hit-count : goal.overflow_add-hit-then-hit-count
overflow_add-hit-then-hit-count c =
    let f = c.requires.nodes in let e = c.get8-count.ensures in let i = c.if-hit-count.true in search rules

pub get8-requires : goal.get8-requires
get8-requires c =
    let l = c.requires.long in let f = c.requires.nodes in let e = c.get8-count.ensures in let i = c.if-hit-count.true in omega arith

pub returns-then-get8-incarnation : goal.returns-then-get8-incarnation
unfolding dead_answer
returns-then-get8-incarnation c =
    let z : NodeStands c.args.map.now c.get8-count.result c.node_place-hit.result c.args.node.0 = record { few = c.requires; count = c.get8-count.ensures; found = c.node_place-hit.ensures } in rw (node_some c.args.map.now c.get8-count.result c.node_place-hit.result c.args.node.0 z c.if-hit-count.true, incarnation_is c.args.map.now (40 + 96 * c.node_place-hit.result), sym c.get8.ensures, eq-eqb _ _ c.if-get8-incarnation.true) c.applied.ensures

pub returns : goal.returns
unfolding dead_answer
returns c =
    let z : NodeStands c.args.map.now c.get8-count.result c.node_place-hit.result c.args.node.0 = record { few = c.requires; count = c.get8-count.ensures; found = c.node_place-hit.ensures } in
    elim c.if-hit-count.branch [
      | then-hit-count+else-get8-incarnation w ↦ rw (node_some c.args.map.now c.get8-count.result c.node_place-hit.result c.args.node.0 z w.if-hit-count.true, incarnation_is c.args.map.now (40 + 96 * c.node_place-hit.result), sym w.get8.ensures, ne_eqb _ _ w.if-get8-incarnation.false) c.rejected.ensures
      | else-hit-count w ↦ rw (node-none c.args.map.now c.get8-count.result c.node_place-hit.result c.args.node.0 z w.if-hit-count.false) c.rejected.ensures
    ]
