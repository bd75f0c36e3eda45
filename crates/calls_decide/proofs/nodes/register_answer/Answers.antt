use borrow.Author.Rules.{rules}
use native.Mathlib.Omega.{arith}
use mathlib.Core.Path.{sym}
use Prim.Native.Nat.{◌+◌, ◌*◌}
use borrow.Author.Tests.{le-leb, lt-leb, le-ltb, lt-ltb}
use Rattle.spec.specs.Map.Apply.{register_answer}
use Rattle.calls_decide.specs.Decides.{NodeStands}
use Rattle.calls_decide.proofs.Places.{nodes-count, node-none, node_some, incarnation_is}
use Rattle.calls_decide.proofs.nodes.register_answer.Goals as goal

pub get8-count-requires : goal.get8-count-requires
get8-count-requires c = let l = c.requires.long in omega arith

pub node_place-hit-requires : goal.node_place-hit-requires
node_place-hit-requires c =
    let l = c.requires.long in let f = c.requires.nodes in let e = c.get8-count.ensures in (l, omega arith, sym e)

pub overflow_mul-hit : goal.overflow_mul-hit
overflow_mul-hit c =
    let f = c.requires.nodes in let e = c.get8-count.ensures in let i = c.if-hit-count.true in search rules

pub overflow_add-hit : goal.overflow_add-hit
overflow_add-hit c =
    let f = c.requires.nodes in let e = c.get8-count.ensures in let i = c.if-hit-count.true in search rules

pub overflow_add-hit-then-hit-count : goal.overflow_add-hit-then-hit-count
overflow_add-hit-then-hit-count c =
    let f = c.requires.nodes in let e = c.get8-count.ensures in let i = c.if-hit-count.true in search rules

pub get8-known-requires : goal.get8-known-requires
get8-known-requires c =
    let l = c.requires.long in let f = c.requires.nodes in let e = c.get8-count.ensures in let i = c.if-hit-count.true in omega arith

pub returns-then-incarnation-known : goal.returns-then-incarnation-known
unfolding register_answer
returns-then-incarnation-known c =
    let z : NodeStands c.args.map.now c.get8-count.result c.node_place-hit.result c.args.node.0 = record { few = c.requires; count = c.get8-count.ensures; found = c.node_place-hit.ensures } in rw (node_some c.args.map.now c.get8-count.result c.node_place-hit.result c.args.node.0 z c.if-hit-count.true, incarnation_is c.args.map.now (40 + 96 * c.node_place-hit.result), sym c.get8-known.ensures, le-leb _ _ c.if-incarnation-known.true) c.rejected.ensures

pub returns-then-hit-count : goal.returns-then-hit-count
unfolding register_answer
returns-then-hit-count c =
    let z : NodeStands c.args.map.now c.get8-count.result c.node_place-hit.result c.args.node.0 = record { few = c.requires; count = c.get8-count.ensures; found = c.node_place-hit.ensures } in rw (node_some c.args.map.now c.get8-count.result c.node_place-hit.result c.args.node.0 z c.if-hit-count.true, incarnation_is c.args.map.now (40 + 96 * c.node_place-hit.result), sym c.get8-known.ensures, lt-leb _ _ c.if-incarnation-known.false) c.applied.ensures

pub returns-then-count-ge32 : goal.returns-then-count-ge32
unfolding register_answer
returns-then-count-ge32 c =
    let z : NodeStands c.args.map.now c.get8-count.result c.node_place-hit.result c.args.node.0 = record { few = c.requires; count = c.get8-count.ensures; found = c.node_place-hit.ensures } in rw (node-none c.args.map.now c.get8-count.result c.node_place-hit.result c.args.node.0 z c.if-hit-count.false, nodes-count c.args.map.now c.get8-count.result c.node_place-hit.result c.args.node.0 z, le-ltb _ _ c.if-count-ge32.true) c.refused.ensures

pub returns : goal.returns
unfolding register_answer
returns c =
    let z : NodeStands c.args.map.now c.get8-count.result c.node_place-hit.result c.args.node.0 = record { few = c.requires; count = c.get8-count.ensures; found = c.node_place-hit.ensures } in rw (node-none c.args.map.now c.get8-count.result c.node_place-hit.result c.args.node.0 z c.if-hit-count.false, nodes-count c.args.map.now c.get8-count.result c.node_place-hit.result c.args.node.0 z, lt-ltb _ _ c.if-count-ge32.false) c.applied-2.ensures
