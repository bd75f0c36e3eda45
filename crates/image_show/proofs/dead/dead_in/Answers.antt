use native.Mathlib.Omega.{arith}
use mathlib.Core.Path.{refl, sym, ◌∙◌, ap}
use Rattle.node_shard.proofs.Loops.{any-on, any_stop, any-end}
use Rattle.image_map.specs.Image.{no_node, nodes_at}
use Rattle.node_show_row.specs.Rows.{dead_at}
use Rattle.image_show.proofs.MapRows.{nodes-fit, node_row}
use Rattle.image_show.proofs.dead.dead_in.Goals as goal

pub loop-i-init : goal.loop-i-init
loop-i-init c = (omega arith, refl)

pub overflow_mul-i : goal.overflow_mul-i
overflow_mul-i c = let q = c.requires.1 in let lt = c.loop-i-test.true in omega arith

pub node_at-x-requires : goal.node_at-x-requires
node_at-x-requires c = let p = c.requires.0 in let q = c.requires.1 in let lt = c.loop-i-test.true in omega arith

pub returns-then-is_dead : goal.returns-then-is_dead
returns-then-is_dead c =
    any_stop (dead_at c.args.id c.args.incarnation) (nodes_at c.args.map.now).items (nodes_at c.args.map.now).count c.loop-i.i (nodes-fit c.args.map.now (let p = c.requires.1 in let e = c.requires.2 in omega arith)) c.loop-i.invariant.1 no_node (ap (dead_at c.args.id c.args.incarnation) (node_row c.args.map.now (let p = c.requires.1 in let e = c.requires.2 in omega arith) c.loop-i.i no_node (let e = c.requires.2 in let lt = c.loop-i-test.true in omega arith) ∙ sym c.node_at-x.ensures) ∙ sym c.is_dead.ensures ∙ c.if-is_dead.true) (let e = c.requires.2 in let lt = c.loop-i-test.true in omega arith)

pub loop-i-preserved : goal.loop-i-preserved
loop-i-preserved c =
    let lt = c.loop-i-test.true in (omega arith, any-on (dead_at c.args.id c.args.incarnation) (nodes_at c.args.map.now).items (nodes_at c.args.map.now).count c.loop-i.i (nodes-fit c.args.map.now (let p = c.requires.1 in let e = c.requires.2 in omega arith)) c.loop-i.invariant.1 no_node (ap (dead_at c.args.id c.args.incarnation) (node_row c.args.map.now (let p = c.requires.1 in let e = c.requires.2 in omega arith) c.loop-i.i no_node (let e = c.requires.2 in let lt = c.loop-i-test.true in omega arith) ∙ sym c.node_at-x.ensures) ∙ sym c.is_dead.ensures ∙ c.if-is_dead.false) (let e = c.requires.2 in let lt = c.loop-i-test.true in omega arith))

pub returns : goal.returns
returns c =
    let e = c.requires.2 in let z = c.loop-i-test.false in any-end (dead_at c.args.id c.args.incarnation) (nodes_at c.args.map.now).items (nodes_at c.args.map.now).count c.loop-i.i (nodes-fit c.args.map.now (let p = c.requires.1 in let e = c.requires.2 in omega arith)) c.loop-i.invariant.1 (omega arith)
