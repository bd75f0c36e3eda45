use native.Mathlib.Omega.{arith}
use mathlib.Core.Path.{◌≡◌, ◌∙◌, ap}
use mathlib.Core.List.{List}
use Prim.Native.Nat.{◌+◌, ◌*◌}
use lib.Seq.{sets}
use Rattle.spec.specs.Layout.Format.{concat_map}
use Rattle.map_tables.specs.View.{view_node}
use Rattle.map_tables.specs.declared.NodeRow.{NodeRow}
use Rattle.image_map_row.specs.Rows.{node_at, node_bytes}
use Rattle.image_map_form.specs.Canon.{image_node}
use Rattle.image_map.specs.Image.{no_node}
use Rattle.image_map_put.proofs.Tidy.{done-start, done-step, done_end, Tidy, tidy_long, tidy_row, tidy_all}
use Rattle.image_map_put.proofs.Whole.{node-same}
use Rattle.image_move.proofs.Bytes.{past}
use Rattle.image_map_put.proofs.nodes_tidied.Goals as goal

pub loop-i-init : goal.loop-i-init
loop-i-init c =
    (done-start node_bytes 96 40 no_node c.args.out.now (Tidy image_node view_node c.args.count (node_at c.args.out.now) 96 40 no_node), omega arith, c.requires.1, c.requires.0)

pub node_tidied-requires : goal.node_tidied-requires
node_tidied-requires c =
    let k = c.loop-i.invariant.0.0 in let few = c.loop-i.invariant.2 in let room = c.loop-i.invariant.3 in let lt = c.loop-i-test.true in omega arith

pub loop-i-preserved : goal.loop-i-preserved
loop-i-preserved c =
    let lt = c.loop-i-test.true in let few = c.loop-i.invariant.2 in let room = c.loop-i.invariant.3 in let k = tidy_long image_node view_node c.args.count (node_at c.args.out.now) 96 40 no_node in
    (done-step node_bytes 96 40 no_node c.args.out.now (Tidy image_node view_node c.args.count (node_at c.args.out.now) 96 40 no_node) c.loop-i.out _ c.loop-i.i (omega arith) (omega arith) (omega arith) c.loop-i.invariant.0 c.node_tidied.auto.out _ (ap (λ (x : NodeRow). image_node (view_node x)) (node-same c.loop-i.out c.args.out.now (40 + 96 * c.loop-i.i) (40 + 96 * c.loop-i.i) (past c.loop-i.out c.args.out.now (40 + 96 * c.loop-i.i) 96 c.loop-i.invariant.0.2)) ∙ tidy_row image_node view_node c.args.count (node_at c.args.out.now) 96 40 no_node c.loop-i.i lt) c.node_tidied.ensures, omega arith, few, room)

pub shape_of-out : goal.shape_of-out
shape_of-out c = c.loop-i.invariant.0.0

pub returns : goal.returns
returns c =
    let k = c.loop-i.invariant.1 in let z = c.loop-i-test.false in let n = tidy_long image_node view_node c.args.count (node_at c.args.out.now) 96 40 no_node in let q : c.loop-i.i ≡ c.args.count = omega arith in
    (done_end node_bytes 96 40 no_node c.args.out.now (Tidy image_node view_node c.args.count (node_at c.args.out.now) 96 40 no_node) c.loop-i.out c.loop-i.i (omega arith) c.loop-i.invariant.0 ∙ ap (λ (x : List NodeRow). sets c.args.out.now 40 (concat_map node_bytes x)) (tidy_all image_node view_node c.args.count (node_at c.args.out.now) 96 40 no_node), rw q at c.loop-i.invariant.0.2)
