use native.Mathlib.Omega.{arith}
use mathlib.Core.Path.{sym, ◌∙◌, ap}
use Prim.Native.Nat.{ℕ}
use mathlib.Core.Bool.{not}
use Rattle.spec.specs.Lists.{any}
use Rattle.spec.specs.Map.Create.{is_node}
use Rattle.spec_sheet.specs.Sheet.{is_unknown, unknown_on}
use Rattle.map_tables.specs.View.{view_nodes}
use Rattle.image_parts.specs.Parts.{replicas_at, no_replica}
use Rattle.image_map.specs.Image.{nodes_at}
use Rattle.image_map_check.proofs.RowLaws.{replicas_long, replica-row}
use Rattle.image_map_sheet.proofs.Counting.{count-on, count_past, count-end}
use Rattle.image_map_sheet.proofs.holders.unknown_on.Goals as goal

pub loop-i-init : goal.loop-i-init
loop-i-init c = (omega arith, omega arith, omega arith)

pub is_known-requires : goal.is_known-requires
is_known-requires c = c.requires.2

pub loop-i-preserved-then-is_known : goal.loop-i-preserved-then-is_known
unfolding is_unknown
loop-i-preserved-then-is_known c =
    let s = c.args.s.now in let at = c.args.at in let k = c.requires.1 in let g = replicas_long s at in let lt = c.loop-i-test.true in let r = replica-row s at c.loop-i.i no_replica (omega arith) in
    (omega arith, omega arith, count_past (is_unknown (view_nodes (nodes_at s))) (replicas_at s at) c.args.held (omega arith) _ c.loop-i.n c.loop-i.i c.loop-i.invariant.2 no_replica lt (ap not (ap (λ (x : ℕ). any (is_node x) (view_nodes (nodes_at s))) (r ∙ sym c.get8-node.ensures) ∙ sym c.is_known.ensures ∙ c.if-is_known.true)))

pub loop-i-preserved : goal.loop-i-preserved
unfolding is_unknown
loop-i-preserved c =
    let s = c.args.s.now in let at = c.args.at in let k = c.requires.1 in let g = replicas_long s at in let lt = c.loop-i-test.true in let r = replica-row s at c.loop-i.i no_replica (omega arith) in
    (omega arith, omega arith, count-on (is_unknown (view_nodes (nodes_at s))) (replicas_at s at) c.args.held (omega arith) _ c.loop-i.n c.loop-i.i c.loop-i.invariant.2 no_replica lt (ap not (ap (λ (x : ℕ). any (is_node x) (view_nodes (nodes_at s))) (r ∙ sym c.get8-node.ensures) ∙ sym c.is_known.ensures ∙ c.if-is_known.false)))

pub returns : goal.returns
unfolding unknown_on
returns c =
    let s = c.args.s.now in let at = c.args.at in let k = c.requires.1 in let g = replicas_long s at in
    (count-end (is_unknown (view_nodes (nodes_at s))) (replicas_at s at) c.args.held (omega arith) _ c.loop-i.n c.loop-i.i c.loop-i.invariant.2 c.loop-i-test.false, omega arith)
