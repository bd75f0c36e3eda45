use native.Mathlib.Omega.{arith}
use mathlib.Core.Path.{sym, ◌∙◌}
use borrow.Author.Tests.{eq-eqb, ne_eqb}
use Rattle.image_parts.specs.Parts.{replicas_at, no_replica}
use Rattle.image_map_check.proofs.RowLaws.{replicas_long, replica-row}
use Rattle.map_place.proofs.Weighing.{count-on, count_past, count-end}
use Rattle.image_map_loads.proofs.replicas.replicas_on.Goals as goal

pub loop-i-init : goal.loop-i-init
loop-i-init c = (omega arith, omega arith, omega arith)

pub loop-i-preserved : goal.loop-i-preserved
loop-i-preserved c =
    let s = c.args.s.now in let at = c.args.at in let k = c.requires.1 in let g = replicas_long s at in let lt = c.loop-i-test.true in let r = replica-row s at c.loop-i.i no_replica (omega arith) in let e = c.get8.ensures in let t = c.if-get8-node.false in
    (omega arith, omega arith, count-on c.args.node (replicas_at s at) c.args.count (omega arith) _ c.loop-i.n c.loop-i.i c.loop-i.invariant.2 no_replica lt (eq-eqb _ _ (r ∙ sym e ∙ t)))

pub loop-i-preserved-then-get8-node : goal.loop-i-preserved-then-get8-node
loop-i-preserved-then-get8-node c =
    let s = c.args.s.now in let at = c.args.at in let k = c.requires.1 in let g = replicas_long s at in let lt = c.loop-i-test.true in let r = replica-row s at c.loop-i.i no_replica (omega arith) in let e = c.get8.ensures in let t = c.if-get8-node.true in
    (omega arith, omega arith, count_past c.args.node (replicas_at s at) c.args.count (omega arith) _ c.loop-i.n c.loop-i.i c.loop-i.invariant.2 no_replica lt (ne_eqb _ _ (λ q. t (e ∙ sym r ∙ q))))

pub returns : goal.returns
returns c =
    let s = c.args.s.now in let at = c.args.at in let k = c.requires.1 in let g = replicas_long s at in
    (count-end c.args.node (replicas_at s at) c.args.count (omega arith) _ c.loop-i.n c.loop-i.i c.loop-i.invariant.2 c.loop-i-test.false, omega arith)
