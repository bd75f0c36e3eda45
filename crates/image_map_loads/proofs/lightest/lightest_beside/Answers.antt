use native.Mathlib.Omega.{arith}
use mathlib.Core.Path.{refl, sym, ◌∙◌}
use lib.ListN.{take}
use Rattle.image_parts.specs.Parts.{replicas_at}
use Rattle.map_place.specs.Read.{best_of}
use Rattle.image_map_loads.proofs.Loads.{held-take, held-skip, held-end, load_is}
use Rattle.image_map_loads.proofs.lightest.lightest_beside.Goals as goal

pub loop-i-init : goal.loop-i-init
loop-i-init c = (omega arith, refl)

pub may_take-requires : goal.may_take-requires
may_take-requires c =
    let w = c.requires.0.nodes in let l = c.requires.0.long in let v = c.get8-nodes.ensures in let lt = c.loop-i-test.true in (omega arith, c.requires.1, c.requires.2)

pub replicas_of-count-requires : goal.replicas_of-count-requires
replicas_of-count-requires c = (c.requires.0.long, sym c.get8-shards.ensures, c.requires.0.shards)

pub loop-i-preserved : goal.loop-i-preserved
loop-i-preserved c =
    let w = c.requires.0.nodes in let v = c.get8-nodes.ensures in let lt = c.loop-i-test.true in
    (omega arith, held-take c.args.s.now (take c.args.held (replicas_at c.args.s.now c.args.at)) (best_of c.loop-i.best) c.loop-i.i c.loop-i.invariant.1 w _ _ (omega arith) (sym c.may_take.ensures ∙ c.if-not-may_take.false) (load_is c.args.s.now c.loop-i.i _ _ c.get8-id.ensures c.replicas_of-count.ensures.0) c.lighter_of-next.ensures)

pub loop-i-preserved-then-not-may_take : goal.loop-i-preserved-then-not-may_take
loop-i-preserved-then-not-may_take c =
    let w = c.requires.0.nodes in let v = c.get8-nodes.ensures in let lt = c.loop-i-test.true in
    (omega arith, held-skip c.args.s.now (take c.args.held (replicas_at c.args.s.now c.args.at)) (best_of c.loop-i.best) c.loop-i.i c.loop-i.invariant.1 w (omega arith) (sym c.may_take.ensures ∙ c.if-not-may_take.true))

pub returns : goal.returns
returns c =
    let w = c.requires.0.nodes in let v = c.get8-nodes.ensures in let lt = c.loop-i-test.false in
    held-end c.args.s.now (take c.args.held (replicas_at c.args.s.now c.args.at)) (best_of c.loop-i.best) c.loop-i.i c.loop-i.invariant.1 w (omega arith)
