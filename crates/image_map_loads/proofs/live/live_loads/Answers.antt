use borrow.Author.Rules.{rules}
use native.Mathlib.Omega.{arith}
use mathlib.Core.Path.{sym, ◌∙◌}
use Rattle.image_map_loads.proofs.Loads.{filled-start, filled-take, filled-skip, filled-end, load_is}
use Rattle.image_map_loads.proofs.live.live_loads.Goals as goal

pub loop-i-init : goal.loop-i-init
loop-i-init c = (omega arith, omega arith, filled-start c.args.s.now _ _ (search rules) (search rules))

pub replicas_of-count-requires : goal.replicas_of-count-requires
replicas_of-count-requires c = (c.requires.long, sym c.get8-shards.ensures, c.requires.shards)

pub loop-i-preserved : goal.loop-i-preserved
loop-i-preserved c =
    let w = c.requires.nodes in let v = c.get8-nodes.ensures in let lt = c.loop-i-test.true in
    (omega arith, omega arith, filled-take c.args.s.now c.loop-i.ids c.loop-i.counts c.loop-i.n c.loop-i.i c.loop-i.invariant.2 w _ _ (omega arith) (sym c.is_alive.ensures ∙ c.if-not-is_alive.false) (omega arith) (load_is c.args.s.now c.loop-i.i _ _ c.get8-id.ensures c.replicas_of-count.ensures.0) c.replicas_of-count.ensures.1)

pub loop-i-preserved-then-not-is_alive : goal.loop-i-preserved-then-not-is_alive
loop-i-preserved-then-not-is_alive c =
    let w = c.requires.nodes in let v = c.get8-nodes.ensures in let lt = c.loop-i-test.true in
    (omega arith, omega arith, filled-skip c.args.s.now c.loop-i.ids c.loop-i.counts c.loop-i.n c.loop-i.i c.loop-i.invariant.2 w (omega arith) (sym c.is_alive.ensures ∙ c.if-not-is_alive.true))

pub returns : goal.returns
returns c =
    let w = c.requires.nodes in let v = c.get8-nodes.ensures in let lt = c.loop-i-test.false in
    filled-end c.args.s.now c.loop-i.ids c.loop-i.counts c.loop-i.n c.loop-i.i c.loop-i.invariant.2 w (omega arith)
