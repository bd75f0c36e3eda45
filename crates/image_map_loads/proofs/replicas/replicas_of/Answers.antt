use native.Mathlib.Omega.{arith}
use Rattle.image_map_loads.proofs.Rows.{held-few}
use Rattle.image_map_loads.proofs.Loads.{shard-more, shards-all}
use Rattle.image_map_loads.proofs.replicas.replicas_of.Goals as goal

pub loop-i-init : goal.loop-i-init
loop-i-init c = (omega arith, omega arith, omega arith)

pub replicas_on-n-requires : goal.replicas_on-n-requires
replicas_on-n-requires c =
    let p = c.requires.2.count in let k = c.requires.1 in let lt = c.loop-i-test.true in let l = c.requires.0 in let e = c.get8-held.ensures in
    (omega arith, omega (arith, held-few c.args.s.now c.requires.2 c.loop-i.i (omega arith)))

pub loop-i-preserved : goal.loop-i-preserved
loop-i-preserved c =
    let p = c.requires.2.count in let k = c.requires.1 in let lt = c.loop-i-test.true in let m = c.replicas_on-n.ensures.1 in
    (omega arith, omega arith, shard-more c.args.s.now c.requires.2 c.args.node c.loop-i.n c.loop-i.i c.loop-i.invariant.2 _ _ (omega arith) c.get8-held.ensures c.replicas_on-n.ensures.0)

pub returns : goal.returns
returns c =
    let p = c.requires.2.count in let k = c.requires.1 in let lt = c.loop-i-test.false in
    (shards-all c.args.s.now c.requires.2 c.args.node c.loop-i.n c.loop-i.i c.loop-i.invariant.2 (omega arith), omega arith)
