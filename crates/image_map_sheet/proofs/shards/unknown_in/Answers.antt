use native.Mathlib.Omega.{arith}
use mathlib.Core.Path.{refl}
use Rattle.spec_sheet.specs.Sheet.{unknown_on, unknown_in}
use Rattle.map_tables.specs.View.{view_nodes}
use Rattle.image_map.specs.Image.{nodes_at}
use Rattle.image_map_loads.proofs.Rows.{held-few}
use Rattle.image_map_sheet.proofs.ShardLaws.{shard-more, shards-all}
use Rattle.image_map_sheet.proofs.shards.unknown_in.Goals as goal

pub loop-i-init : goal.loop-i-init
loop-i-init c = (omega arith, omega arith, omega arith)

pub unknown_on-n-requires : goal.unknown_on-n-requires
unknown_on-n-requires c =
    let p = c.requires.2.count in let k = c.requires.1 in let lt = c.loop-i-test.true in let l = c.requires.0.0 in let e = c.get8-held.ensures in
    (omega arith, omega (arith, held-few c.args.s.now c.requires.2 c.loop-i.i (omega arith)), c.requires.0)

pub loop-i-preserved : goal.loop-i-preserved
unfolding unknown_in
loop-i-preserved c =
    let s = c.args.s.now in let p = c.requires.2.count in let k = c.requires.1 in let lt = c.loop-i-test.true in let m = c.unknown_on-n.ensures.1 in
    (omega arith, omega arith, shard-more (unknown_on (view_nodes (nodes_at s))) (unknown_in (view_nodes (nodes_at s))) s c.requires.2 c.loop-i.n c.loop-i.i c.loop-i.invariant.2 (λ x xs. refl) _ _ (omega arith) c.get8-held.ensures c.unknown_on-n.ensures.0)

pub returns : goal.returns
unfolding unknown_in
returns c =
    let s = c.args.s.now in let p = c.requires.2.count in let k = c.requires.1 in let lt = c.loop-i-test.false in
    shards-all (unknown_on (view_nodes (nodes_at s))) (unknown_in (view_nodes (nodes_at s))) s c.requires.2 c.loop-i.n c.loop-i.i c.loop-i.invariant.2 refl (omega arith)
