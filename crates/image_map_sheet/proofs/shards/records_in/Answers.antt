use native.Mathlib.Omega.{arith}
use mathlib.Core.Path.{refl}
use mathlib.Core.List.{List}
use lib.ListN.{length}
use Rattle.spec.specs.declared.Replica.{Replica}
use Rattle.spec_sheet.specs.Sheet.{records_in}
use Rattle.image_map_sheet.proofs.ShardLaws.{shard-more, shards-all, held_long}
use Rattle.image_map_sheet.proofs.shards.records_in.Goals as goal

pub loop-i-init : goal.loop-i-init
loop-i-init c = (omega arith, omega arith, omega arith)

pub overflow_add-n : goal.overflow_add-n
overflow_add-n c =
    let p = c.requires.2.count in let k = c.requires.1 in let lt = c.loop-i-test.true in let h = (held_long c.args.s.now c.requires.2 c.loop-i.i c.get8-n.result (omega arith) c.get8-n.ensures).1 in omega arith

pub loop-i-preserved : goal.loop-i-preserved
unfolding records_in
loop-i-preserved c =
    let s = c.args.s.now in let p = c.requires.2.count in let k = c.requires.1 in let lt = c.loop-i-test.true in let h = held_long s c.requires.2 c.loop-i.i c.get8-n.result (omega arith) c.get8-n.ensures in let m = h.1 in
    (omega arith, omega arith, shard-more (λ (rs : List Replica). length rs) records_in s c.requires.2 c.loop-i.n c.loop-i.i c.loop-i.invariant.2 (λ x xs. refl) c.get8-n.result _ (omega arith) c.get8-n.ensures h.0)

pub returns : goal.returns
unfolding records_in
returns c =
    let s = c.args.s.now in let p = c.requires.2.count in let k = c.requires.1 in let lt = c.loop-i-test.false in
    shards-all (λ (rs : List Replica). length rs) records_in s c.requires.2 c.loop-i.n c.loop-i.i c.loop-i.invariant.2 refl (omega arith)
