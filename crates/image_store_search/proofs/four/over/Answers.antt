use Rattle.std.proofs.Common.{refl, arith, ◌+◌, ◌*◌}
use Rattle.image_store_search.proofs.FourLaws.{taken_none, taken_on, taken_four}
use Rattle.image_store_search.proofs.four.over.Goals as goal

pub loop-k-init : goal.loop-k-init
loop-k-init g c = taken_none _ _

pub loop-k-preserved : goal.loop-k-preserved
loop-k-preserved g c =
    taken_four _ _ (4 * c.loop-k.k) (4 * (c.loop-k.k + 1)) _ _ _ _ _ (omega arith) c.loop-k.invariant c.on-one.ensures c.on-two.ensures c.on-three.ensures c.on-sums.ensures

pub loop-i-preserved : goal.loop-i-preserved
loop-i-preserved g c = taken_on _ _ c.loop-i.i _ _ _ refl c.loop-i.invariant c.on-sums-in-loop-i.ensures
