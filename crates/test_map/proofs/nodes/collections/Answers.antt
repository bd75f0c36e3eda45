use native.Mathlib.Omega.{arith}
use Rattle.test_map.proofs.nodes.collections.Goals as goal

pub get8-count-requires : goal.get8-count-requires
get8-count-requires c = let l = c.requires.long in omega arith

pub overflow_mul-i : goal.overflow_mul-i
overflow_mul-i c =
    let f = c.requires.collections in let e = c.get8-count.ensures in let h = c.loop-i-test.true in omega arith

pub collection_at-row-requires : goal.collection_at-row-requires
collection_at-row-requires c =
    let l = c.requires.long in let f = c.requires.collections in let e = c.get8-count.ensures in let h = c.loop-i-test.true in omega arith
