use native.Mathlib.Omega.{arith}
use Rattle.image_map_count.proofs.TestLaws.{unknown_dead, known-alive}
use Rattle.image_map_count.proofs.tests.is_alive.Goals as goal

pub returns-then-count-at : goal.returns-then-count-at
returns-then-count-at c =
    let e = c.requires.2 in let k = c.requires.1 in let past = c.if-count-at.true in unknown_dead c.args.map.now (omega arith) c.args.id c.node_place-at.result c.node_place-at.ensures (omega arith)

pub overflow_mul-row : goal.overflow_mul-row
overflow_mul-row c = let k = c.requires.1 in let lt = c.if-count-at.false in omega arith

pub overflow_add-row : goal.overflow_add-row
overflow_add-row c = let k = c.requires.1 in let lt = c.if-count-at.false in omega arith

pub overflow_add-row-2 : goal.overflow_add-row-2
overflow_add-row-2 c = let k = c.requires.1 in let lt = c.if-count-at.false in omega arith

pub get4-requires : goal.get4-requires
get4-requires c = let k = c.requires.1 in let lt = c.if-count-at.false in let l = c.requires.0 in omega arith

pub returns : goal.returns
returns c =
    let e = c.requires.2 in let k = c.requires.1 in let lt = c.if-count-at.false in known-alive c.args.map.now (omega arith) c.args.id c.node_place-at.result c.node_place-at.ensures _ _ (omega arith) c.flag_of.ensures c.get4.ensures
