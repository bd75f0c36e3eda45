use native.Mathlib.Omega.{arith}
use Rattle.calls_join.proofs.Bytes.{stands_says}
use Rattle.calls_join.proofs.answers.after.Goals as goal

pub overflow_add-result : goal.overflow_add-result
overflow_add-result c =
    let h = stands_says _ _ (c.requires) in
    let b = h.begins in omega arith

pub count_at-requires : goal.count_at-requires
count_at-requires c =
    let h = stands_says _ _ (c.requires) in
    let b = h.begins in omega arith

pub overflow_mul-result : goal.overflow_mul-result
overflow_mul-result c =
    let h = stands_says _ _ (c.requires) in
    let b = h.few in omega (arith, c.count_at.ensures)

pub overflow_add-result-2 : goal.overflow_add-result-2
overflow_add-result-2 c =
    let h = stands_says _ _ (c.requires) in
    let b = h.ends in omega (arith, c.count_at.ensures)

pub returns : goal.returns
returns c = omega (arith, c.count_at.ensures)
