use native.Mathlib.Omega.{arith}
use mathlib.Core.Path.{◌∙◌}
use Rattle.image_store_append.proofs.RowLaws.{put-level, put-between}
use Rattle.image_store_append.proofs.rows.put_row.Goals as goal

pub seek-at-requires : goal.seek-at-requires
seek-at-requires c = let p = c.requires.0 in (omega arith, c.requires.1, c.requires.2)

pub is_at-requires : goal.is_at-requires
is_at-requires c = let p = c.requires.0 in (omega arith, c.requires.1)

pub put8-requires : goal.put8-requires
put8-requires c =
    let p = c.requires.0 in let q = c.requires.1 in let w = (c.is_at.ensures.yes c.if-is_at.true).0 in omega arith

pub shape_of-out-then-is_at : goal.shape_of-out-then-is_at
shape_of-out-then-is_at c = c.put8.auto.out

pub returns-then-is_at : goal.returns-then-is_at
returns-then-is_at c =
    let a = c.args in let p = c.requires.0 in put-level a.out.now a.base a.stored (λ i. omega (arith, c.slice_known-1.given i)) (omega arith) c.requires.2 a.id c.seek-at.result c.seek-at.ensures a.offset (c.is_at.ensures.yes c.if-is_at.true) _ c.put8.ensures

pub insert_word-requires : goal.insert_word-requires
insert_word-requires c = let p = c.requires.0 in let q = c.requires.1 in (c.seek-at.ensures.most, omega arith)

pub insert_word-requires-2 : goal.insert_word-requires-2
insert_word-requires-2 c =
    let p = c.requires.0 in let q = c.requires.1 in let l = c.insert_word.auto.out in (c.seek-at.ensures.most, omega arith)

pub shape_of-out : goal.shape_of-out
shape_of-out c = c.insert_word-2.auto.out ∙ c.insert_word.auto.out

pub returns : goal.returns
returns c =
    let a = c.args in let p = c.requires.0 in put-between a.out.now a.base a.stored (λ i. omega (arith, c.slice_known-1.given i)) (omega arith) c.requires.2 a.id c.seek-at.result c.seek-at.ensures a.offset c.requires.0 (c.is_at.ensures.nay c.if-is_at.false) _ _ c.insert_word.ensures c.insert_word-2.ensures
