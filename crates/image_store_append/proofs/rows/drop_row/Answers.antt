use native.Mathlib.Omega.{arith}
use mathlib.Core.Path.{◌∙◌}
use Rattle.image_store_append.proofs.RowLaws.{drop-none, drop-one}
use Rattle.image_store_append.proofs.rows.drop_row.Goals as goal

pub is_at-requires : goal.is_at-requires
is_at-requires c = (c.requires.0, c.requires.1)

pub returns-then-not-is_at : goal.returns-then-not-is_at
returns-then-not-is_at c =
    let a = c.args in drop-none a.out.now a.base a.stored (λ i. omega (arith, c.slice_known-1.given i)) c.requires.0 c.requires.2 a.id c.seek-at.result c.seek-at.ensures (c.is_at.ensures.nay (c.if-not-is_at.true))

pub remove_word-requires : goal.remove_word-requires
remove_word-requires c =
    let p = c.requires.0 in let q = c.requires.1 in let w = (c.is_at.ensures.yes (c.if-not-is_at.false)).0 in (w, omega arith)

pub remove_word-requires-2 : goal.remove_word-requires-2
remove_word-requires-2 c =
    let p = c.requires.0 in let q = c.requires.1 in let w = (c.is_at.ensures.yes (c.if-not-is_at.false)).0 in let l = c.remove_word.auto.out in (w, omega arith)

pub overflow_sub-result : goal.overflow_sub-result
overflow_sub-result c = let w = (c.is_at.ensures.yes (c.if-not-is_at.false)).0 in omega arith

pub shape_of-out : goal.shape_of-out
shape_of-out c = c.remove_word-2.auto.out ∙ c.remove_word.auto.out

pub returns : goal.returns
returns c =
    let a = c.args in drop-one a.out.now a.base a.stored (λ i. omega (arith, c.slice_known-1.given i)) c.requires.0 c.requires.2 a.id c.seek-at.result c.seek-at.ensures (c.is_at.ensures.yes (c.if-not-is_at.false)) _ _ c.remove_word.ensures c.remove_word-2.ensures
