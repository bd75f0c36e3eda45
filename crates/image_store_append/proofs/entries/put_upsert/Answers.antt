use native.Mathlib.Omega.{arith}
use mathlib.Core.Path.{◌∙◌}
use Rattle.image_store_append.proofs.EntryLaws.{upsert_put}
use Rattle.image_store_append.proofs.entries.put_upsert.Goals as goal

pub put_patterns-requires : goal.put_patterns-requires
put_patterns-requires c = let p = c.requires.0 in let q = c.requires.1 in let n = c.requires.2 in (omega arith, c.requires.3)

pub put_numbers-requires : goal.put_numbers-requires
put_numbers-requires c = let l = c.put_patterns.auto.out in let q = c.requires.1 in (c.requires.0, omega arith)

pub shape_of-out : goal.shape_of-out
shape_of-out c = c.put_numbers.auto.out ∙ c.put_patterns.auto.out

pub returns : goal.returns
returns c =
    let a = c.args in upsert_put a.out.now a.s.now a.base a.i a.epoch a.id a.from a.n (λ i. omega (arith, c.type_inv.s i)) c.requires.4 _ _ c.put_patterns.ensures c.put_numbers.ensures
