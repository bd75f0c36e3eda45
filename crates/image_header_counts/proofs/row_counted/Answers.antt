use native.Mathlib.Omega.{arith}
use mathlib.Core.Path.{◌∙◌}
use Rattle.image_header_counts.proofs.Counts.{row-counted}
use Rattle.image_header_counts.proofs.row_counted.Goals as goal

pub put8-requires : goal.put8-requires
put8-requires c = let p = c.requires in let l = c.row_tidied.auto.out in omega arith

pub put8-requires-2 : goal.put8-requires-2
put8-requires-2 c = let p = c.requires in let l = c.row_tidied.auto.out in let k = c.put8.auto.out in omega arith

pub shape_of-out : goal.shape_of-out
shape_of-out c = c.put8-2.auto.out ∙ c.put8.auto.out ∙ c.row_tidied.auto.out

pub returns : goal.returns
returns c =
    let a = c.args in row-counted a.out.now _ _ _ a.at a.last a.stored (λ i. omega (arith, c.slice_known-1.given i)) c.row_tidied.ensures c.put8.ensures c.put8-2.ensures
