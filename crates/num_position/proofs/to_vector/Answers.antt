use native.Mathlib.Omega.{arith}
use mathlib.Core.Path.{sym, ◌∙◌}
use Rattle.num_position.proofs.Sizes.{not_vectored, vectored_as}
use Rattle.num_position.proofs.to_vector.Goals as goal

pub returns-in_err-sizes : goal.returns-in_err-sizes
returns-in_err-sizes c = rw c.from_residual.ensures (not_vectored _ (sym c.sizes_of.ensures ∙ c.in_err-sizes.was))

pub float_of-b-requires : goal.float_of-b-requires
float_of-b-requires c = omega arith

pub float_of-d-requires : goal.float_of-d-requires
float_of-d-requires c = omega arith

pub returns : goal.returns
returns c =
    rw (c.float_of-a.ensures, c.float_of-b.ensures, c.float_of-c.ensures, c.float_of-d.ensures) (vectored_as _ _ (sym c.sizes_of.ensures ∙ c.in_ok-sizes.was))
