-- Paper 01, 'Nearest objects': what the checker computes of distances and classes, beside the starred rows. Assumes nothing.
use mathlib.Core.Path.{◌≡◌, refl}
use mathlib.Core.Bool.{true, false}
use mathlib.Core.List.{List, [], ◌∷◌, ◌++◌, map}
use lib.Ieee.{Float}
use Rattle.spec.specs.declared.Metric.{Metric}
use Rattle.spec.specs.declared.Metric.TheVariants.{Angular, Euclidean}
use Rattle.spec.specs.Nearest.Order.{is_in, negNan, negInf, posInf, posNan}
use Rattle.spec.specs.Nearest.Distance.{distance_bits}
use Rattle.spec.specs.Nearest.Search.{Vector, hits}

-- k = 0 finds nothing, whatever is stored
pub none-asked : (m : Metric) (q : List Float) (stored : List Vector) → hits m q stored 0 ≡ []
unfolding hits
none-asked m q stored = refl

-- query (3), vector (3, 4): the vector's norm is 5, over its whole length
pub whole-norm : distance_bits Angular (0x4040_0000 ∷ []) (0x4040_0000 ∷ 0x4080_0000 ∷ []) ≡ 0x3ecc_cccc
unfolding distance_bits
whole-norm = refl

-- query (1, 2), vector (0, 0): the root of 5 lies nearer the float above it than the one below
pub root_of_five : distance_bits Euclidean (0x3f80_0000 ∷ 0x4000_0000 ∷ []) (0 ∷ 0 ∷ []) ≡ 0x400f_1bbd
unfolding distance_bits
root_of_five = refl

-- by its fraction alone a pattern is an infinity's or a NaN's, under either sign
pub infinities : map (is_in posInf) (0x7f80_0000 ∷ 0x7f80_0001 ∷ []) ++ map (is_in negInf) (0xff80_0000 ∷ 0xff80_0001 ∷ []) ≡ true ∷ false ∷ true ∷ false ∷ []
unfolding is_in
infinities = refl

pub nans : map (is_in posNan) (0x7f80_0000 ∷ 0x7f80_0001 ∷ []) ++ map (is_in negNan) (0xff80_0000 ∷ 0xff80_0001 ∷ []) ≡ false ∷ true ∷ false ∷ true ∷ []
unfolding is_in
nans = refl
