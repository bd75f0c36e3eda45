-- What hits are written out as (paper 01, 'Nearest objects'). Definitions only.
use Rattle.std.specs.Prelude.{ℕ, Float}
use Rattle.spec.specs.declared.Neighbor.{Neighbor}

abbrev pub id_of : Neighbor → ℕ
id_of x = x.id

abbrev pub distance_of : Neighbor → Float
distance_of x = x.distance
