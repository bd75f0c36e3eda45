-- The source's `distance` (shard.rs; paper 01, 'Nearest objects') with the query's norm given, of any floats, and the two halves in which a search
-- makes it: the element of every vector first, the neighbour only of those that may be among the answer. Definitions only.
use Rattle.std.specs.Prelude.{ℕ, List, Float}
use Rattle.std.specs.Float.{binary32}
use Rattle.std.specs.Float.Ieee.{mul}
use Rattle.spec.specs.declared.Metric.{Metric}
use Rattle.spec.specs.declared.Metric.TheVariants.{Euclidean, Angular}
use Rattle.spec.specs.declared.Neighbor.{Neighbor}
use Rattle.spec.specs.Nearest.Root.{sqrt}
use Rattle.spec.specs.Nearest.Distance.{squares, dot, norm, angle}
use Rattle.float_distance.specs.declared.sums.Kind.{Kind}
use Rattle.float_distance.specs.declared.sums.Kind.TheVariants.{Sums, Distances}

-- 'Nearest objects': the distance to a query whose norm is given
unfoldable pub distance_given : Metric → List Float → (qnorm : Float) → List Float → Float
distance_given Euclidean q n v = sqrt binary32 (squares q v)
distance_given Angular q n v = angle (dot q v) (mul binary32 n (norm v))

-- sums for Euclidean, distances for Angular
unfoldable pub kind_of : Metric → Kind
kind_of Euclidean = Sums
kind_of Angular = Distances

-- the element of a vector: the sum of the squared differences, or the angular distance
unfoldable pub element_of : Metric → List Float → (qnorm : Float) → List Float → Float
element_of Euclidean q n v = squares q v
element_of Angular q n v = angle (dot q v) (mul binary32 n (norm v))

-- the distance that an element stands for
unfoldable pub settled : Kind → Float → Float
settled Sums x = sqrt binary32 x
settled Distances x = x

-- 'Nearest objects': an id with that distance
abbrev pub neighbor_of : ℕ → Kind → Float → Neighbor
neighbor_of id kind x = record { id = id; distance = settled kind x }
