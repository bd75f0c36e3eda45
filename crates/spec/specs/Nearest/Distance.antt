-- Paper 01, 'Nearest objects': the two distances, as they are rounded. Sums run left to right in f32, each operation
-- rounded. Sums over two vectors end with the shorter; a norm is over its whole vector.
use Rattle.std.specs.Prelude.{ℕ, ◌≤◌, Bool, true, false, ◌&&◌, cond, List, [], ◌∷◌, map, pos, T, leb, length, Float}
use Rattle.std.specs.Float.{fin, binary32}
use Rattle.std.specs.Float.Ieee.{add, sub, mul, div, eq, of_bits, to_bits}
use Rattle.spec.specs.declared.Metric.{Metric}
use Rattle.spec.specs.declared.Metric.TheVariants.{Euclidean, Angular}
use Rattle.spec.specs.Limits.{max_components}
use Rattle.spec.specs.Nearest.Root.{sqrt}
use Rattle.spec.specs.Nearest.Order.{in_domain}

-- 'Nearest objects': each component lies in the domain
unfoldable pub all_in_domain : List Float → Bool
all_in_domain [] = true
all_in_domain (x ∷ xs) = in_domain x && all_in_domain xs

-- 'Nearest objects': 1 to 32 floats, each in the domain
unfoldable pub vector_in_domain : List Float → Bool
vector_in_domain xs = leb 1 (length xs) && (leb (length xs) max_components && all_in_domain xs)

-- 'Nearest objects': what a distance asks of a vector, which may be empty
abbrev pub Bounded : List Float → Type 0
Bounded xs = (length xs ≤ max_components) × T (all_in_domain xs)

-- 'Nearest objects': where a sum begins
abbrev pub plus_zero : Float
plus_zero = fin false 0 (pos 0)

-- 'Nearest objects': the 1 of the angular distance
abbrev pub one : Float
one = fin false 1 (pos 0)

-- 'Nearest objects': (a - b) * (a - b)
abbrev pub square : Float → Float → Float
square a b = mul binary32 (sub binary32 a b) (sub binary32 a b)

-- 'Nearest objects': acc, and then `term` of each pair from left to right, added with one rounding each
unfoldable pub sum_from : (Float → Float → Float) → Float → List Float → List Float → Float
sum_from term acc [] ys = acc
sum_from term acc (x ∷ xs) [] = acc
sum_from term acc (x ∷ xs) (y ∷ ys) = sum_from term (add binary32 acc (term x y)) xs ys

-- 'Nearest objects': the sum of the squared differences, over the shorter length
abbrev pub squares : List Float → List Float → Float
squares xs ys = sum_from square plus_zero xs ys

-- 'Nearest objects': the sum of the products, over the shorter length
abbrev pub dot : List Float → List Float → Float
dot xs ys = sum_from (mul binary32) plus_zero xs ys

-- 'Nearest objects': the root of a vector's own products, all of them
abbrev pub norm : List Float → Float
norm xs = sqrt binary32 (dot xs xs)

-- 'Nearest objects': 1 - dot / denominator, or 1 if the denominator is zero
abbrev pub angle : Float → Float → Float
angle d den = cond (eq den plus_zero) one (sub binary32 one (div binary32 d den))

-- 'Nearest objects': the distance of a vector to a query
unfoldable pub distance : Metric → List Float → List Float → Float
distance Euclidean q v = sqrt binary32 (squares q v)
distance Angular q v = angle (dot q v) (mul binary32 (norm q) (norm v))

-- 'Starred cases': the bits of the distance between vectors given as bits
unfoldable pub distance_bits : Metric → List ℕ → List ℕ → ℕ
unfolding distance sum_from sqrt to_bits of_bits add sub mul div eq
distance_bits m q v = to_bits binary32 (distance m (map (of_bits binary32) q) (map (of_bits binary32) v))
