-- Roots only where they decide: of two vectors, the one whose sum of squares is not below the other's, and whose id
-- is
-- not lower, is not the nearer one. So a search by rising ids may pass over a vector by its sum alone. Assumes
-- nothing.
use mathlib.Core.Path.{◌≡◌, subst}
use mathlib.Core.Logic.{◌⊎◌, inl, inr}
use mathlib.Core.Bool.{not}
use mathlib.Core.List.{List, [], ◌∷◌}
use Prim.Native.Nat.{◌^◌, ◌≤◌, ◌<◌}
use native.Mathlib.Nat.{not-le_of_lt}
use native.Mathlib.Omega.{arith}
use lib.Dec.{T, not_T, ltb→lt}
use lib.Ieee.{Float, binary32, add, fits, to_bits}
use lib.Ieee.Fits.{add-fits}
use Rattle.spec.specs.declared.Metric.TheVariants.{Euclidean}
use Rattle.spec.specs.Nearest.Order.{before}
use Rattle.spec.specs.Nearest.Root.{sqrt, rootable}
use Rattle.spec.specs.Nearest.Distance.{sum_from, squares, plus_zero, distance, Bounded}
use Rattle.spec.specs.Nearest.Search.{Vector, nearer, neighbor}
use Rattle.spec_laws.proofs.Nearest.Exact.{sqrt_nearest, sqrt_mono, plus_float}
use Rattle.spec_laws.proofs.Nearest.NoNan.{squares-rootable}
use Rattle.spec_laws.proofs.Nearest.Classes.{before_plus}
use Rattle.spec_laws.proofs.Nearest.Rank.{nearer_says}

-- ---- a sum is a float of the format
sum_fits : (term : Float → Float → Float) (acc : Float) (xs ys : List Float) → T (fits binary32 acc)
    → T (fits binary32 (sum_from term acc xs ys))
unfolding sum_from
sum_fits term acc [] ys f = f
sum_fits term acc (x ∷ xs) [] f = f
sum_fits term acc (x ∷ xs) (y ∷ ys) f =
    sum_fits term (add binary32 acc (term x y)) xs ys (add-fits binary32 acc (term x y))

zero_fits : T (fits binary32 plus_zero)
unfolding fits
zero_fits = tt

pub squares-fits : (q v : List Float) → T (fits binary32 (squares q v))
squares-fits q v = sum_fits _ plus_zero q v zero_fits

-- ---- a root has a plus sign
root_plus : (x : Float) → T (fits binary32 x) → T (rootable x) → to_bits binary32 (sqrt binary32 x) < 2 ^ 31
root_plus x f t = let r = sqrt_nearest x f t in (plus_float (sqrt binary32 x) r.w r.held r.of_r).0

-- ---- the rule
pub passed_over : (q : List Float) (a b : Vector) → Bounded q → Bounded a.components → Bounded b.components
    → to_bits binary32 (squares q a.components) ≤ to_bits binary32 (squares q b.components) → a.id ≤ b.id
    → T (not (nearer (neighbor Euclidean q b) (neighbor Euclidean q a)))
unfolding neighbor distance
passed_over q a b l m n h i =
    not_T (nearer (neighbor Euclidean q b) (neighbor Euclidean q a))
    (λ t. go (nearer_says (neighbor Euclidean q b) (neighbor Euclidean q a) t))
  where
    x : Float
    x = squares q a.components

    y : Float
    y = squares q b.components

    roots : to_bits binary32 (sqrt binary32 x) ≤ to_bits binary32 (sqrt binary32 y)
    roots =
        sqrt_mono x y (squares-fits q a.components) (squares-fits q b.components)
        (squares-rootable q a.components l m) (squares-rootable q b.components l n) h

    go : T (before (to_bits binary32 (sqrt binary32 y)) (to_bits binary32 (sqrt binary32 x)))
        ⊎ ((to_bits binary32 (sqrt binary32 y) ≡ to_bits binary32 (sqrt binary32 x)) × (b.id < a.id)) → ⊥
    go (inl s) =
        not-le_of_lt (ltb→lt (to_bits binary32 (sqrt binary32 y)) (to_bits binary32 (sqrt binary32 x))
        (subst T (before_plus (to_bits binary32 (sqrt binary32 y)) (to_bits binary32 (sqrt binary32 x))
        (root_plus y (squares-fits q b.components) (squares-rootable q b.components l n))
        (root_plus x (squares-fits q a.components) (squares-rootable q a.components l m))) s)) roots
    go (inr (e, k)) = omega arith
