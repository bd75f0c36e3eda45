-- The elements of a column, by what it holds: their distances, and that they can be compared. Assumes nothing.
use mathlib.Core.Path.{◌≡◌, refl, sym, ap, ◌∙◌}
use mathlib.Core.Bool.{not}
use mathlib.Core.List.{List}
use lib.Dec.{T}
use lib.Ieee.{Float, nan, inf, fin, is_nan}
use Rattle.spec.specs.declared.Metric.{Metric}
use Rattle.spec.specs.declared.Metric.TheVariants.{Euclidean, Angular}
use Rattle.spec.specs.Nearest.Root.{rootable}
use Rattle.spec.specs.Nearest.Distance.{distance, squares, norm, Bounded}
use Rattle.spec_laws.proofs.Nearest.NoNan.{distance_no_nan, squares-rootable}
use Rattle.float_distance.specs.Halves.{settled, kind_of, element_of}
use Rattle.float_distance.proofs.Halves.{halves, given-own}
use Rattle.log_select.specs.Selectable.{Ready}
use Rattle.log_search.specs.Column.{rough}

-- ---- the element of a vector
pub rough-made : (m n : Metric) (q v : List Float) (x : Float) → m ≡ n → x ≡ rough n q v → x ≡ rough m q v
rough-made m n q v x e f = f ∙ ap (λ (z : Metric). rough z q v) (sym e)

pub rough_euclid : (q v : List Float) → squares q v ≡ rough Euclidean q v
unfolding element_of
rough_euclid q v = refl

pub rough_angular : (q v : List Float) → distance Angular q v ≡ rough Angular q v
unfolding element_of distance
rough_angular q v = refl

-- its distance is the vector's
pub rough-settled : (m : Metric) (q v : List Float) → settled (kind_of m) (rough m q v) ≡ distance m q v
rough-settled m q v = halves m q (norm q) v ∙ given-own m q v

rooted_number : (x : Float) → T (rootable x) → T (not (is_nan x))
unfolding is_nan
rooted_number nan t = absurd t
rooted_number (inf s) t = tt
rooted_number (fin s m e) t = tt

pub rough-ready : (m : Metric) (q v : List Float) → Bounded q → Bounded v → Ready (kind_of m) (rough m q v)
unfolding settled kind_of element_of distance
rough-ready Euclidean q v a b = record {
  number = rooted_number (squares q v) (squares-rootable q v a b);
  distance = distance_no_nan Euclidean q v a b;
}
rough-ready Angular q v a b = record {
  number = distance_no_nan Angular q v a b;
  distance = distance_no_nan Angular q v a b;
}
