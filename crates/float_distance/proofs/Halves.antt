-- The halves of a distance make the distance, and at the query's own norm it is the definition's. Assumes nothing.
use mathlib.Core.Path.{◌≡◌, refl, sym, ap, ◌∙◌}
use mathlib.Core.List.{List}
use lib.Ieee.{Float, binary32, mul}
use Rattle.spec.specs.declared.Metric.{Metric}
use Rattle.spec.specs.declared.Metric.TheVariants.{Euclidean, Angular}
use Rattle.spec.specs.Nearest.Root.{sqrt}
use Rattle.spec.specs.Nearest.Distance.{squares, dot, norm, angle, distance}
use Rattle.float_distance.specs.declared.sums.Kind.{Kind}
use Rattle.float_distance.specs.declared.sums.Kind.TheVariants.{Sums, Distances}
use Rattle.float_distance.specs.Halves.{distance_given, kind_of, element_of, settled}

-- ---- the code's arms
pub kind_euclid : (m : Metric) → m ≡ Euclidean → Sums ≡ kind_of m
unfolding kind_of
kind_euclid m e = ap kind_of (sym e)

pub kind_angular : (m : Metric) → m ≡ Angular → Distances ≡ kind_of m
unfolding kind_of
kind_angular m e = ap kind_of (sym e)

pub element_euclid : (m : Metric) (q : List Float) (n : Float) (v : List Float) (r : Float) → m ≡ Euclidean → r ≡ squares q v
    → r ≡ element_of m q n v
unfolding element_of
element_euclid m q n v r k e = e ∙ ap (λ (x : Metric). element_of x q n v) (sym k)

pub element_angular : (m : Metric) (q : List Float) (n : Float) (v : List Float) (a o r : Float) → m ≡ Angular → a ≡ dot q v → o ≡ dot v v
    → r ≡ angle a (mul binary32 n (sqrt binary32 o)) → r ≡ element_of m q n v
unfolding element_of
element_angular m q n v a o r k e f g =
    g
    ∙ ap (λ (z : Float). angle z (mul binary32 n (sqrt binary32 o))) e
    ∙ ap (λ (z : Float). angle (dot q v) (mul binary32 n (sqrt binary32 z))) f
    ∙ ap (λ (x : Metric). element_of x q n v) (sym k)

pub settled-sum : (k : Kind) (x r : Float) → k ≡ Sums → r ≡ sqrt binary32 x → r ≡ settled k x
unfolding settled
settled-sum k x r e f = f ∙ ap (λ (z : Kind). settled z x) (sym e)

pub settled-distance : (k : Kind) (x : Float) → k ≡ Distances → x ≡ settled k x
unfolding settled
settled-distance k x e = ap (λ (z : Kind). settled z x) (sym e)

-- ---- what the halves make
pub halves : (m : Metric) (q : List Float) (n : Float) (v : List Float) → settled (kind_of m) (element_of m q n v) ≡ distance_given m q n v
unfolding settled kind_of element_of distance_given
halves Euclidean q n v = refl
halves Angular q n v = refl

pub given-own : (m : Metric) (q v : List Float) → distance_given m q (norm q) v ≡ distance m q v
unfolding distance_given distance
given-own Euclidean q v = refl
given-own Angular q v = refl
