-- The two distances as the code makes them: by the metric, and by whether the denominator is zero. Assumes nothing.
use mathlib.Core.Path.{◌≡◌, refl, sym, ap, ◌∙◌, subst}
use mathlib.Core.Bool.{Bool, true, false, not, cond}
use mathlib.Core.List.{List}
use lib.Dec.{T}
use lib.Ieee.{Float, binary32, sub, mul, div, eq, of_bits, is_nan}
use Rattle.spec.specs.declared.Metric.{Metric}
use Rattle.spec.specs.declared.Metric.TheVariants.{Euclidean, Angular}
use Rattle.spec.specs.Nearest.Root.{sqrt}
use Rattle.spec.specs.Nearest.Distance.{squares, dot, norm, angle, one, plus_zero, distance, Bounded}
use Rattle.spec_laws.proofs.Nearest.NoNan.{distance_no_nan}

-- ---- a distance by its metric
pub is_euclid : (m : Metric) (q v : List Float) → m ≡ Euclidean → distance m q v ≡ sqrt binary32 (squares q v)
unfolding distance
is_euclid m q v e = ap (λ (x : Metric). distance x q v) e

pub is-angle : (m : Metric) (q v : List Float) → m ≡ Angular
    → distance m q v ≡ angle (dot q v) (mul binary32 (norm q) (norm v))
unfolding distance
is-angle m q v e = ap (λ (x : Metric). distance x q v) e

-- the literals 1.0 and 0.0
one-is : of_bits binary32 1065353216 ≡ one
unfolding of_bits
one-is = refl

zero_is : of_bits binary32 0 ≡ plus_zero
unfolding of_bits
zero_is = refl

-- the two arms
pub angle_zero : (x d n m : Float) → d ≡ mul binary32 n m → eq d (of_bits binary32 0) ≡ true
    → of_bits binary32 1065353216 ≡ angle x (mul binary32 n m)
angle_zero x d n m e h = one-is
    ∙ sym (ap (λ (b : Bool). cond b one (sub binary32 one (div binary32 x (mul binary32 n m))))
    (ap (λ (z : Float). eq (mul binary32 n m) z) (sym zero_is) ∙ ap (λ (z : Float). eq z (of_bits binary32 0)) (sym e)
    ∙ h))

pub angle-other : (x d n m : Float) → d ≡ mul binary32 n m → eq d (of_bits binary32 0) ≡ false
    → sub binary32 (of_bits binary32 1065353216) (div binary32 x d) ≡ angle x (mul binary32 n m)
angle-other x d n m e h =
    ap (λ (z : Float). sub binary32 z (div binary32 x d)) one-is
    ∙ ap (λ (z : Float). sub binary32 one (div binary32 x z)) e
    ∙ sym (ap (λ (b : Bool). cond b one (sub binary32 one (div binary32 x (mul binary32 n m))))
    (ap (λ (z : Float). eq (mul binary32 n m) z) (sym zero_is) ∙ ap (λ (z : Float). eq z (of_bits binary32 0))
    (sym e) ∙ h))

-- what equals a distance in the domain is no NaN
pub measured : (m : Metric) (q v : List Float) (r : Float) → Bounded q → Bounded v → r ≡ distance m q v
    → (r ≡ distance m q v) × T (not (is_nan r))
measured m q v r a b e = (e, subst (λ (x : Float). T (not (is_nan x))) (sym e) (distance_no_nan m q v a b))

-- a distance from its sums
pub euclid_made : (m : Metric) (q v : List Float) (a r : Float) → m ≡ Euclidean → a ≡ squares q v
    → r ≡ sqrt binary32 a
    → r ≡ distance m q v
euclid_made m q v a r k e f = f ∙ ap (sqrt binary32) e ∙ sym (is_euclid m q v k)

pub angle-made : (m : Metric) (q v : List Float) (a n o r : Float) → m ≡ Angular → a ≡ dot q v → n ≡ norm q
    → o ≡ dot v v → r ≡ angle a (mul binary32 n (sqrt binary32 o)) → r ≡ distance m q v
angle-made m q v a n o r k e f g h =
    h
    ∙ ap (λ (z : Float). angle z (mul binary32 n (sqrt binary32 o))) e
    ∙ ap (λ (z : Float). angle (dot q v) (mul binary32 z (sqrt binary32 o))) f
    ∙ ap (λ (z : Float). angle (dot q v) (mul binary32 (norm q) (sqrt binary32 z))) g
    ∙ sym (is-angle m q v k)
