-- The source's sums start at -0, these at +0: no distance in the domain differs. Assumes nothing.
use mathlib.Core.Path.{◌≡◌, refl, sym, ap, ◌∙◌, subst}
use mathlib.Core.Bool.{Bool, true, false, not, ◌&&◌, cond}
use mathlib.Core.List.{List, [], ◌∷◌}
use Prim.Native.Nat.{ℕ, zero, suc, ◌+◌, ◌-◌, ◌*◌, ◌^◌, ◌<◌, zero-le}
use native.Mathlib.Nat.{zero-mul, zero-add, sub-zero, mul-pos, zero-lt-suc, le_antisymm}
use lib.IntN.{ℤ, pos}
use lib.Dec.{T, ltb, lit<, eqb-suc-zero}
use borrow.Author.Tests.{ltb-false}
use lib.Ieee.{Float, nan, inf, fin, binary32, add, sub, mul, div, eq, sum, round, up, down, unlike, is_nan}
use lib.Ieee.Fits.{down_pos, up_pos}
use lib.Ieee.Scale.{round_same}
use Rattle.spec.specs.declared.Metric.{Metric}
use Rattle.spec.specs.declared.Metric.TheVariants.{Euclidean, Angular}
use Rattle.spec.specs.Nearest.Order.{in_domain}
use Rattle.spec.specs.Nearest.Root.{sqrt}
use Rattle.spec.specs.Nearest.Distance.{square, sum_from, squares, dot, norm, angle, one, plus_zero, distance}
use Rattle.spec.specs.Nearest.Distance.{Bounded, all_in_domain}
use Rattle.spec_laws.proofs.Nearest.Tests.{and_left, and_right}
use Rattle.spec_laws.proofs.Nearest.Bounds.{Within, From0, mul_within, sub_within, self_from0, whole_is}
use Rattle.spec_laws.proofs.Nearest.Sums.{in_range_lem}
use Rattle.spec_laws.proofs.Nearest.NoNan.{norms_no_nan, zero_eq}

-- where the source's sums start
abbrev pub minus_zero : Float
minus_zero = fin true 0 (pos 0)

-- ---- nothing, rounded
round_zero : (s : Bool) (c : ℕ) → 0 < c → round binary32 s 0 c ≡ fin s 0 (pos 0)
unfolding round
round_zero s c h = round_same binary32 s 0 c 0 1 h (zero-lt-suc 0) (sym (zero-mul c)) ∙ at_one s
  where
    at_one : (s : Bool) → round binary32 s 0 1 ≡ fin s 0 (pos 0)
    at_one true = refl
    at_one false = refl

-- ---- what is added first
plus_first : (b c : ℕ) → sum binary32 true 0 false b c ≡ sum binary32 false 0 false b c
unfolding sum
plus_first b c = go (ltb 0 b) refl
  where
    go : (t : Bool) → ltb 0 b ≡ t
        → cond t (round binary32 false (b - 0) c) (round binary32 (true && ltb b 0) (0 - b) c) ≡ round binary32 false
        (0 + b) c
    go true e = ap (λ (z : ℕ). round binary32 false z c) (sub-zero b ∙ sym (zero-add b))
    go false e =
        subst (λ (z : ℕ). round binary32 (true && ltb z 0) (0 - z) c ≡ round binary32 false (0 + z) c)
        (sym (le_antisymm (ltb-false 0 b e) zero-le)) refl

-- equal, or the two zeros
data Alike (x y : Float) : Type 0 where
  equal : x ≡ y → Alike x y
  zeros : x ≡ minus_zero → y ≡ plus_zero → Alike x y

minus-first : (b c : ℕ) → 0 < c → Alike (sum binary32 true 0 true b c) (sum binary32 false 0 true b c)
unfolding sum
minus-first b c h = go (ltb 0 b) refl
  where
    go : (t : Bool) → ltb 0 b ≡ t
        → Alike (round binary32 true (0 + b) c)
        (cond t (round binary32 true (b - 0) c) (round binary32 false (0 - b) c))
    go true e = equal (ap (λ (z : ℕ). round binary32 true z c) (zero-add b ∙ sym (sub-zero b)))
    go false e =
        subst (λ (z : ℕ). Alike (round binary32 true (0 + z) c) (round binary32 false (0 - z) c))
        (sym (le_antisymm (ltb-false 0 b e) zero-le)) (zeros (round_zero true c h) (round_zero false c h))

add_zero : (s t : Bool) (n : ℕ) (d : ℤ)
    → add binary32 (fin s 0 (pos 0)) (fin t n d) ≡ sum binary32 s 0 t (n * up d * 1) (1 * down d)
unfolding add
add_zero s t n d = ap (λ (z : ℕ). sum binary32 s z t (n * up d * 1) (1 * down d)) (zero-mul (down d))

first_plus : (B : ℕ) (t : Float) → From0 B t → add binary32 minus_zero t ≡ add binary32 plus_zero t
first_plus B (fin true n d) h = absurd h
first_plus B (fin false n d) h =
    add_zero true false n d ∙ plus_first (n * up d * 1) (1 * down d) ∙ sym (add_zero false false n d)
first_plus B nan h = elim h [ ]
first_plus B (inf _) h = elim h [ ]

add_alike : (x y t : Float) (B : ℕ) → Within B t → Alike x y → Alike (add binary32 x t) (add binary32 y t)
add_alike x y t B h (equal e) = equal (ap (λ (z : Float). add binary32 z t) e)
add_alike x y (fin false n d) B h (zeros p q) =
    equal (ap (λ (z : Float). add binary32 z (fin false n d)) p
    ∙ first_plus B (fin false n d) h
    ∙ sym (ap (λ (z : Float). add binary32 z (fin false n d)) q))
add_alike x y (fin true n d) B h (zeros p q) =
    subst (λ (z : Float). Alike z (add binary32 y (fin true n d)))
    (sym (ap (λ (z : Float). add binary32 z (fin true n d)) p ∙ add_zero true true n d))
    (subst (λ (z : Float). Alike (sum binary32 true 0 true (n * up d * 1) (1 * down d)) z)
    (sym (ap (λ (z : Float). add binary32 z (fin true n d)) q ∙ add_zero false true n d))
    (minus-first (n * up d * 1) (1 * down d) (mul-pos (zero-lt-suc 0) (down_pos d))))
add_alike x y nan B h (zeros p q) = elim h [ ]
add_alike x y (inf _) B h (zeros p q) = elim h [ ]

-- ---- the sums
product_within : (x y : Float) → T (in_domain x) → T (in_domain y) → Within (2 ^ 32 * 2 ^ 32) (mul binary32 x y)
product_within x y p q =
    mul_within x y (2 ^ 32) (2 ^ 32) (in_range_lem x p) (in_range_lem y q) (whole_is 1 64 (lit< tt) (lit< tt))

dot_alike : (a b : Float) (xs ys : List Float) → T (all_in_domain xs) → T (all_in_domain ys) → Alike a b
    → Alike (sum_from (mul binary32) a xs ys) (sum_from (mul binary32) b xs ys)
unfolding sum_from all_in_domain
dot_alike a b [] ys p q l = l
dot_alike a b (x ∷ xs) [] p q l = l
dot_alike a b (x ∷ xs) (y ∷ ys) p q l =
    dot_alike (add binary32 a (mul binary32 x y)) (add binary32 b (mul binary32 x y)) xs ys
    (and_right (in_domain x) (all_in_domain xs) p) (and_right (in_domain y) (all_in_domain ys) q)
    (add_alike a b (mul binary32 x y) (2 ^ 32 * 2 ^ 32)
    (product_within x y (and_left (in_domain x) (all_in_domain xs) p) (and_left (in_domain y) (all_in_domain ys) q)) l)

norm-same : (x : Float) (xs : List Float) → T (all_in_domain (x ∷ xs))
    → sum_from (mul binary32) minus_zero (x ∷ xs) (x ∷ xs) ≡ dot (x ∷ xs) (x ∷ xs)
unfolding sum_from all_in_domain
norm-same x xs p =
    ap (λ (z : Float). sum_from (mul binary32) z xs xs)
    (first_plus (2 ^ 32 * 2 ^ 32) (mul binary32 x x)
    (self_from0 x (2 ^ 32) (in_range_lem x (and_left (in_domain x) (all_in_domain xs) p))
    (whole_is 1 64 (lit< tt) (lit< tt))))

squares-same : (x y : Float) (xs ys : List Float) → T (all_in_domain (x ∷ xs)) → T (all_in_domain (y ∷ ys))
    → sum_from square minus_zero (x ∷ xs) (y ∷ ys) ≡ squares (x ∷ xs) (y ∷ ys)
unfolding sum_from all_in_domain
squares-same x y xs ys p q =
    ap (λ (z : Float). sum_from square z xs ys)
    (first_plus (2 ^ 33 * 2 ^ 33) (square x y)
    (self_from0 (sub binary32 x y) (2 ^ 33)
    (sub_within x y (2 ^ 32) (2 ^ 32) (in_range_lem x (and_left (in_domain x) (all_in_domain xs) p))
    (in_range_lem y (and_left (in_domain y) (all_in_domain ys) q)) (whole_is 1 33 (lit< tt) (lit< tt)))
    (whole_is 1 66 (lit< tt) (lit< tt))))

-- ---- the angle
one_less : (s : Bool) → sub binary32 one (fin s 0 (pos 0)) ≡ one
unfolding sub
one_less true = refl
one_less false = refl

div_zero : (s : Bool) (den : Float) → T (not (is_nan den)) → eq den plus_zero ≡ false
    → sub binary32 one (div binary32 (fin s 0 (pos 0)) den) ≡ one
unfolding div is_nan
div_zero s nan n e = absurd n
div_zero s (inf t) n e = one_less (unlike s t)
div_zero s (fin t zero d) n e = absurd (subst T (sym (zero_eq t d) ∙ e) tt)
div_zero s (fin t (suc m) d) n e =
    ap (λ (b : Bool). sub binary32 one (cond b (cond true nan (inf (unlike s t)))
    (round binary32 (unlike s t) (0 * down d) (suc m * up d * 1)))) (eqb-suc-zero m)
    ∙ ap (λ (z : ℕ). sub binary32 one (round binary32 (unlike s t) z (suc m * up d * 1))) (zero-mul (down d))
    ∙ ap (sub binary32 one)
    (round_zero (unlike s t) (suc m * up d * 1) (mul-pos (mul-pos (zero-lt-suc m) (up_pos d)) (zero-lt-suc 0)))
    ∙ one_less (unlike s t)

angle_alike : (a b den : Float) → T (not (is_nan den)) → Alike a b → angle a den ≡ angle b den
angle_alike a b den n (equal e) = ap (λ (z : Float). angle z den) e
angle_alike a b den n (zeros p q) = go (eq den plus_zero) refl
  where
    go : (t : Bool) → eq den plus_zero ≡ t
        → cond t one (sub binary32 one (div binary32 a den)) ≡ cond t one (sub binary32 one (div binary32 b den))
    go true e = refl
    go false e =
        ap (λ (z : Float). sub binary32 one (div binary32 z den)) p
        ∙ div_zero true den n e
        ∙ sym (ap (λ (z : Float). sub binary32 one (div binary32 z den)) q ∙ div_zero false den n e)

-- ---- the law: distances with sums that start at z
abbrev pub distance_from : Float → Metric → List Float → List Float → Float
distance_from z Euclidean q v = sqrt binary32 (sum_from square z q v)
distance_from z Angular q v =
    angle (sum_from (mul binary32) z q v)
    (mul binary32 (sqrt binary32 (sum_from (mul binary32) z q q)) (sqrt binary32 (sum_from (mul binary32) z v v)))

pub start-free : (m : Metric) (x y : Float) (xs ys : List Float) → Bounded (x ∷ xs) → Bounded (y ∷ ys)
    → distance_from minus_zero m (x ∷ xs) (y ∷ ys) ≡ distance m (x ∷ xs) (y ∷ ys)
unfolding distance
start-free Euclidean x y xs ys p q = ap (sqrt binary32) (squares-same x y xs ys p.1 q.1)
start-free Angular x y xs ys p q =
    ap (λ (z : Float). angle (sum_from (mul binary32) minus_zero (x ∷ xs) (y ∷ ys))
    (mul binary32 (sqrt binary32 z) (sqrt binary32 (sum_from (mul binary32) minus_zero (y ∷ ys) (y ∷ ys)))))
    (norm-same x xs p.1)
    ∙ ap (λ (z : Float). angle (sum_from (mul binary32) minus_zero (x ∷ xs) (y ∷ ys))
    (mul binary32 (norm (x ∷ xs)) (sqrt binary32 z))) (norm-same y ys q.1)
    ∙ angle_alike (sum_from (mul binary32) minus_zero (x ∷ xs) (y ∷ ys)) (dot (x ∷ xs) (y ∷ ys))
    (mul binary32 (norm (x ∷ xs)) (norm (y ∷ ys))) (norms_no_nan (x ∷ xs) (y ∷ ys) p q)
    (dot_alike minus_zero plus_zero (x ∷ xs) (y ∷ ys) p.1 q.1 (zeros refl refl))
