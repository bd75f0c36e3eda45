-- No NaN arises in the domain: roots, products of norms and quotients, up to the two distances. Assumes nothing.
use mathlib.Core.Path.{◌≡◌, refl, sym, ◌∙◌, subst}
use mathlib.Core.List.{List}
use Prim.Native.Nat.{ℕ, zero, suc, ◌+◌, ◌-◌, ◌*◌, ◌/◌, ◌^◌, ◌≤◌, ◌<◌, compare}
use native.Mathlib.Nat.{le_trans, le_of_eq, mul_right_comm, mul_comm, div-le_of_le-mul, lt_of_le_of_lt}
use native.Mathlib.Nat.{mul-le-mul_right, zero-mul}
use native.Mathlib.Omega.{arith}
use mathlib.Core.Bool.{Bool, true, false, not, cond, ◌&&◌, beq}
use lib.Dec.{T, leb, leb→le, lit<, lit≤, eqb, ltb, eqb-suc-zero}
use lib.ListN.{length}
use lib.Ieee.{Float, nan, inf, fin, Format, binary32, add, sub, mul, div, neg, sum, round, units, odd, eq, is_nan, up}
use lib.Ieee.{down, low, prec, emax, size, nearest, unlike}
use lib.Ieee.Scale.{finite}
use lib.IntN.{ℤ}
use lib.Ieee.Fits.{kept-lt, nearest-le}
use lib.Ieee.Exact.{HasValue, units_val}
use lib.Ieee.Digits.{size-le}
use lib.Pow.{pow-add, pow-lt}
use Rattle.spec_laws.proofs.Nearest.Root.{root_is, sq_back}
use Rattle.spec.specs.Nearest.Root.{sqrt, rootable, root_units, root}
use Rattle.spec_laws.proofs.Nearest.Tests.{and_left, and_right}
use Rattle.spec.specs.Nearest.Distance.{squares, dot, all_in_domain, vector_in_domain, Bounded, one, plus_zero}
use Rattle.spec.specs.Nearest.Distance.{norm, distance}
use Rattle.spec.specs.declared.Metric.{Metric}
use Rattle.spec.specs.declared.Metric.TheVariants.{Euclidean, Angular}
use Rattle.spec_laws.proofs.Nearest.Bounds.{Within, From0}
use Rattle.spec_laws.proofs.Nearest.Sums.{squares_from0, own_from0, dot-within}

-- ---- what the root needs, and what it gives
pub from0_rootable : (B : ℕ) (x : Float) → From0 B x → T (rootable x)
from0_rootable B (fin true m e) h = absurd h
from0_rootable B (fin false m e) h = tt
from0_rootable B nan h = elim h [ ]
from0_rootable B (inf _) h = elim h [ ]

odd_no_nan : (d : ℕ) (s : Bool) (q k l : ℕ) → T (not (is_nan (odd d s q k l)))
unfolding odd is_nan
odd_no_nan d s zero k l = tt
odd_no_nan d s (suc q) k l = tt

pub units_no_nan : (f : Format) (s : Bool) (q k : ℕ) → T (not (is_nan (units f s q k)))
unfolding units is_nan
units_no_nan f s q k = go (ltb (q * 2 ^ k) (2 ^ (low f + suc (emax f))))
  where
    go : (b : Bool) → T (not (is_nan (cond b (odd (suc (prec f)) s q k (low f)) (inf s))))
    go true = odd_no_nan (suc (prec f)) s q k (low f)
    go false = tt

root_no_nan : (f : Format) (n : ℕ) → T (not (is_nan (root_units f n)))
unfolding root_units
root_no_nan f n =
    let w = root n in
    let k = size w - prec f in
    let q = w / 2 ^ k in
    let h = (2 * q + 1) * 2 ^ k in
    units_no_nan f false (nearest q (compare (4 * n) (h * h))) k

pub sqrt_no_nan : (x : Float) → T (rootable x) → T (not (is_nan (sqrt binary32 x)))
unfolding sqrt
sqrt_no_nan (fin true m e) h = absurd h
sqrt_no_nan (fin false m e) h = root_no_nan binary32 (m * up e * 2 ^ 298 / down e)
sqrt_no_nan nan h = elim h [ ]
sqrt_no_nan (inf _) h = elim h [ ]

round_no_nan : (f : Format) (s : Bool) (a c : ℕ) → T (not (is_nan (round f s a c)))
unfolding round
round_no_nan f s a c = units_no_nan f s _ _

-- ---- the angle: a finite number over one that is not zero is no NaN, and neither is 1 less that
pub zero_eq : (t : Bool) (d : ℤ) → eq (fin t 0 d) plus_zero ≡ true
unfolding eq
zero_eq true d = simp zero-mul
zero_eq false d = simp zero-mul

div_no_nan : (f : Format) (x d : Float) (B : ℕ) → Within B x → T (not (is_nan d)) → eq d plus_zero ≡ false
    → T (not (is_nan (div f x d)))
unfolding div is_nan
div_no_nan f (fin s m e) nan B h n z = n
div_no_nan f (fin s m e) (inf t) B h n z = tt
div_no_nan f (fin s m e) (fin t zero d) B h n z = absurd (subst T (sym (zero_eq t d) ∙ z) tt)
div_no_nan f (fin s m e) (fin t (suc k) d) B h n z =
    subst (λ (b : Bool). T (not
    (is_nan (cond b (cond (eqb m 0) nan (inf (unlike s t)))
    (round f (unlike s t) (m * up e * down d) (suc k * up d * down e)))))) (sym (eqb-suc-zero k))
    (round_no_nan f (unlike s t) (m * up e * down d) (suc k * up d * down e))
div_no_nan f nan d B h n z = elim h [ ]
div_no_nan f (inf _) d B h n z = elim h [ ]

sum_no_nan : (f : Format) (s : Bool) (a : ℕ) (t : Bool) (b c : ℕ) → T (not (is_nan (sum f s a t b c)))
unfolding sum
sum_no_nan f s a t b c = go (beq s t) (ltb a b) (s && ltb b a)
  where
    go : (p q r : Bool) → T (not
        (is_nan (cond p (round f s (a + b) c) (cond q (round f t (b - a) c) (round f r (a - b) c)))))
    go true q r = round_no_nan f s (a + b) c
    go false true r = round_no_nan f t (b - a) c
    go false false r = round_no_nan f r (a - b) c

sub_no_nan : (f : Format) (y : Float) → T (not (is_nan y)) → T (not (is_nan (sub f one y)))
unfolding sub add neg is_nan
sub_no_nan f nan n = n
sub_no_nan f (inf t) n = tt
sub_no_nan f (fin t k d) n = sum_no_nan f false (1 * down d) (not t) (k * up d * 1) (1 * down d)

pub angle_no_nan : (x d : Float) (B : ℕ) → Within B x → T (not (is_nan d)) → eq d plus_zero ≡ false
    → T (not (is_nan (sub binary32 one (div binary32 x d))))
angle_no_nan x d B h n z = sub_no_nan binary32 (div binary32 x d) (div_no_nan binary32 x d B h n z)

-- a product of two roots
pub finite_mul : (x y : Float) → T (finite x) → T (finite y) → T (not (is_nan (mul binary32 x y)))
unfolding mul
finite_mul (fin s m e) (fin t n d) h k = round_no_nan binary32 (unlike s t) (m * up e * (n * up d)) (down e * down d)
finite_mul nan y h k = elim h [ ]
finite_mul (inf _) y h k = elim h [ ]
finite_mul (fin s m e) nan h k = elim k [ ]
finite_mul (fin s m e) (inf _) h k = elim k [ ]

-- ---- the root of what is at most 2 ^ 71 is finite
units_finite : (f : Format) (s : Bool) (q k : ℕ) → q * 2 ^ k < 2 ^ (low f + suc (emax f)) → T (finite (units f s q k))
units_finite f s q k h = go (units f s q k) (units_val f s q k h)
  where
    go : (v : Float) → HasValue v s (q * 2 ^ k) (2 ^ low f) → T (finite v)
    go (fin t m e) v = tt
    go nan v = elim v [ ]
    go (inf _) v = elim v [ ]

root_finite : (n : ℕ) → n < 2 ^ 370 → T (finite (root_units binary32 n))
unfolding root_units
root_finite n l =
    let w = root n in
    let k = size w - 24 in
    let q = w / 2 ^ k in
    let h = (2 * q + 1) * 2 ^ k in
    let w-lt : w < 2 ^ 185 = sq_back w (2 ^ 185) (lt_of_le_of_lt (root_is n).0 l) in
    let z : size w ≤ 185 = size-le w 185 w-lt in
    let o = compare (4 * n) (h * h) in
    let q-le : nearest q o ≤ 2 ^ 24 = le_trans (nearest-le q o) (kept-lt 24 w) in
    units_finite binary32 false (nearest q o) k
    (lt_of_le_of_lt (mul-le-mul_right (2 ^ k) q-le)
    (lt_of_le_of_lt (le_of_eq (sym (pow-add 2 24 k))) (pow-lt {i = 24 + k} {j = 277} (fit (size w) z))))
  where
    fit : (z : ℕ) → z ≤ 185 → 24 + (z - 24) < 277
    fit z h = omega arith

pub sqrt_finite : (x : Float) → From0 (2 ^ 71) x → T (finite (sqrt binary32 x))
unfolding sqrt
sqrt_finite (fin true m e) h = absurd h
sqrt_finite (fin false m e) h =
    root_finite (m * up e * 2 ^ 298 / down e)
    (lt_of_le_of_lt
    (le_trans (div-le_of_le-mul (down e) {n = 2 ^ 71 * 2 ^ 298}
    (le_trans (mul-le-mul_right (2 ^ 298) h)
    (le_of_eq (mul_right_comm (2 ^ 71) (down e) (2 ^ 298) ∙ mul_comm (2 ^ 71 * 2 ^ 298) (down e))))) (lit≤ tt))
    (lit< {m = 2 ^ 369} {n = 2 ^ 370} tt))
sqrt_finite nan h = elim h [ ]
sqrt_finite (inf _) h = elim h [ ]

-- ---- the two distances
pub vector_bounded : (v : List Float) → T (vector_in_domain v) → Bounded v
unfolding vector_in_domain
vector_bounded v t =
    let r = and_right (leb 1 (length v)) (leb (length v) 32 && all_in_domain v) t in (
      leb→le (length v) 32 (and_left (leb (length v) 32) (all_in_domain v) r),
      and_right (leb (length v) 32)
          (all_in_domain v) r,
    )

pub norm_finite : (v : List Float) → Bounded v → T (finite (norm v))
norm_finite v b = sqrt_finite (dot v v) (own_from0 v b.0 b.1)

pub norms_no_nan : (q v : List Float) → Bounded q → Bounded v → T (not (is_nan (mul binary32 (norm q) (norm v))))
norms_no_nan q v a b = finite_mul (norm q) (norm v) (norm_finite q a) (norm_finite v b)

pub squares-rootable : (q v : List Float) → Bounded q → Bounded v → T (rootable (squares q v))
squares-rootable q v a b = from0_rootable (2 ^ 71) (squares q v) (squares_from0 q v a.0 a.1 b.1)

pub norm-rootable : (v : List Float) → Bounded v → T (rootable (dot v v))
norm-rootable v b = from0_rootable (2 ^ 71) (dot v v) (own_from0 v b.0 b.1)

one_no_nan : T (not (is_nan one))
unfolding is_nan
one_no_nan = tt

-- no NaN arises in the domain
pub distance_no_nan : (m : Metric) (q v : List Float) → Bounded q → Bounded v → T (not (is_nan (distance m q v)))
unfolding distance
distance_no_nan Euclidean q v a b = sqrt_no_nan (squares q v) (squares-rootable q v a b)
distance_no_nan Angular q v a b = go (eq den plus_zero) refl
  where
    den : Float
    den = mul binary32 (norm q) (norm v)

    go : (t : Bool) → eq den plus_zero ≡ t
        → T (not (is_nan (cond t one (sub binary32 one (div binary32 (dot q v) den)))))
    go true e = one_no_nan
    go false e =
        angle_no_nan (dot q v) den (2 ^ 71) (dot-within q v a.0 a.1 b.1) (norms_no_nan q v a b) e
