-- Magnitudes after rounding: where a fraction is at most B, and B is a value of the format, the rounded fraction is
-- at most B. Assumes nothing.
use mathlib.Core.Path.{◌≡◌, refl, sym, ap, ◌∙◌, subst}
use mathlib.Core.Logic.{◌⊎◌, inl, inr}
use Prim.Native.Nat.{ℕ, zero, suc, ◌+◌, ◌-◌, ◌*◌, ◌^◌, ◌≤◌, ◌<◌}
use native.Mathlib.Nat.{le_trans, le_of_eq, le_of_lt, mul-one, mul_comm, mul_assoc, mul_right_comm, mul-le-mul_right}
use native.Mathlib.Nat.{mul-le-mul, le_of_mul-le-mul_right, mul-pos, add-le-add, add-mul, sub-le, le-add_right}
use native.Mathlib.Nat.{le-add_left, zero-lt-suc, mul-mul-mul_comm}
use mathlib.Core.Bool.{Bool, true, false, ◌&&◌, ◌||◌, beq, cond}
use lib.Dec.{T, ltb, eqb, ltb→lt, eqb→eq}
use lib.Pow.{pow-add}
use lib.Ieee.{Float, nan, inf, fin, Format, binary32, prec, emax, low, up, down, unlike, odd, units, round, sum, neg}
use lib.Ieee.{add, sub, mul, le}
use lib.Ieee.Fits.{down_pos, and_l}
use lib.Ieee.Exact.{HasValue, round_exact}
use lib.Ieee.Order.{round_mono}

-- finite, and at most B in magnitude
abbrev pub Within : ℕ → Float → Type 0
Within B nan = ⊥
Within B (inf s) = ⊥
Within B (fin s m e) = m * up e ≤ B * down e

-- the same, and not below zero (+0 is in and -0 is out)
abbrev pub From0 : ℕ → Float → Type 0
From0 B nan = ⊥
From0 B (inf s) = ⊥
From0 B (fin true m e) = ⊥
From0 B (fin false m e) = m * up e ≤ B * down e

-- ---- the sign is carried past the rounding
abbrev with_sign : Bool → Float → Float
with_sign s nan = nan
with_sign s (inf t) = inf s
with_sign s (fin t m e) = fin s m e

odd_sign' : (d : ℕ) (s : Bool) (q k l : ℕ) → odd d s q k l ≡ with_sign s (odd d false q k l)
unfolding odd
odd_sign' d s zero k l = refl
odd_sign' d s (suc q) k l = refl

units_sign : (f : Format) (s : Bool) (q k : ℕ) → units f s q k ≡ with_sign s (units f false q k)
unfolding units
units_sign f s q k = go (ltb (q * 2 ^ k) (2 ^ (low f + suc (emax f))))
  where
    go : (b : Bool) → cond b (odd (suc (prec f)) s q k (low f)) (inf s) ≡ with_sign s
        (cond b (odd (suc (prec f)) false q k (low f)) (inf false))
    go true = odd_sign' (suc (prec f)) s q k (low f)
    go false = refl

round-sign : (f : Format) (s : Bool) (a c : ℕ) → round f s a c ≡ with_sign s (round f false a c)
unfolding round
round-sign f s a c = units_sign f s _ _

-- ---- what is at most a whole value of the format
or_split : (a b : Bool) → T (a || b) → T a ⊎ T b
or_split true b t = inl tt
or_split false b t = inr t

lt_or_eq : (a b : ℕ) (z : Bool) → T (ltb a b || (eqb a b && z)) → a ≤ b
lt_or_eq a b z t = elim (or_split (ltb a b) (eqb a b && z) t)
    [ inl u ↦ le_of_lt (ltb→lt a b u) | inr u ↦ le_of_eq (eqb→eq a b (and_l (eqb a b) z u)) ]

under : (x y : Float) (B : ℕ) → HasValue y false B 1 → T (le (with_sign false x) y) → From0 B (with_sign false x)
unfolding le
under nan y B v t = absurd t
under (inf s) (fin false n d) B v t = absurd t
under (inf s) (fin true n d) B v t = absurd t
under (fin s m e) (fin true n d) B v t = absurd (no v.0)
  where
    no : true ≡ false → ⊥
    no p = subst T p tt
under (fin s m e) (fin false n d) B v t =
    let a : m * up e * down d ≤ n * up d * down e = lt_or_eq (m * up e * down d) (n * up d * down e) true t in
    let b : n * up d ≡ B * down d = sym (mul-one (n * up d)) ∙ v.1 in
    le_of_mul-le-mul_right (le_trans a (le_of_eq (ap (λ (z : ℕ). z * down e) b ∙ mul_right_comm B (down d) (down e))))
    (down_pos d)
under (inf s) nan B v t = elim v [ ]
under (inf s) (inf _) B v t = elim v [ ]
under (fin s m e) nan B v t = elim v [ ]
under (fin s m e) (inf _) B v t = elim v [ ]

-- B is a value of the format
abbrev pub Whole : ℕ → Type 0
Whole B = HasValue (round binary32 false B 1) false B 1

pub round_from0 : (a c B : ℕ) → 0 < c → a ≤ B * c → Whole B → From0 B (round binary32 false a c)
round_from0 a c B C h w =
    subst (λ (x : Float). From0 B x) (sym (round-sign binary32 false a c))
    (under (round binary32 false a c) (round binary32 false B 1) B w
    (subst (λ (x : Float). T (le x (round binary32 false B 1))) (round-sign binary32 false a c)
    (round_mono binary32 a c B 1 C (zero-lt-suc 0) (le_trans (le_of_eq (mul-one a)) h))))

any_sign : (s : Bool) (x : Float) (B : ℕ) → From0 B x → Within B (with_sign s x)
any_sign s (fin true m e) B h = absurd h
any_sign s (fin false m e) B h = h
any_sign s nan B h = elim h [ ]
any_sign s (inf _) B h = elim h [ ]

pub round-within : (s : Bool) (a c B : ℕ) → 0 < c → a ≤ B * c → Whole B → Within B (round binary32 s a c)
round-within s a c B C h w = subst (λ (x : Float). Within B x) (sym (round-sign binary32 s a c))
    (any_sign s (round binary32 false a c) B (round_from0 a c B C h w))

-- ---- the operations
pub from0_within : (x : Float) (B : ℕ) → From0 B x → Within B x
from0_within (fin true m e) B h = absurd h
from0_within (fin false m e) B h = h
from0_within nan B h = elim h [ ]
from0_within (inf _) B h = elim h [ ]

sum-within : (s t : Bool) (a b c A B : ℕ) → 0 < c → a ≤ A * c → b ≤ B * c → Whole (A + B)
    → Within (A + B) (sum binary32 s a t b c)
unfolding sum
sum-within s t a b c A B C h k w = go (beq s t) (ltb a b) (s && ltb b a)
  where
    both : a + b ≤ (A + B) * c
    both = le_trans (add-le-add h k) (le_of_eq (sym (add-mul A B c)))

    go : (p q r : Bool) → Within (A + B)
        (cond p (round binary32 s (a + b) c) (cond q (round binary32 t (b - a) c) (round binary32 r (a - b) c)))
    go true q r = round-within s (a + b) c (A + B) C both w
    go false true r = round-within t (b - a) c (A + B) C (le_trans (sub-le b a) (le_trans (le-add_left b a) both)) w
    go false false r = round-within r (a - b) c (A + B) C (le_trans (sub-le a b) (le_trans (le-add_right a b) both)) w

-- m * up e ≤ A * down e, over the common divisor
over_left : (x A p q : ℕ) → x ≤ A * p → x * q ≤ A * (p * q)
over_left x A p q h = le_trans (mul-le-mul_right q h) (le_of_eq (mul_assoc A p q))

over_right : (x A p q : ℕ) → x ≤ A * p → x * q ≤ A * (q * p)
over_right x A p q h = le_trans (mul-le-mul_right q h)
    (le_of_eq (mul_assoc A p q ∙ ap (λ (z : ℕ). A * z) (mul_comm p q)))

pub add_within : (x y : Float) (A B : ℕ) → Within A x → Within B y → Whole (A + B) → Within (A + B) (add binary32 x y)
unfolding add
add_within (fin s m e) (fin t n d) A B h k w =
    sum-within s t (m * up e * down d) (n * up d * down e) (down e * down d) A B (mul-pos (down_pos e) (down_pos d))
    (over_left (m * up e) A (down e) (down d) h) (over_right (n * up d) B (down d) (down e) k) w
add_within nan y A B h k w = elim h [ ]
add_within (inf _) y A B h k w = elim h [ ]
add_within (fin s m e) nan A B h k w = elim k [ ]
add_within (fin s m e) (inf _) A B h k w = elim k [ ]

neg_within : (y : Float) (B : ℕ) → Within B y → Within B (neg y)
unfolding neg
neg_within (fin t n d) B k = k
neg_within nan B k = elim k [ ]
neg_within (inf _) B k = elim k [ ]

pub sub_within : (x y : Float) (A B : ℕ) → Within A x → Within B y → Whole (A + B) → Within (A + B) (sub binary32 x y)
unfolding sub
sub_within x y A B h k w = add_within x (neg y) A B h (neg_within y B k) w

product : (x A p y B q : ℕ) → x ≤ A * p → y ≤ B * q → x * y ≤ A * B * (p * q)
product x A p y B q h k = le_trans (mul-le-mul h k) (le_of_eq (mul-mul-mul_comm A p B q))

pub mul_within : (x y : Float) (A B : ℕ) → Within A x → Within B y → Whole (A * B) → Within (A * B) (mul binary32 x y)
unfolding mul
mul_within (fin s m e) (fin t n d) A B h k w =
    round-within (unlike s t) (m * up e * (n * up d)) (down e * down d) (A * B) (mul-pos (down_pos e) (down_pos d))
    (product (m * up e) A (down e) (n * up d) B (down d) h k) w
mul_within nan y A B h k w = elim h [ ]
mul_within (inf _) y A B h k w = elim h [ ]
mul_within (fin s m e) nan A B h k w = elim k [ ]
mul_within (fin s m e) (inf _) A B h k w = elim k [ ]

-- a square is not below zero, and neither is a sum of what is not
pub self_from0 : (x : Float) (A : ℕ) → Within A x → Whole (A * A) → From0 (A * A) (mul binary32 x x)
unfolding mul
self_from0 (fin true m e) A h w = round_from0 (m * up e * (m * up e)) (down e * down e) (A * A)
    (mul-pos (down_pos e) (down_pos e)) (product (m * up e) A (down e) (m * up e) A (down e) h h) w
self_from0 (fin false m e) A h w = round_from0 (m * up e * (m * up e)) (down e * down e) (A * A)
    (mul-pos (down_pos e) (down_pos e)) (product (m * up e) A (down e) (m * up e) A (down e) h h) w
self_from0 nan A h w = elim h [ ]
self_from0 (inf _) A h w = elim h [ ]

pub add_from0 : (x y : Float) (A B : ℕ) → From0 A x → From0 B y → Whole (A + B) → From0 (A + B) (add binary32 x y)
unfolding add sum
add_from0 (fin true m e) y A B h k w = absurd h
add_from0 (fin false m e) (fin true n d) A B h k w = absurd k
add_from0 (fin false m e) (fin false n d) A B h k w =
    round_from0 (m * up e * down d + n * up d * down e) (down e * down d) (A + B) (mul-pos (down_pos e) (down_pos d))
    (le_trans (add-le-add (over_left (m * up e) A (down e) (down d) h) (over_right (n * up d) B (down d) (down e) k))
    (le_of_eq (sym (add-mul A B (down e * down d))))) w
add_from0 nan y A B h k w = elim h [ ]
add_from0 (inf _) y A B h k w = elim h [ ]
add_from0 (fin false m e) nan A B h k w = elim k [ ]
add_from0 (fin false m e) (inf _) A B h k w = elim k [ ]

-- ---- which whole numbers are values: q * 2 ^ j with q of 24 digits at most, below 2 ^ 128
pub whole_is : (q j : ℕ) → q < 2 ^ 24 → q * 2 ^ (j + 149) < 2 ^ (149 + 128) → Whole (q * 2 ^ j)
whole_is q j a b = round_exact binary32 false (q * 2 ^ j) 1 q (j + 149) (zero-lt-suc 0) a b
    (mul_assoc q (2 ^ j) (2 ^ 149) ∙ ap (λ (z : ℕ). q * z) (sym (pow-add 2 j 149))
    ∙ sym (mul-one (q * 2 ^ (j + 149))))
