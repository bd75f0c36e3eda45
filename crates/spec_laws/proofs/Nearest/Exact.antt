-- The root is the f32 nearest the exact root, among all f32 with a plus sign, and no tie arises. Assumes nothing.
use mathlib.Core.Logic.{inl, inr}
use mathlib.Core.Path.{◌≡◌, refl, sym, ap, ◌∙◌, subst}
use Prim.Native.Nat.{ℕ, zero, suc, ◌+◌, ◌-◌, ◌*◌, ◌/◌, ◌%◌, ◌^◌, ◌≤◌, ◌<◌, zero-le, compare, Ordering}
use native.Mathlib.Nat.{le_trans, le_of_eq, le_of_lt, lt_of_lt_of_le, lt_of_le_of_lt, lt_of_not-le, not-le_of_lt}
use native.Mathlib.Nat.{lt_irrefl, le_dest, mul_comm, mul_assoc, mul-one, one-mul, zero-add, add-mul, mul-le-mul}
use native.Mathlib.Nat.{mul-le-mul_left, mul-le-mul_right, mul-lt-mul_of_pos_right, lt_of_mul-lt-mul_right}
use native.Mathlib.Nat.{eq_of_mul-eq-mul_right, mul-mul-mul_comm, mul_right_comm, div-mul-le_self, div-lt_iff_lt-mul}
use native.Mathlib.Nat.{mul-div_cancel, mod-eq_of_lt, eq-or-lt_of_le, add_comm}
use native.Mathlib.Decide.{dec_le}
use native.Mathlib.Numerals.{add-one}
use native.Mathlib.Omega.{arith}
use mathlib.Core.Bool.{Bool, true, false, not, cond}
use lib.IntN.{ℤ}
use borrow.Author.Tests.{leb-false}
use lib.Dec.{T, leb, ltb, lit<, lit≤, ltb→lt}
use lib.Pow.{pow-add, pow_pos, pow_mono, pow-lt, shl_lt}
use lib.Ieee.{Float, inf, fin, binary32, up, down, size, nearest, units, odd, fits, is_nan, to_bits, of_bits}
use lib.Ieee.Digits.{size-lt, size_reaches, size-le}
use lib.Ieee.Fits.{down_pos, kept-lt, nearest-le, odd-fits, inf-fits}
use lib.Ieee.Exact.{units_val}
use lib.Ieee.Bits.{of_bits-to_bits}
use Rattle.spec.specs.Nearest.Order.{units_at, units_of}
use Rattle.spec.specs.Nearest.Root.{root, root_units, sqrt, rootable, Units, Closer, NearestRoot}
use Rattle.spec_laws.proofs.Nearest.Patterns.{Reads, top, Val, reads, units_mono}
use Rattle.spec_laws.proofs.Nearest.Root.{root_is, sq_back, Cmp, cmp, half_sq, four}

-- ---- what f32 holds: at most 24 digits, and some zeros
pub record Held (v : ℕ) : Type 0 where
  pub digits : ℕ
  pub shift : ℕ
  pub small : digits < 2 ^ 24
  pub value : v ≡ digits * 2 ^ shift

pattern_held : (r : ℕ) → Held (units_of r)
pattern_held r = go (r / 2 ^ 23)
  where
    part : r % 2 ^ 23 < 2 ^ 23
    part = omega arith

    go : (e : ℕ) → Held (units_at e (r % 2 ^ 23))
    go zero = record {
      digits = r % 2 ^ 23;
      shift = 0;
      small = omega (arith, part);
      value =
          sym (mul-one (r % 2 ^ 23));
    }
    go (suc x) = record { digits = 2 ^ 23 + r % 2 ^ 23; shift = x; small = omega (arith, part); value = refl }

next : (a b : ℕ) → a < b → a + 1 ≤ b
next a b t = omega arith

-- ---- between two neighbours of 24 digits there is no float
gap : (v q k : ℕ) → Held v → 2 ^ 23 ≤ q → q * 2 ^ k < v → (q + 1) * 2 ^ k ≤ v
gap v q k h lo l = go (dec_le k h.shift)
  where
    M : ℕ
    M = h.digits

    x : ℕ
    x = h.shift

    l' : q * 2 ^ k < M * 2 ^ x
    l' = subst (λ (z : ℕ). q * 2 ^ k < z) h.value l

    even : (d : ℕ) → k + d ≡ x → (q + 1) * 2 ^ k ≤ v
    even d e =
        let s : M * 2 ^ x ≡ M * 2 ^ d * 2 ^ k = ap (λ (z : ℕ). M * 2 ^ z) (sym e)
        ∙ ap (λ (z : ℕ). M * z) (pow-add 2 k d ∙ mul_comm (2 ^ k) (2 ^ d)) ∙ sym (mul_assoc M (2 ^ d) (2 ^ k)) in
        le_trans
        (mul-le-mul_right (2 ^ k)
        (next q (M * 2 ^ d) (lt_of_mul-lt-mul_right (2 ^ k) (subst (λ (z : ℕ). q * 2 ^ k < z) s l'))))
        (le_of_eq (sym (h.value ∙ s)))

    room : x < k → 24 + x ≤ 23 + k
    room t = omega arith

    go : Dec (k ≤ x) → (q + 1) * 2 ^ k ≤ v
    go (yes t) = even (le_dest t).0 (le_dest t).1
    go (no f) =
        absurd (not-le_of_lt l'
        (le_trans (le_of_lt (shl_lt 24 x h.small))
        (le_trans (pow_mono {i = 24 + x} {j = 23 + k} (room (lt_of_not-le f)))
        (le_trans (le_of_eq (pow-add 2 23 k)) (mul-le-mul_right (2 ^ k) lo)))))

-- ---- no tie: the square of a middle has too many digits
no_tie : (u q k : ℕ) → Held u → 2 ^ 23 ≤ q → 4 * (u * 2 ^ 149) ≡ (2 * q + 1) * 2 ^ k * ((2 * q + 1) * 2 ^ k) → ⊥
no_tie u q k h lo e = go (dec_le (x + 151) (k + k))
  where
    M : ℕ
    M = h.digits

    x : ℕ
    x = h.shift

    S : ℕ
    S = (2 * q + 1) * (2 * q + 1)

    powers : (m a b : ℕ) → m * 2 ^ a * 2 ^ b ≡ m * 2 ^ (a + b)
    powers m a b = mul_assoc m (2 ^ a) (2 ^ b) ∙ ap (λ (z : ℕ). m * z) (sym (pow-add 2 a b))

    left : 4 * (u * 2 ^ 149) ≡ M * 2 ^ (x + 151)
    left =
        ap (λ (z : ℕ). 4 * (z * 2 ^ 149)) h.value
        ∙ ap (λ (z : ℕ). 4 * z) (powers M x 149)
        ∙ mul_comm 4 (M * 2 ^ (x + 149))
        ∙ powers M (x + 149) 2
        ∙ ap (λ (z : ℕ). M * 2 ^ z) (omega arith)

    right : (2 * q + 1) * 2 ^ k * ((2 * q + 1) * 2 ^ k) ≡ S * 2 ^ (k + k)
    right = mul-mul-mul_comm (2 * q + 1) (2 ^ k) (2 * q + 1) (2 ^ k) ∙ ap (λ (z : ℕ). S * z) (sym (pow-add 2 k k))

    both : M * 2 ^ (x + 151) ≡ S * 2 ^ (k + k)
    both = sym left ∙ e ∙ right

    wide : 2 ^ 24 ≤ 2 * q + 1
    wide = omega arith

    large : 2 ^ 24 * 2 ^ 24 ≤ S
    large = mul-le-mul wide wide

    many : (c d t : ℕ) → M * 2 ^ c ≡ S * 2 ^ d → c + t ≡ d → ⊥
    many c d t f g =
        let z : S * 2 ^ d ≡ S * 2 ^ t * 2 ^ c = ap (λ (y : ℕ). S * 2 ^ y) (sym g ∙ omega arith)
        ∙ sym (powers S t c) in
        let m : M ≡ S * 2 ^ t = eq_of_mul-eq-mul_right (2 ^ c) (pow_pos c) M (S * 2 ^ t) (f ∙ z) in
        lt_irrefl M (lt_of_lt_of_le h.small (le_trans (lit≤ {m = 2 ^ 24} {n = 2 ^ 24 * 2 ^ 24} tt)
        (le_trans large (le_trans (le_of_eq (sym (mul-one S)))
        (le_trans (mul-le-mul_left S (pow_pos t)) (le_of_eq (sym m)))))))

    odd_even : (a b : ℕ) → 4 * a + 4 * q + 1 ≡ b * 2 → ⊥
    odd_even a b f = omega arith

    few : (c d t : ℕ) → M * 2 ^ c ≡ S * 2 ^ d → suc d + t ≡ c → ⊥
    few c d t f g =
        let z : M * 2 ^ c ≡ M * 2 ^ (t + 1) * 2 ^ d = ap (λ (y : ℕ). M * 2 ^ y) (sym g ∙ omega arith)
        ∙ sym (powers M (t + 1) d) in
        let m : S ≡ M * 2 ^ (t + 1) = eq_of_mul-eq-mul_right (2 ^ d) (pow_pos d) S (M * 2 ^ (t + 1)) (sym f ∙ z) in
        odd_even (q * q) (M * 2 ^ t) (sym (half_sq q) ∙ m ∙ sym (powers M t 1))

    go : Dec (x + 151 ≤ k + k) → ⊥
    go (yes t) = many (x + 151) (k + k) (le_dest t).0 both (le_dest t).1
    go (no t) = let l = lt_of_not-le t in few (x + 151) (k + k) (le_dest l).0 both (le_dest l).1

-- ---- the two roundings
less_square : (a b : ℕ) → a < b → a * a < b * b
less_square a b l = lt_of_le_of_lt (mul-le-mul_left a (le_of_lt l))
    (mul-lt-mul_of_pos_right l (lt_of_le_of_lt zero-le l))

double_square : (w : ℕ) → (w + w) * (w + w) ≡ 4 * (w * w)
double_square w = ap (λ (z : ℕ). z * z) (twice w) ∙ four w
  where
    twice : (w : ℕ) → w + w ≡ 2 * w
    twice w = omega arith

middle : (q k : ℕ) → q * 2 ^ k + (q + 1) * 2 ^ k ≡ (2 * q + 1) * 2 ^ k
middle q k = sym (add-mul q (q + 1) (2 ^ k)) ∙ ap (λ (z : ℕ). z * 2 ^ k) (sum q)
  where
    sum : (q : ℕ) → q + (q + 1) ≡ 2 * q + 1
    sum q = omega arith

module _ (n q k v : ℕ) (h : Held v) (lo : 2 ^ 23 ≤ q) where
  abbrev H : ℕ
  H = (2 * q + 1) * 2 ^ k

  closer_down : q * 2 ^ k * (q * 2 ^ k) ≤ n → 4 * n < H * H → Closer n (q * 2 ^ k) v
  closer_down s t = record { above = up'; below = down' }
    where
      w : ℕ
      w = q * 2 ^ k

      up' : w < v → 4 * n < (w + v) * (w + v)
      up' l =
          let m : H ≤ w + v = le_trans (le_of_eq (sym (middle q k))) (add_le w ((q + 1) * 2 ^ k) v (gap v q k h lo l))
          in
          lt_of_lt_of_le t (mul-le-mul m m)
        where
          add_le : (a b c : ℕ) → b ≤ c → a + b ≤ a + c
          add_le a b c z = omega arith

      down' : v < w → (w + v) * (w + v) < 4 * n
      down' l = lt_of_lt_of_le (less_square (w + v) (w + w) (omega arith))
          (le_trans (le_of_eq (double_square w)) (mul-le-mul_left 4 s))

  closer_up : n < (q + 1) * 2 ^ k * ((q + 1) * 2 ^ k) → H * H < 4 * n → Closer n ((q + 1) * 2 ^ k) v
  closer_up s t = record { above = up'; below = down' }
    where
      w : ℕ
      w = (q + 1) * 2 ^ k

      up' : w < v → 4 * n < (w + v) * (w + v)
      up' l =
          lt_of_lt_of_le (four_lt n (w * w) s)
          (le_trans (le_of_eq (sym (double_square w))) (le_of_lt (less_square (w + w) (w + v) (omega arith))))
        where
          four_lt : (a b : ℕ) → a < b → 4 * a < 4 * b
          four_lt a b z = omega arith

      down' : v < w → (w + v) * (w + v) < 4 * n
      down' l = go (dec_le v (q * 2 ^ k))
        where
          go : Dec (v ≤ q * 2 ^ k) → (w + v) * (w + v) < 4 * n
          go (yes z) =
              let m : w + v ≤ H = le_trans (sum z) (le_of_eq (middle q k)) in
              lt_of_le_of_lt (mul-le-mul m m) t
            where
              sum : v ≤ q * 2 ^ k → w + v ≤ q * 2 ^ k + w
              sum a = omega arith
          go (no f) = absurd (not-le_of_lt l (gap v q k h lo (lt_of_not-le f)))

-- ---- from floats to units and back
fin_no_nan : (s : Bool) (m : ℕ) (e : ℤ) → T (not (is_nan (fin s m e)))
unfolding is_nan
fin_no_nan s m e = tt

pub of_float : (y : Float) (v : ℕ) → T (fits binary32 y) → Units y v → (r : ℕ) × (r < top) × (v ≡ units_of r)
of_float (fin s m e) v f u =
    let b = to_bits binary32 (fin s m e) in
    let p = of_bits-to_bits binary32 (fin s m e) f in
    let d : T (not (is_nan (of_bits binary32 b))) = subst (λ (z : Float). T (not (is_nan z))) (sym p) (fin_no_nan s m e)
    in
    let w : Val (fin s m e) (b % 2 ^ 31) = subst (λ (z : Float). Val z (b % 2 ^ 31)) p (reads b d).0 in
    (b % 2 ^ 31, w.0, eq_of_mul-eq-mul_right (down e) (down_pos e) v (units_of (b % 2 ^ 31)) (sym u.1 ∙ w.1))
of_float lib.Ieee.nan v f u = elim u [ ]
of_float (inf _) v f u = elim u [ ]

units_of_lem : (x : Float) → T (fits binary32 x) → T (rootable x) → (r : ℕ) × (r < top) × Units x (units_of r)
units_of_lem (fin true m e) f t = absurd t
units_of_lem (fin false m e) f t =
    let b = to_bits binary32 (fin false m e) in
    let p = of_bits-to_bits binary32 (fin false m e) f in
    let d : T (not (is_nan (of_bits binary32 b))) = subst (λ (z : Float). T (not (is_nan z))) (sym p)
    (fin_no_nan false m e) in
    let w : Val (fin false m e) (b % 2 ^ 31) = subst (λ (z : Float). Val z (b % 2 ^ 31)) p (reads b d).0 in
    (b % 2 ^ 31, w.0, (refl, w.1))
units_of_lem lib.Ieee.nan f t = elim t [ ]
units_of_lem (inf _) f t = elim t [ ]

pub sqrt-at : (x : Float) (u : ℕ) → Units x u → sqrt binary32 x ≡ root_units binary32 (u * 2 ^ 149)
unfolding sqrt
sqrt-at (fin true m e) u h = absurd (subst T h.0 tt)
sqrt-at (fin false m e) u h =
    ap (root_units binary32)
    (ap (λ (y : ℕ). y / down e)
    (sym (mul_assoc (m * up e) (2 ^ 149) (2 ^ 149))
    ∙ ap (λ (y : ℕ). y * 2 ^ 149) h.1
    ∙ mul_right_comm u (down e) (2 ^ 149))
    ∙ mul-div_cancel (u * 2 ^ 149) (down_pos e))
sqrt-at lib.Ieee.nan u h = elim h [ ]
sqrt-at (inf _) u h = elim h [ ]

pub units_fits : (q K : ℕ) → q ≤ 2 ^ 24 → T (fits binary32 (units binary32 false q K))
unfolding units
units_fits q K h = go (ltb (q * 2 ^ K) (2 ^ 277)) (ltb→lt (q * 2 ^ K) (2 ^ 277))
  where
    go : (b : Bool) → (T b → q * 2 ^ K < 2 ^ 277) → T (fits binary32 (cond b (odd 25 false q K 149) (inf false)))
    go true l = odd-fits binary32 25 false q K (lt_of_le_of_lt h (lit< tt)) h (l tt)
    go false l = inf-fits binary32 false

-- ---- the root of a positive number of units
module _ (u : ℕ) (held : Held u) (pos : 0 < u) (under : u < 2 ^ 277) where
  abbrev n : ℕ
  n = u * 2 ^ 149

  abbrev W : ℕ
  W = root n

  abbrev k : ℕ
  k = size W - 24

  abbrev q : ℕ
  q = W / 2 ^ k

  abbrev Q : ℕ
  Q = nearest q (compare (4 * n) ((2 * q + 1) * 2 ^ k * ((2 * q + 1) * 2 ^ k)))

  n_lo : 2 ^ 149 ≤ n
  n_lo = le_trans (le_of_eq (sym (one-mul (2 ^ 149)))) (mul-le-mul_right (2 ^ 149) pos)

  W_lo : 2 ^ 74 ≤ W
  W_lo = elim (dec_le (2 ^ 74) W) [ yes h ↦ h | no f ↦ absurd (small (next W (2 ^ 74) (lt_of_not-le f))) ]
    where
      small : W + 1 ≤ 2 ^ 74 → ⊥
      small z = lt_irrefl n (lt_of_lt_of_le (root_is n).1 (le_trans (mul-le-mul z z) (le_trans (lit≤ tt) n_lo)))

  W_hi : W < 2 ^ 213
  W_hi = sq_back W (2 ^ 213)
      (lt_of_le_of_lt (root_is n).0 (lt_of_lt_of_le (mul-lt-mul_of_pos_right under (pow_pos 149)) (lit≤ tt)))

  long : 75 ≤ size W
  long = lt_of_not-le (λ (z : size W ≤ 74). not-le_of_lt (lt_of_lt_of_le (size-lt W) (pow_mono z)) W_lo)

  q_lo : 2 ^ 23 ≤ q
  q_lo = elim (dec_le (2 ^ 23) q) [
    | yes h ↦ h
    | no f ↦ absurd (not-le_of_lt ((div-lt_iff_lt-mul (pow_pos k)).0 (lt_of_not-le f)) reach)
  ]
    where
      most : (s : ℕ) → 75 ≤ s → 23 + (s - 24) < s
      most s h = omega arith

      reach : 2 ^ 23 * 2 ^ k ≤ W
      reach = le_trans (le_of_eq (sym (pow-add 2 23 k))) (size_reaches W (23 + k) (most (size W) long))

  q_hi : q < 2 ^ 24
  q_hi = kept-lt 24 W

  Q_hi : Q ≤ 2 ^ 24
  Q_hi = le_trans (nearest-le q (compare (4 * n) ((2 * q + 1) * 2 ^ k * ((2 * q + 1) * 2 ^ k)))) q_hi

  low-square : q * 2 ^ k * (q * 2 ^ k) ≤ n
  low-square = le_trans (mul-le-mul (div-mul-le_self W (2 ^ k)) (div-mul-le_self W (2 ^ k))) (root_is n).0

  high_square : n < (q + 1) * 2 ^ k * ((q + 1) * 2 ^ k)
  high_square = lt_of_lt_of_le (root_is n).1 (mul-le-mul over over)
    where
      over : W + 1 ≤ (q + 1) * 2 ^ k
      over = next W ((q + 1) * 2 ^ k) ((div-lt_iff_lt-mul (pow_pos k)).0 (omega arith))

  in_range_lem : Q * 2 ^ k < 2 ^ 277
  in_range_lem =
      lt_of_le_of_lt (mul-le-mul_right (2 ^ k) Q_hi)
      (lt_of_le_of_lt (le_of_eq (sym (pow-add 2 24 k)))
      (pow-lt {i = 24 + k} {j = 277} (fit (size W) (size-le W 213 W_hi))))
    where
      fit : (s : ℕ) → s ≤ 213 → 24 + (s - 24) < 277
      fit s h = omega arith

  closer_root : (v : ℕ) → Held v → Closer n (Q * 2 ^ k) v
  closer_root v h = go (compare (4 * n) ((2 * q + 1) * 2 ^ k * ((2 * q + 1) * 2 ^ k)))
      (cmp (4 * n) ((2 * q + 1) * 2 ^ k * ((2 * q + 1) * 2 ^ k)))
    where
      go : (o : Ordering) → Cmp o (4 * n) ((2 * q + 1) * 2 ^ k * ((2 * q + 1) * 2 ^ k))
          → Closer n (nearest q o * 2 ^ k) v
      go Ordering.lt c = closer_down n q k v h q_lo low-square c
      go Ordering.eq c = absurd (no_tie u q k held q_lo c)
      go Ordering.gt c = subst (λ (z : ℕ). Closer n (z * 2 ^ k) v) (add-one q)
          (closer_up n q k v h q_lo high_square c)

  root_units_lem : root_units binary32 n ≡ units binary32 false Q k
  unfolding root_units
  root_units_lem = refl

-- ---- the law
zero_root : root_units binary32 0 ≡ units binary32 false 0 0
unfolding root_units
zero_root = refl

closer_zero : (v : ℕ) → Closer 0 0 v
closer_zero v = record { above = λ h. above v h; below = λ h. absurd (not-le_of_lt h zero-le) }
  where
    above : (v : ℕ) → 0 < v → 4 * 0 < (0 + v) * (0 + v)
    above v h = subst (λ (z : ℕ). 0 < z * z) (sym (zero-add v)) (less_square 0 v h)

pub sqrt_nearest : (x : Float) → T (fits binary32 x) → T (rootable x) → NearestRoot x (sqrt binary32 x)
sqrt_nearest x f t = go (dec_le 1 (units_of r))
  where
    r : ℕ
    r = (units_of_lem x f t).0

    of_x_lem : Units x (units_of r)
    of_x_lem = (units_of_lem x f t).2

    under : units_of r < 2 ^ 277
    under = units_mono r top (units_of_lem x f t).1

    positive : 0 < units_of r → NearestRoot x (sqrt binary32 x)
    positive p =
        let u = units_of r in
        let h = pattern_held r in
        let e = sqrt-at x u of_x_lem ∙ root_units_lem u h p under in
        record {
          held = subst (λ (z : Float). T (fits binary32 z)) (sym e)
              (units_fits (Q u h p under) (k u h p under) (Q_hi u h p under));
          u = u;
          w = Q u h p under * 2 ^ k u h p under;
          of_x = of_x_lem;
          of_r =
              subst (λ (z : Float). Units z (Q u h p under * 2 ^ k u h p under)) (sym e)
              (units_val binary32 false (Q u h p under) (k u h p under) (in_range_lem u h p under));
          closer = λ y v g o. closer_root u h p under v
              (subst Held (sym (of_float y v g o).2) (pattern_held (of_float y v g o).0));
        }

    nothing : units_of r ≡ 0 → NearestRoot x (sqrt binary32 x)
    nothing z =
        let o = subst (λ (y : ℕ). Units x y) z of_x_lem in
        let e = sqrt-at x 0 o ∙ zero_root in
        record {
          held = subst (λ (y : Float). T (fits binary32 y)) (sym e) (units_fits 0 0 zero-le);
          u = 0;
          w = 0;
          of_x = o;
          of_r = subst (λ (y : Float). Units y 0) (sym e) (units_val binary32 false 0 0 (lit< tt));
          closer = λ y v g p. closer_zero v;
        }

    none : (u : ℕ) → (1 ≤ u → ⊥) → u ≡ 0
    none u f = omega arith

    go : Dec (1 ≤ units_of r) → NearestRoot x (sqrt binary32 x)
    go (yes p) = positive p
    go (no g) = nothing (none (units_of r) g)

-- ---- the root keeps the order, so that sums may be compared in place of their roots
pub plus_float : (y : Float) (v : ℕ) → T (fits binary32 y) → Units y v
    → (to_bits binary32 y < 2 ^ 31) × (v ≡ units_of (to_bits binary32 y))
plus_float (fin true m e) v f u = absurd (subst T u.0 tt)
plus_float (fin false m e) v f u =
    let b = to_bits binary32 (fin false m e) in
    let p = of_bits-to_bits binary32 (fin false m e) f in
    let d : T (not (is_nan (of_bits binary32 b))) =
    subst (λ (z : Float). T (not (is_nan z))) (sym p) (fin_no_nan false m e) in
    let w : Reads (fin false m e) (leb (2 ^ 31) b) (b % 2 ^ 31) =
    subst (λ (z : Float). Reads z (leb (2 ^ 31) b) (b % 2 ^ 31)) p (reads b d) in
    let l : b < 2 ^ 31 = leb-false (2 ^ 31) b (sym w.1) in (
      l,
      eq_of_mul-eq-mul_right (down e) (down_pos e) v (units_of (b % 2 ^ 31)) (sym u.1 ∙ w.0.1)
          ∙ ap units_of (mod-eq_of_lt l),
    )
plus_float lib.Ieee.nan v f u = elim u [ ]
plus_float (inf _) v f u = elim u [ ]

units_le : (r q : ℕ) → r ≤ q → units_of r ≤ units_of q
units_le r q h = elim (eq-or-lt_of_le h) [ inl e ↦ le_of_eq (ap units_of e) | inr l ↦ le_of_lt (units_mono r q l) ]

pub sqrt_mono : (x y : Float) → T (fits binary32 x) → T (fits binary32 y) → T (rootable x) → T (rootable y)
    → to_bits binary32 x ≤ to_bits binary32 y → to_bits binary32 (sqrt binary32 x) ≤ to_bits binary32 (sqrt binary32 y)
sqrt_mono x y f g s t h = elim (dec_le bx by) [ yes l ↦ l | no n ↦ absurd (crossed (lt_of_not-le n)) ]
  where
    A : NearestRoot x (sqrt binary32 x)
    A = sqrt_nearest x f s

    B : NearestRoot y (sqrt binary32 y)
    B = sqrt_nearest y g t

    bx : ℕ
    bx = to_bits binary32 (sqrt binary32 x)

    by : ℕ
    by = to_bits binary32 (sqrt binary32 y)

    -- the radicands are in order
    rise : A.u * 2 ^ 149 ≤ B.u * 2 ^ 149
    rise =
        mul-le-mul_right (2 ^ 149)
        (le_trans (le_of_eq (plus_float x A.u f A.of_x).1)
        (le_trans (units_le (to_bits binary32 x) (to_bits binary32 y) h)
        (le_of_eq (sym (plus_float y B.u g B.of_x).1))))

    -- roots the other way round would each be nearer than itself
    crossed : by < bx → ⊥
    crossed l =
        let w : B.w < A.w =
        lt_of_le_of_lt (le_of_eq (plus_float (sqrt binary32 y) B.w B.held B.of_r).1)
        (lt_of_lt_of_le (units_mono by bx l)
        (le_of_eq (sym (plus_float (sqrt binary32 x) A.w A.held A.of_r).1))) in
        let p = (A.closer (sqrt binary32 y) B.w B.held B.of_r).below w in
        let q = (B.closer (sqrt binary32 x) A.w A.held A.of_r).above w in
        lt_irrefl (4 * (A.u * 2 ^ 149))
        (lt_of_le_of_lt (mul-le-mul_left 4 rise)
        (lt_of_lt_of_le q (le_trans (le_of_eq (ap (λ (z : ℕ). z * z) (add_comm B.w A.w))) (le_of_lt p))))
