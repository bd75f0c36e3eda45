-- From a pattern to its value and back, and the float root of a pattern by the whole-number root. Assumes nothing.
use Rattle.std.proofs.Common.{◌≡◌, ℕ, zero, suc, ◌+◌, ◌-◌, ◌*◌, ◌/◌, ◌%◌, ◌^◌, ◌<◌, ◌≤◌, Bool, true, false, cond, not, T, eqb, leb, sym, refl, ap, ◌∙◌, subst, le_trans, le_of_eq, lt_of_lt_of_le, lt_of_le_of_lt, le_of_lt, lt_irrefl, mul-le-mul_right, mod-eq_of_lt, mul-le-mul, le_antisymm, suc-add, lt_of_not-le, zero-add, mul-one, mul-div_cancel, arith, pow_pos, pow_mono, pow-add, shl_lt}
use native.Mathlib.Nat.{add-sub_cancel_left}
use native.Mathlib.Decide.{dec_le}
use lib.Dec.{nleb→lt, eqb_refl}
use lib.Ieee.{Float, nan, inf, fin, binary32, down, size, odd, units, fits, is_nan, of_fields, of_bits, to_bits, nan_bits}
use lib.Ieee.Digits.{size-lt, size-le}
use lib.Ieee.Fits.{down_pos}
use lib.Ieee.Exact.{HasValue, odd_sign, units_val}
use lib.Ieee.Bits.{of_bits-to_bits, nan_bits_is}
use Rattle.spec.specs.Nearest.Order.{units_at, units_of}
use Rattle.spec.specs.Nearest.Root.{root, root_units, sqrt, rootable}
use Rattle.spec_laws.proofs.Nearest.Patterns.{of_bits_is}
use Rattle.spec_laws.proofs.Nearest.Tests.{not_of}
use Rattle.spec_laws.proofs.Nearest.Root.{root_is}
use Rattle.spec_laws.proofs.Nearest.Exact.{sqrt-at, units_fits}
use Rattle.float_root.specs.Digits.{near_root, IsNormal, Radicand}
use Rattle.float_root.proofs.Roots.{root_24, near_up, near_down, root_units_lem}

pub no_nan : (x : Float) → T (rootable x) → T (not (is_nan x))
unfolding is_nan
no_nan (fin s m e) t = tt
no_nan nan t = elim t [ ]
no_nan (inf _) t = elim t [ ]

-- ---- what is read from a pattern
sign-is : (v : Float) (s : Bool) (a c : ℕ) → T (rootable v) → HasValue v s a c → s ≡ false
sign-is (fin true m e) s a c t h = absurd t
sign-is (fin false m e) s a c t h = sym h.0
sign-is nan s a c t h = elim t [ ]
sign-is (inf _) s a c t h = elim t [ ]

record Read (v : Float) (s : Bool) (e u : ℕ) : Type 0 where
  plus : s ≡ false
  finite : e ≡ 255 → ⊥
  value : HasValue v false u (2 ^ 149)

read_odd : (s : Bool) (e q k u : ℕ) → q * 2 ^ k ≡ u → (e ≡ 255 → ⊥) → T (rootable (odd 24 s q k 149))
    → Read (odd 24 s q k 149) s e u
read_odd s e q k u p n t =
    let h = odd_sign 24 s q k 149 in
    let z : s ≡ false = sign-is (odd 24 s q k 149) s (q * 2 ^ k) (2 ^ 149) t h in
    record {
      plus = z;
      finite = n;
      value = subst (λ (y : ℕ). HasValue (odd 24 s q k 149) false y (2 ^ 149)) p
          (subst (λ (b : Bool). HasValue (odd 24 s q k 149) b (q * 2 ^ k) (2 ^ 149)) z h);
    }

read_fields : (s : Bool) (e t : ℕ) → T (rootable (of_fields binary32 s e t)) → Read (of_fields binary32 s e t) s e
    (units_at e t)
unfolding of_fields
read_fields s zero t r = read_odd s zero t 0 t (mul-one t) (λ e. zero_255 e) r
  where
    zero_255 : ◌≡◌ {A = ℕ} 0 255 → ⊥
    zero_255 e = omega arith
read_fields s (suc x) t r = go (eqb (suc x) 255) (λ e. subst (λ (y : ℕ). T (eqb (suc x) y)) e (eqb_refl (suc x))) r
  where
    none : (b : Bool) → T (rootable (cond b (inf s) nan)) → ⊥
    none true z = z
    none false z = z

    go : (b : Bool) → (suc x ≡ 255 → T b)
        → T (rootable (cond b (cond (eqb t 0) (inf s) nan) (odd 24 s (2 ^ 23 + t) x 149)))
        → Read (cond b (cond (eqb t 0) (inf s) nan) (odd 24 s (2 ^ 23 + t) x 149)) s (suc x) ((2 ^ 23 + t) * 2 ^ x)
    go true n z = absurd (none (eqb t 0) z)
    go false n z = read_odd s (suc x) (2 ^ 23 + t) x ((2 ^ 23 + t) * 2 ^ x) refl (λ e. n e) z

pub record Pattern (x : Float) (b : ℕ) : Type 0 where
  pub under : b < 2139095040
  pub value : HasValue x false (units_of b) (2 ^ 149)

pub pattern : (x : Float) → T (fits binary32 x) → T (rootable x) → Pattern x (to_bits binary32 x)
pattern x f t =
    let b = to_bits binary32 x in
    let is : of_fields binary32 (leb (2 ^ 31) b) (b % 2 ^ 31 / 2 ^ 23) (b % 2 ^ 23) ≡ x = sym (of_bits_is b)
    ∙ of_bits-to_bits binary32 x f in
    let r = read_fields (leb (2 ^ 31) b) (b % 2 ^ 31 / 2 ^ 23) (b % 2 ^ 23)
    (subst (λ (v : Float). T (rootable v)) (sym is) t) in
    let small : b < 2 ^ 31 = nleb→lt (2 ^ 31) b (not_of (leb (2 ^ 31) b) r.plus) in
    let same : b % 2 ^ 31 ≡ b = mod-eq_of_lt small in
    let v : HasValue x false (units_at (b % 2 ^ 31 / 2 ^ 23) (b % 2 ^ 23)) (2 ^ 149) =
    subst (λ (y : Float). HasValue y false (units_at (b % 2 ^ 31 / 2 ^ 23) (b % 2 ^ 23)) (2 ^ 149)) is r.value
    in
    record {
      under = bound b small (λ e. r.finite (ap (λ (y : ℕ). y / 2 ^ 23) same ∙ e));
      value =
          subst (λ (y : ℕ). HasValue x false (units_at (y / 2 ^ 23) (b % 2 ^ 23)) (2 ^ 149)) same v;
    }
  where
    bound : (b : ℕ) → b < 2 ^ 31 → (b / 2 ^ 23 ≡ 255 → ⊥) → b < 2139095040
    bound b h n = omega arith

-- ---- 24 digits stay 24 digits
pub near_24 : (N : ℕ) → 2 ^ 46 ≤ N → N + 2 ^ 24 ≤ 2 ^ 48 → (2 ^ 23 ≤ near_root N) × (near_root N < 2 ^ 24)
near_24 N lo hi = go (dec_le (N - R * R) R)
  where
    R : ℕ
    R = root N

    less : N < 2 ^ 48
    less = omega arith

    r24 : (2 ^ 23 ≤ R) × (R < 2 ^ 24)
    r24 = root_24 N lo less

    not_top : (s : ℕ) → R < N - s → (2 ^ 24 - 1 ≤ R → (2 ^ 24 - 1) * (2 ^ 24 - 1) ≤ s) → R + 1 < 2 ^ 24
    not_top s h k = elim (dec_le (2 ^ 24 - 1) R) [ yes g ↦ absurd (clash g (k g)) | no g ↦ fine (lt_of_not-le g) ]
      where
        clash : 2 ^ 24 - 1 ≤ R → (2 ^ 24 - 1) * (2 ^ 24 - 1) ≤ s → ⊥
        clash a b = omega arith

        fine : R < 2 ^ 24 - 1 → R + 1 < 2 ^ 24
        fine a = omega arith

    go : Dec (N - R * R ≤ R) → (2 ^ 23 ≤ near_root N) × (near_root N < 2 ^ 24)
    go (yes h) = subst (λ (q : ℕ). (2 ^ 23 ≤ q) × (q < 2 ^ 24)) (sym (near_down N R (root_is N) h)) r24
    go (no h) =
        let g : R < N - R * R = lt_of_not-le h in
        subst (λ (q : ℕ). (2 ^ 23 ≤ q) × (q < 2 ^ 24)) (sym (near_up N R (root_is N) g))
        (le_trans r24.0 (more R), not_top (R * R) g (λ k. mul-le-mul k k))
      where
        more : (r : ℕ) → r ≤ r + 1
        more r = omega arith

-- ---- q * 2 ^ K units, as bits
size_exact : (a n : ℕ) → 2 ^ a ≤ n → n < 2 ^ suc a → size n ≡ suc a
size_exact a n lo hi = le_antisymm (size-le n (suc a) hi)
    (lt_of_not-le (λ (g : size n ≤ a). lt_irrefl (2 ^ a)
    (lt_of_le_of_lt lo (lt_of_lt_of_le (size-lt n) (pow_mono g)))))

to_bits_value : (v : Float) (a : ℕ) → HasValue v false a (2 ^ 149)
    → to_bits binary32 v ≡ (size a - 24) * 2 ^ 23 + a / 2 ^ (size a - 24)
unfolding to_bits
to_bits_value (fin true m e) a h = absurd (subst T h.0 tt)
to_bits_value (fin false m e) a h =
    ap (λ (n : ℕ). 0 + (size n - 24) * 2 ^ 23 + n / 2 ^ (size n - 24)) (ap (λ (y : ℕ). y / down e) h.1
    ∙ mul-div_cancel a (down_pos e))
    ∙ ap (λ (y : ℕ). y + a / 2 ^ (size a - 24)) (zero-add ((size a - 24) * 2 ^ 23))
to_bits_value nan a h = elim h [ ]
to_bits_value (inf _) a h = elim h [ ]

value_no_nan : (v : Float) (a c : ℕ) → HasValue v false a c → is_nan v ≡ false
unfolding is_nan
value_no_nan (fin s m e) a c h = refl
value_no_nan nan a c h = elim h [ ]
value_no_nan (inf _) a c h = elim h [ ]

pub record Written (q K : ℕ) : Type 0 where
  pub float : of_bits binary32 (K * 8388608 + q) ≡ units binary32 false q K
  pub number : T (not (nan_bits binary32 (K * 8388608 + q)))

pub written : (q K : ℕ) → 2 ^ 23 ≤ q → q < 2 ^ 24 → K ≤ 253 → Written q K
written q K lo hi k =
    let v = units binary32 false q K in
    let a = q * 2 ^ K in
    let a-hi : a < 2 ^ (24 + K) = shl_lt 24 K hi in
    let a-lo : 2 ^ (23 + K) ≤ a = le_trans (le_of_eq (pow-add 2 23 K)) (mul-le-mul_right (2 ^ K) lo) in
    let h : HasValue v false a (2 ^ 149) =
    units_val binary32 false q K (lt_of_lt_of_le a-hi (pow_mono {i = 24 + K} {j = 277} (omega arith))) in
    let kk : size a - 24 ≡ K =
    ap (λ (x : ℕ). x - 24) (size_exact (23 + K) a a-lo (subst (λ (x : ℕ). a < 2 ^ x) (suc-add 23 K) a-hi)
    ∙ sym (suc-add 23 K)) ∙ add-sub_cancel_left 24 K in
    let bits : to_bits binary32 v ≡ K * 8388608 + q =
    to_bits_value v a h ∙ ap (λ (x : ℕ). x * 2 ^ 23 + a / 2 ^ x) kk
    ∙ ap (λ (x : ℕ). K * 2 ^ 23 + x) (mul-div_cancel q (pow_pos K)) in
    let is : of_bits binary32 (K * 8388608 + q) ≡ v = ap (of_bits binary32) (sym bits)
    ∙ of_bits-to_bits binary32 v (units_fits q K (le_of_lt hi)) in
    record {
      float = is;
      number =
          subst (λ (b : Bool). T (not b))
          (sym (nan_bits_is binary32 (K * 8388608 + q) ∙ ap is_nan is ∙ value_no_nan v a (2 ^ 149) h)) tt;
    }

-- ---- the whole way
pub sqrt-whole : (x : Float) (u m j N : ℕ) → HasValue x false u (2 ^ 149) → IsNormal u m j → Radicand m j N
    → sqrt binary32 x ≡ units binary32 false (near_root N) (j / 2 - 1)
sqrt-whole x u m j N h a b =
    sqrt-at x u h
    ∙ ap (root_units binary32) (sym (b.value ∙ a.value))
    ∙ root_units_lem N (j / 2 - 1) b.lo (under N b.hi)
  where
    under : (N : ℕ) → N + 2 ^ 24 ≤ 2 ^ 48 → N < 2 ^ 48
    under N h = omega arith

zero_is : of_bits binary32 0 ≡ sqrt binary32 (of_bits binary32 0)
unfolding of_bits sqrt
zero_is = refl

pub zero_root : (x : Float) → T (fits binary32 x) → to_bits binary32 x ≡ 0 → x ≡ sqrt binary32 x
zero_root x f h = subst (λ (y : Float). y ≡ sqrt binary32 y) (ap (of_bits binary32) (sym h)
    ∙ of_bits-to_bits binary32 x f) zero_is
