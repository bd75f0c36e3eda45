-- The whole number nearest a root, and the float root as that of a number of 47 or 48 digits. Assumes nothing.
use Rattle.std.proofs.Common.{◌≡◌, ℕ, suc, ◌+◌, ◌-◌, ◌*◌, ◌/◌, ◌^◌, ◌<◌, ◌≤◌, false, T, sym, refl, ap, ◌∙◌, subst, le_trans, le_of_eq, lt_of_lt_of_le, lt_of_le_of_lt, lt_irrefl, mul-le-mul_right, mul_assoc, le_antisymm, suc-add, mul-lt-mul_of_pos_right, mul-pos, lt_of_not-le, add-one, arith, pow_pos, pow_mono, pow-add}
use Prim.Native.Nat.{compare, Ordering}
use native.Mathlib.Nat.{mul-mul-mul_comm}
use native.Mathlib.Nat.{div-eq_of_lt-le, add-sub_cancel_left}
use lib.Dec.{compare_is_eq, eqb_refl}
use lib.Ieee.{Float, binary32, size, nearest, units}
use lib.Ieee.Digits.{size-lt, size-le}
use Rattle.spec.specs.Nearest.Root.{root, root_units}
use Rattle.spec_laws.proofs.Nearest.Root.{IsRoot, root_is, root_unique, sq_back, compare_lt, compare_gt, cmp, Cmp}
use Rattle.spec_laws.proofs.Nearest.Root.{half_sq, below_next}
use Rattle.float_root.specs.Digits.{near_root}

pub near_up : (n r : ℕ) → IsRoot n r → r < n - r * r → near_root n ≡ r + 1
unfolding near_root
near_up n r p h =
    ap (λ (x : ℕ). nearest x (compare (4 * n) ((2 * x + 1) * (2 * x + 1)))) (root_unique n (root n) r (root_is n) p)
    ∙ ap (λ (o : Ordering). nearest r o)
    (compare_gt (4 * n) ((2 * r + 1) * (2 * r + 1))
    (subst (λ (x : ℕ). x < 4 * n) (sym (half_sq r)) (fit (r * r) h)))
    ∙ sym (add-one r)
  where
    fit : (s : ℕ) → r < n - s → 4 * s + 4 * r + 1 < 4 * n
    fit s k = omega arith

pub near_down : (n r : ℕ) → IsRoot n r → n - r * r ≤ r → near_root n ≡ r
unfolding near_root
near_down n r p h =
    ap (λ (x : ℕ). nearest x (compare (4 * n) ((2 * x + 1) * (2 * x + 1)))) (root_unique n (root n) r (root_is n) p)
    ∙ ap (λ (o : Ordering). nearest r o)
    (compare_lt (4 * n) ((2 * r + 1) * (2 * r + 1))
    (subst (λ (x : ℕ). 4 * n < x) (sym (half_sq r)) (fit (r * r) p.0 h)))
  where
    fit : (s : ℕ) → s ≤ n → n - s ≤ r → 4 * n < 4 * s + 4 * r + 1
    fit s g k = omega arith

-- ---- n = N * 4 ^ K
size_exact : (a n : ℕ) → 2 ^ a ≤ n → n < 2 ^ suc a → size n ≡ suc a
size_exact a n lo hi = le_antisymm (size-le n (suc a) hi)
    (lt_of_not-le (λ (g : size n ≤ a). lt_irrefl (2 ^ a)
    (lt_of_le_of_lt lo (lt_of_lt_of_le (size-lt n) (pow_mono g)))))

-- the root of N * p * p, over p, is that of N
root_scale : (N p : ℕ) → (root N * p ≤ root (N * (p * p))) × (0 < p → root (N * (p * p)) < (root N + 1) * p)
root_scale N p =
    let R = root N in
    let W = root (N * (p * p)) in
    let a = root_is N in
    let b = root_is (N * (p * p)) in (
      below_next (R * p) W (sq_back (R * p) (W + 1)
          (lt_of_le_of_lt (le_trans (le_of_eq (mul-mul-mul_comm R p R p)) (mul-le-mul_right (p * p) a.0)) b.1)),
      (λ P. sq_back W ((R + 1) * p)
          (lt_of_le_of_lt b.0 (lt_of_lt_of_le (mul-lt-mul_of_pos_right a.1 (mul-pos P P))
          (le_of_eq (mul-mul-mul_comm (R + 1) (R + 1) p p))))),
    )

-- a root of 24 digits
pub root_24 : (N : ℕ) → 2 ^ 46 ≤ N → N < 2 ^ 48 → (2 ^ 23 ≤ root N) × (root N < 2 ^ 24)
root_24 N lo hi = (
  below_next (2 ^ 23) (root N) (sq_back (2 ^ 23) (root N + 1) (lt_of_le_of_lt lo (root_is N).1)),
  sq_back (root N) (2 ^ 24) (lt_of_le_of_lt (root_is N).0 hi),
)

compare_scale : (a b c : ℕ) → 0 < c → compare (a * c) (b * c) ≡ compare a b
compare_scale a b c C = go (compare a b) (cmp a b) refl
  where
    go : (o : Ordering) → Cmp o a b → compare a b ≡ o → compare (a * c) (b * c) ≡ compare a b
    go Ordering.lt k e = compare_lt (a * c) (b * c) (mul-lt-mul_of_pos_right k C) ∙ sym e
    go Ordering.eq k e = ap (λ (x : ℕ). compare (x * c) (b * c)) k ∙ ap (λ (o : Ordering). o) (compare_same (b * c))
        ∙ sym e
      where
        compare_same : (x : ℕ) → compare x x ≡ Ordering.eq
        compare_same x = same (compare x x) (eqb_refl x)
          where
            same : (o : Ordering) → T (compare_is_eq o) → o ≡ Ordering.eq
            same Ordering.eq t = refl
            same Ordering.lt t = absurd t
            same Ordering.gt t = absurd t
    go Ordering.gt k e = compare_gt (a * c) (b * c) (mul-lt-mul_of_pos_right k C) ∙ sym e

-- n = N * 4 ^ K, for an N of 47 or 48 digits: the format's 24 digits are those of N's root, and K are dropped
pub root_units_lem : (N K : ℕ) → 2 ^ 46 ≤ N → N < 2 ^ 48 → root_units binary32 (N * (2 ^ K * 2 ^ K)) ≡ units binary32 false
    (near_root N) K
unfolding root_units near_root
root_units_lem N K lo hi =
    let p = 2 ^ K in
    let n = N * (p * p) in
    let W = root n in
    let R = root N in
    let r24 = root_24 N lo hi in
    let sc = root_scale N p in
    let w-lo : 2 ^ (23 + K) ≤ W =
    le_trans (le_of_eq (pow-add 2 23 K)) (le_trans (mul-le-mul_right p r24.0) sc.0) in
    let w-hi : W < 2 ^ (24 + K) =
    lt_of_lt_of_le (sc.1 (pow_pos K))
    (le_trans (mul-le-mul_right p (next R (2 ^ 24) r24.1)) (le_of_eq (sym (pow-add 2 24 K)))) in
    let kk : size W - 24 ≡ K =
    ap (λ (x : ℕ). x - 24) (size_exact (23 + K) W w-lo (subst (λ (x : ℕ). W < 2 ^ x) (suc-add 23 K) w-hi)
    ∙ sym (suc-add 23 K)) ∙ add-sub_cancel_left 24 K in
    let qq : W / p ≡ R = div-eq_of_lt-le p sc.0 (sc.1 (pow_pos K)) in
    let whole : ℕ → ℕ → Float =
    λ k q. units binary32 false (nearest q (compare (4 * n) ((2 * q + 1) * 2 ^ k * ((2 * q + 1) * 2 ^ k)))) k in
    let cc' : compare (4 * n) ((2 * R + 1) * p * ((2 * R + 1) * p)) ≡ compare (4 * N) ((2 * R + 1) * (2 * R + 1)) =
    ap (λ (x : ℕ). compare x ((2 * R + 1) * p * ((2 * R + 1) * p))) (sym (mul_assoc 4 N (p * p)))
    ∙ ap (λ (x : ℕ). compare (4 * N * (p * p)) x) (mul-mul-mul_comm (2 * R + 1) p (2 * R + 1) p)
    ∙ compare_scale (4 * N) ((2 * R + 1) * (2 * R + 1)) (p * p) (mul-pos (pow_pos K) (pow_pos K)) in
    ap (λ (k : ℕ). whole k (W / 2 ^ k)) kk
    ∙ ap (λ (q : ℕ). whole K q) qq
    ∙ ap (λ (o : Ordering). units binary32 false (nearest R o) K) cc'
  where
    next : (r w : ℕ) → r < w → r + 1 ≤ w
    next r w h = omega arith
