-- The arithmetic of settling a whole root from any guess, and the sizes of the guess's terms. Assumes nothing.
use Rattle.std.proofs.Common.{◌≡◌, ℕ, zero, suc, ◌+◌, ◌-◌, ◌*◌, ◌/◌, ◌^◌, ◌<◌, ◌≤◌, ◌⊎◌, sym, ap, ◌∙◌, subst, inl, inr, le_trans, lt_of_lt_of_le, le_of_lt, suc-mul, div-lt_iff_lt-mul, mul-le-mul, eq-or-lt_of_le, mul-le-mul_left, mul-suc, add-one, arith, lit≤}
use Rattle.spec.specs.Nearest.Root.{root}
use Rattle.spec_laws.proofs.Nearest.Root.{IsRoot, root_is, sq_back, below_next}
use Rattle.float_root.specs.Digits.{near_root}
use Rattle.float_root.proofs.Roots.{near_up, near_down}

-- ---- sizes
pub square-fits : (r : ℕ) → r < 2 ^ 26 → r * r ≤ 2 ^ 52
square-fits r h = mul-le-mul (le_of_lt h) (le_of_lt h)

pub product : (m a A : ℕ) → m < 2 ^ 24 → a ≤ A → m * a ≤ 2 ^ 24 * A
product m a A h k = mul-le-mul (le_of_lt h) k

pub quotient_small : (x g : ℕ) → x < 2 ^ 51 → 3000000 ≤ g → x / g < 750599938
quotient_small x g h k =
    (div-lt_iff_lt-mul {k = g} (le_trans (lit≤ tt) k)).1
    (lt_of_lt_of_le h (le_trans (lit≤ {m = 2 ^ 51} {n = 750599938 * 3000000} tt) (mul-le-mul_left 750599938 k)))

pub root_small : (n r : ℕ) → n < 2 ^ 48 → r * r + r < n → r < 2 ^ 24
root_small n r h k = sq_back r (2 ^ 24) (omega arith)

-- ---- a step down
pub step_pos : (n r : ℕ) → 0 < n → n ≤ r * r → 0 < r
step_pos n zero h k = absurd (no n h k)
  where
    no : (n : ℕ) → 0 < n → n ≤ 0 → ⊥
    no n a b = omega arith
step_pos n (suc r) h k = omega arith

pub suc_square : (k : ℕ) → suc k * suc k ≡ k * k + 2 * k + 1
suc_square k = suc-mul k (suc k) ∙ ap (λ (x : ℕ). x + suc k) (mul-suc k k) ∙ tidy (k * k)
  where
    tidy : (s : ℕ) → s + k + suc k ≡ s + 2 * k + 1
    tidy s = omega arith

next-square : (k : ℕ) → (k + 1) * (k + 1) ≡ k * k + 2 * k + 1
next-square k = ap (λ (x : ℕ). x * x) (add-one k) ∙ suc_square k

pub step_down_lem : (n r : ℕ) → n + r ≤ r * r → n ≤ (r - 1) * (r - 1) + (r - 1)
step_down_lem n zero k = omega arith
step_down_lem n (suc r) k = subst (λ (x : ℕ). n ≤ x * x + x) (sym less) (omega (arith, suc_square r))
  where
    less : suc r - 1 ≡ r
    less = omega arith

-- ---- what is settled is the nearest
root_high : (n r R : ℕ) → n < (R + 1) * (R + 1) → r * r < n + r → r ≤ R + 1
root_high n zero R top down = omega arith
root_high n (suc k) R top down = one_up (below_next k R (sq_back k (R + 1) (omega (arith, suc_square k))))
  where
    one_up : k ≤ R → suc k ≤ R + 1
    one_up h = omega arith

pub near-is : (n r : ℕ) → n ≤ r * r + r → r * r < n + r → near_root n ≡ r
near-is n r up down = go (eq-or-lt_of_le (below_next (root n) r (sq_back (root n) (r + 1) low)))
  where
    is : IsRoot n (root n)
    is = root_is n

    low : root n * root n < (r + 1) * (r + 1)
    low = omega (arith, next-square r, (root_is n).0)

    here : (R : ℕ) → R ≡ r → n - R * R ≤ R
    here R e = subst (λ (x : ℕ). n - x * x ≤ x) (sym e) (omega arith)

    over : (R : ℕ) → r ≡ R + 1 → R < n - R * R
    over R e = let h : (R + 1) * (R + 1) < n + (R + 1) = subst (λ (x : ℕ). x * x < n + x) e down in
        omega (arith, next-square R)

    go : (root n ≡ r) ⊎ (root n < r) → near_root n ≡ r
    go (inl e) = near_down n (root n) is (here (root n) e) ∙ e
    go (inr l) =
        let e : r ≡ root n + 1 = omega (arith, root_high n r (root n) is.1 down) in
        near_up n (root n) is (over (root n) e) ∙ sym e
