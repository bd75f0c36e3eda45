-- Laws of 1 + b + .. + bⁿ: how the next comes of the last, and that it grows with n and with b; so what fits and what lives is within the total.
-- Assumes nothing.
use Prim.Native.Nat.{ℕ, zero, suc, min, ◌+◌, ◌-◌, ◌*◌, ◌^◌, ◌≤◌, ◌<◌}
use mathlib.Core.Path.{◌≡◌, refl, sym, ap, ◌∙◌}
use mathlib.Core.Bool.{Bool, true, false, cond}
use native.Mathlib.Omega.{arith}
use native.Mathlib.Nat.{pow-zero, pow-suc, add-mul, one-mul, pow-le-pow_left, mul-le-mul_right}
use lib.Dec.{leb}
use borrow.Author.Tests.{le-leb, lt-leb}
use Rattle.spec_count.specs.Closed.{geometric, total_of, fitting_of}

-- each step multiplies what is there and adds one
pub sum-next : (b n : ℕ) → geometric b (suc n) ≡ geometric b n * b + 1
unfolding geometric
sum-next b zero = omega (arith, pow-suc b 0, ap (λ (k : ℕ). k * b) (pow-zero b), one-mul b)
sum-next b (suc n) = omega (arith, sum-next b n, add-mul (geometric b n) (b ^ suc n) b, pow-suc b (suc n))

pub sum_positive : (b n : ℕ) → 1 ≤ geometric b n
unfolding geometric
sum_positive b zero = omega arith
sum_positive b (suc n) = omega (arith, sum_positive b n)

-- the last power is within it
pub power_within : (b n : ℕ) → b ^ n ≤ geometric b n
unfolding geometric
power_within b zero = omega (arith, pow-zero b)
power_within b (suc n) = omega arith

pub sum_grows : (b n k : ℕ) → n ≤ k → geometric b n ≤ geometric b k
unfolding geometric
sum_grows b zero k h = sum_positive b k
sum_grows b (suc n) zero h = absurd (omega arith)
sum_grows b (suc n) (suc k) h = omega (arith, sum-next b n, sum-next b k, mul-le-mul_right b (sum_grows b n k (omega arith)))

pub sum_wider : (b c n : ℕ) → b ≤ c → geometric b n ≤ geometric c n
unfolding geometric
sum_wider b c zero h = omega arith
sum_wider b c (suc n) h = omega (arith, sum_wider b c n h, pow-le-pow_left h (suc n))

-- ---- what fits, within the total

-- lists of 1 to r nodes are among those of any number
listed_within : (b n r : ℕ) → geometric b (min n r) - 1 ≤ geometric b n
listed_within b n r = omega (arith, sum_grows b (min n r) n (omega arith))

module _ (s r b k n : ℕ) (few : s ≤ k) where
  -- the sum that the code makes of as many lists as shards
  pub fit-sum : geometric (geometric b (min n r) - 1) s ≤ total_of b k n
  unfolding total_of
  fit-sum =
      omega
      (arith, sum_wider (geometric b (min n r) - 1) (geometric b n) s (listed_within b n r), sum_grows (geometric b n) s k few)

  pub fit_power : fitting_of s r b k n ≡ (geometric b (min n r) - 1) ^ s
  unfolding fitting_of
  fit_power = rw (le-leb s k few)

pub fit_none : (s r b k n : ℕ) → k < s → fitting_of s r b k n ≡ 0
unfolding fitting_of
fit_none s r b k n h = rw (lt-leb s k h)

pub fit-within : (s r b k n : ℕ) → s ≤ k → fitting_of s r b k n ≤ total_of b k n
fit-within s r b k n h =
    omega (arith, fit_power s r b k n h, power_within (geometric b (min n r) - 1) s, fit-sum s r b k n h)

-- over fewer ids no more fit, and there are no more
pub fit_fewer : (s r a b k n : ℕ) → a ≤ b → s ≤ k → fitting_of s r a k n ≤ fitting_of s r b k n
fit_fewer s r a b k n h few =
    let w : geometric a (min n r) - 1 ≤ geometric b (min n r) - 1 = omega (arith, sum_wider a b (min n r) h) in
    omega (arith, fit_power s r a k n few, fit_power s r b k n few, pow-le-pow_left w s)

pub total_fewer : (a b k n : ℕ) → a ≤ b → total_of a k n ≤ total_of b k n
unfolding total_of
total_fewer a b k n h = sum_wider (geometric a n) (geometric b n) k (sum_wider a b n h)

most : geometric 4 8 ≡ 87381
unfolding geometric
most = refl

-- what a request can have: no more lists than 4 ids and 8 nodes make
pub few_lists : (b n : ℕ) → b ≤ 4 → n ≤ 8 → geometric b n ≤ 87381
few_lists b n h k = omega (arith, sum_wider b 4 n h, sum_grows 4 n 8 k, most)
