-- Laws of one step of a sum within 64 bits. Assumes nothing.
use Prim.Native.Nat.{ℕ, suc, min, ◌+◌, ◌-◌, ◌*◌, ◌/◌, ◌^◌, ◌≤◌, ◌<◌}
use mathlib.Core.Path.{◌≡◌, refl, sym, ap, ◌∙◌}
use mathlib.Core.Bool.{Bool, true, false}
use native.Mathlib.Numerals.{add-one}
use native.Mathlib.Omega.{arith}
use native.Mathlib.Nat.{le-div_iff_mul-le, div-lt_iff_lt-mul, mul-zero}
use lib.Dec.{leb}
use borrow.Author.Tests.{le-leb, lt-leb, leb-true, leb-false}
use Rattle.spec.specs.Limits.{max_u64}
use Rattle.spec_count.specs.Closed.{geometric, total_of, fitting_of}
use Rattle.image_map_count.specs.Read.{SumAs}
use Rattle.image_map_count.specs.declared.Summed.{Summed}
use Rattle.spec_count.proofs.Sums.{sum-next, sum_grows, sum_positive, fit-sum, fit_power}

-- a step over 0 makes 1
pub step_zero : (sum base : ℕ) → base ≡ 0 → true ≡ leb (sum * base + 1) max_u64
step_zero sum base e = sym (le-leb (sum * base + 1) max_u64 (omega (arith, ap (λ (k : ℕ). sum * k) e, mul-zero sum)))

-- else it fits if the sum is no more than what is left, divided
pub step_fits : (sum base : ℕ) → (base ≡ 0 → ⊥) → leb sum (18446744073709551614 / base) ≡ leb (sum * base + 1) max_u64
step_fits sum base ne = go (leb (sum * base) 18446744073709551614) refl
  where
    go : (b : Bool) → leb (sum * base) 18446744073709551614 ≡ b → leb sum (18446744073709551614 / base) ≡ leb (sum * base + 1) max_u64
    go true e =
        let h : sum * base ≤ 18446744073709551614 = leb-true (sum * base) 18446744073709551614 e in
        le-leb sum (18446744073709551614 / base) ((le-div_iff_mul-le {k = base} {x = sum} {y = 18446744073709551614} (omega arith)).1 h)
        ∙ sym (le-leb (sum * base + 1) max_u64 (omega arith))
    go false e =
        let h : 18446744073709551614 < sum * base = leb-false (sum * base) 18446744073709551614 e in
        lt-leb sum (18446744073709551614 / base) ((div-lt_iff_lt-mul {k = base} {x = 18446744073709551614} {y = sum} (omega arith)).1 h)
        ∙ sym (lt-leb (sum * base + 1) max_u64 (omega arith))

-- the loop: what is summed so far, and what the next step makes of it
module _ (b i sum : ℕ) (is : sum ≡ geometric b i) where
  pub next-sum : sum * b + 1 ≡ geometric b (i + 1)
  next-sum = ap (λ (k : ℕ). k * b + 1) is ∙ sym (ap (geometric b) (add-one i) ∙ sum-next b i)

  -- the last term is what was added
  pub next_last : sum * b + 1 - sum ≡ b ^ (i + 1)
  unfolding geometric
  next_last = omega (arith, is, ap (λ (k : ℕ). k * b) is, sum-next b i, ap (λ (k : ℕ). b ^ k) (add-one i))

  pub sum-rises : sum ≤ sum * b + 1
  sum-rises = omega (arith, is, ap (λ (k : ℕ). k * b) is, sum-next b i, sum_grows b i (suc i) (omega arith))

  -- a sum beyond stays beyond
  pub summed_beyond : (n : ℕ) → i < n → leb (sum * b + 1) max_u64 ≡ false → SumAs b n (record { fits = false; sum = 0; last = 0 })
  summed_beyond n h e = record {
    fits =
        sym
        (lt-leb (geometric b n) max_u64
        (omega (arith, ap (λ (k : ℕ). k * b) is, leb-false (sum * b + 1) max_u64 e, sum-next b i, sum_grows b (suc i) n h)));
    sum = λ f. let z : ◌≡◌ {A = ℕ} 0 1 = cc in absurd (omega arith);
    last = λ f. let z : ◌≡◌ {A = ℕ} 0 1 = cc in absurd (omega arith);
  }

pub summed : (b n sum last : ℕ) → sum ≡ geometric b n → last ≡ b ^ n → sum ≤ max_u64 → SumAs b n (record { fits = true; sum = sum; last = last })
summed b n sum last e f h = record { fits = sym (le-leb (geometric b n) max_u64 (omega (arith, e, h))); sum = λ t. e; last = λ t. f }

-- ---- what fits

module _ (b s r k n most : ℕ) (is : most ≡ min n r) (x : Summed) (sums : SumAs b most x) (few : geometric b n ≤ max_u64) where
  -- lists of 1 to r nodes: one less than of 0 to r
  listed : x.sum ≡ geometric b (min n r)
  listed =
      sums.sum (sums.fits ∙ le-leb (geometric b most) max_u64 (omega (arith, few, sum_grows b most n (omega arith))))
      ∙ ap (geometric b) is

  pub listed_some : 1 ≤ x.sum
  listed_some = omega (arith, listed, sum_positive b (min n r))

  -- as many of them as shards
  pub fitted : (y : Summed) → SumAs (x.sum - 1) s y → s ≤ k → total_of b k n ≤ max_u64 → y.last ≡ fitting_of s r b k n
  fitted y more h whole =
      let e = ap (λ (z : ℕ). z - 1) listed in
      more.last
      (more.fits
      ∙ le-leb (geometric (x.sum - 1) s) max_u64 (omega (arith, whole, fit-sum s r b k n h, ap (λ (z : ℕ). geometric z s) e)))
      ∙ ap (λ (z : ℕ). z ^ s) e
      ∙ sym (fit_power s r b k n h)
