-- A pattern's value with 24 digits, and the number whose root is taken. Assumes nothing.
use Rattle.std.proofs.Common.{◌≡◌, ℕ, zero, suc, ◌+◌, ◌-◌, ◌*◌, ◌/◌, ◌%◌, ◌^◌, ◌<◌, ◌≤◌, sym, ap, ◌∙◌, subst, le_trans, le_of_eq, lt_of_lt_of_le, lt_of_le_of_lt, lt_irrefl, mul-le-mul_right, mod-eq_of_lt, mul_assoc, add_comm, lt_of_not-le, arith, lit≤, pow_mono, pow-add, shl_lt}
use lib.Count.{count_leading_zeros, leading_top}
use Rattle.spec.specs.Nearest.Order.{units_at}
use Rattle.float_root.specs.Digits.{IsNormal, Radicand}

pow_lt_back : (i p : ℕ) → 2 ^ i < 2 ^ p → i < p
pow_lt_back i p h = lt_of_not-le (λ (g : p ≤ i). lt_irrefl (2 ^ i) (lt_of_lt_of_le h (pow_mono g)))

-- m * 2 ^ c * (2 ^ h * 2 ^ h), with the powers joined
pub joined : (c m j h : ℕ) → c + (h + h) ≡ j → m * 2 ^ c * (2 ^ h * 2 ^ h) ≡ m * 2 ^ j
joined c m j h e = mul_assoc m (2 ^ c) (2 ^ h * 2 ^ h)
    ∙ ap (λ (x : ℕ). m * x) (ap (λ (x : ℕ). 2 ^ c * x) (sym (pow-add 2 h h)) ∙ sym (pow-add 2 c (h + h))
    ∙ ap (λ (x : ℕ). 2 ^ x) e)

pub radicand_even : (m j : ℕ) → 2 ^ 23 ≤ m → m < 2 ^ 24 → 2 ≤ j → j % 2 ≡ 0 → Radicand m j (m * 8388608)
radicand_even m j a b l e =
    record { lo = omega arith; hi = omega arith; value = joined 23 m (j + 21) (j / 2 - 1) (omega arith) }

pub radicand_odd : (m j : ℕ) → 2 ^ 23 ≤ m → m < 2 ^ 24 → 2 ≤ j → (j % 2 ≡ 0 → ⊥) → Radicand m j (m * 16777216)
radicand_odd m j a b l e =
    record { lo = omega arith; hi = omega arith; value = joined 24 m (j + 21) (j / 2 - 1) (omega arith) }

-- ---- a normal pattern
split_pow : (m a b c : ℕ) → a ≡ b + c → m * 2 ^ a ≡ m * 2 ^ b * 2 ^ c
split_pow m a b c e = ap (λ (x : ℕ). m * 2 ^ x) e ∙ ap (λ (x : ℕ). m * x) (pow-add 2 b c)
    ∙ sym (mul_assoc m (2 ^ b) (2 ^ c))

pub of_normal : (e t : ℕ) → 0 < e → e < 255 → t < 2 ^ 23 → IsNormal (units_at e t) (t + 8388608) (e + 127)
of_normal zero t p h l = absurd (lt_irrefl 0 p)
of_normal (suc x) t p h l = record {
  lo = omega arith;
  hi = omega arith;
  jlo = omega arith;
  jhi = omega arith;
  value = split_pow (t + 8388608) (suc x + 127 + 21) x 149 (omega arith) ∙ ap (λ (y : ℕ). y * 2 ^ x * 2 ^ 149)
      (add_comm t 8388608);
}

-- ---- a subnormal pattern: z leading zeros of 32, so t has i + 1 = 32 - z digits
pub record Shifted (t : ℕ) : Type 0 where
  pub least : 8 ≤ count_leading_zeros 32 t
  pub most : count_leading_zeros 32 t ≤ 31
  pub normal : IsNormal t ((t * 2 ^ (count_leading_zeros 32 t - 8)) % 2 ^ 32) (128 - (count_leading_zeros 32 t - 8))

of_subnormal : (t z i : ℕ) → t < 2 ^ 23 → z + suc i ≡ 32 → 2 ^ i ≤ t → t < 2 ^ suc i → i < 23
    → IsNormal t ((t * 2 ^ (z - 8)) % 2 ^ 32) (128 - (z - 8))
of_subnormal t z i T e lo hi l =
    let s = z - 8 in
    let m-lo : 2 ^ 23 ≤ t * 2 ^ s = le_trans (le_of_eq (ap (λ (x : ℕ). 2 ^ x) (is_23 z e l) ∙ pow-add 2 i s))
    (mul-le-mul_right (2 ^ s) lo) in
    let m-hi : t * 2 ^ s < 2 ^ 24 = subst (λ (x : ℕ). t * 2 ^ s < 2 ^ x) (is_24 z e l) (shl_lt (suc i) s hi) in
    let whole : (t * 2 ^ s) % 2 ^ 32 ≡ t * 2 ^ s = mod-eq_of_lt (lt_of_lt_of_le m-hi (lit≤ tt)) in
    subst (λ (x : ℕ). IsNormal t x (128 - s)) (sym whole)
    (record {
      lo = m-lo;
      hi = m-hi;
      jlo = omega arith;
      jhi = omega arith;
      value =
          sym (split_pow t 149 s (128 - s + 21) (is_149 z e));
    })
  where
    is_23 : (z : ℕ) → z + suc i ≡ 32 → i < 23 → 23 ≡ i + (z - 8)
    is_23 z e l = omega arith

    is_24 : (z : ℕ) → z + suc i ≡ 32 → i < 23 → suc i + (z - 8) ≡ 24
    is_24 z e l = omega arith

    is_149 : (z : ℕ) → z + suc i ≡ 32 → 149 ≡ z - 8 + (128 - (z - 8) + 21)
    is_149 z e = omega arith

pub shifted : (t : ℕ) → 0 < t → t < 2 ^ 23 → Shifted t
shifted t p h =
    let z = leading_top 32 t p (lt_of_lt_of_le h (lit≤ tt)) in
    let i = z.0 in
    let l : i < 23 = pow_lt_back i 23 (lt_of_le_of_lt z.2 h) in
    record {
      least = omega (arith, z.1);
      most = omega (arith, z.1);
      normal =
          of_subnormal t (count_leading_zeros 32 t) i h z.1 z.2 z.3 l;
    }
