-- Whole numbers below 2 ^ 24 as floats: exact, under either sign, and zero with a plus. Assumes nothing.
use Prim.Native.Nat.{ℕ, zero, suc, ◌*◌, ◌-◌, ◌^◌, ◌<◌}
use mathlib.Core.Path.{◌≡◌, refl, sym, ap, ◌∙◌, subst}
use mathlib.Core.Bool.{true, false}
use native.Mathlib.Nat.{mul-one, one-mul, zero-mul, mul-pos, zero-lt-suc, le_of_lt}
use native.Mathlib.Omega.{arith}
use borrow.Author.Tests.{lt-ltb}
use lib.Dec.{T, le→leb}
use lib.IntN.{pos, neg_ℤ}
use lib.Ieee.{Float, nan, inf, fin, binary32, down, neg, sum, add, sub, odd, of_fields, of_bits, of_int, in_float}
use lib.Ieee.Exact.{HasValue}
use lib.Ieee.Fits.{down_pos}
use lib.Ieee.Back.{round_whole}
use lib.Ieee.Scale.{round_same}

pub small : (n : ℕ) → n < 16777216 → T (in_float binary32 (pos n))
unfolding in_float
small n h = le→leb n (2 ^ 24) (le_of_lt h)

-- plus zero less n / 1, given over c
sum_less : (n b c : ℕ) → 0 < c → b ≡ n * c → sum binary32 false 0 true b c ≡ of_int binary32 (neg_ℤ (pos n))
unfolding sum of_int
sum_less zero b c p e =
    let z : b ≡ 0 = e ∙ zero-mul c in
    rw z (round_same binary32 false 0 c 0 1 p (zero-lt-suc 0) (zero-mul 1 ∙ sym (zero-mul c)))
sum_less (suc n) b c p e =
    let h : 0 < b = subst (λ (x : ℕ). 0 < x) (sym e) (mul-pos (zero-lt-suc n) p) in
    let m : b - 0 ≡ suc n * c = omega arith ∙ e in
    rw (lt-ltb 0 b h) (round_same binary32 true (b - 0) c (suc n) 1 p (zero-lt-suc 0) (mul-one (b - 0) ∙ m))

less_of : (n : ℕ) (x : Float) → HasValue x false n 1 → sub binary32 (fin false 0 (pos 0)) x ≡ of_int binary32 (neg_ℤ (pos n))
unfolding sub neg add
less_of n nan v = absurd v
less_of n (inf s) v = absurd v
less_of n (fin s m e) v =
    rw v.0 (rw (zero-mul (down e))
    (sum_less n _ _ (subst (λ (x : ℕ). 0 < x) (sym (one-mul (down e))) (down_pos e)) (v.1 ∙ ap (λ (x : ℕ). n * x) (sym (one-mul (down e))))))

plus_zero_lem : of_bits binary32 0 ≡ fin false 0 (pos 0)
unfolding of_bits of_fields odd
plus_zero_lem = refl

pub zero_less : (n : ℕ) → n < 16777216 → sub binary32 (of_bits binary32 0) (of_int binary32 (pos n)) ≡ of_int binary32 (neg_ℤ (pos n))
unfolding of_int
zero_less n h = rw plus_zero_lem (less_of n _ (round_whole binary32 false n (le_of_lt h)))
