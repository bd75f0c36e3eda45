-- Laws of components that arrive as bits: those in the domain are numbers, and are written one after the other. Assumes nothing.
use Prim.Native.Nat.{ℕ, zero, suc, ◌+◌, ◌-◌, ◌≤◌, ◌<◌}
use mathlib.Core.Path.{◌≡◌, refl, sym, ◌∙◌, subst⁻¹}
use mathlib.Core.Bool.{Bool, true, false, not}
use mathlib.Core.List.{List, [], ◌∷◌, ◌++◌, map}
use native.Mathlib.Numerals.{add-one}
use native.Mathlib.Omega.{arith}
use lib.Dec.{T}
use lib.ListN.{length, take, drop, get_or, set, length-map, get_or-map}
use lib.Seq.{take-suc, take-suc-set, take_all, drop-drop}
use lib.Ieee.{Float, nan, inf, fin, is_nan, binary32, of_bits, nan_bits}
use lib.Ieee.Bits.{nan_bits_is}
use Rattle.spec.specs.Lists.{every}
use Rattle.spec.specs.Nearest.Order.{in_domain, bits_in_domain}
use Rattle.spec.specs.Node.Wire.{float_of, floats_of}
use Rattle.spec_laws.proofs.Lists.{not_both}
use Rattle.spec_laws.proofs.Map.Rows.{every_tail}

-- each element of a list of which all pass, passes
pub every-at {ℓ} : {A : Type ℓ} (p : A → Bool) (l : List A) (i : ℕ) (d : A) → every p l ≡ true → i < length l → p (get_or l i d) ≡ true
every-at p [] i d e h = absurd (omega arith)
every-at p (y ∷ ys) zero d e h = (every_tail p y ys e).0
every-at p (y ∷ ys) (suc i) d e h = every-at p ys i d (every_tail p y ys e).1 (omega arith)

in_domain_number : (x : Float) → in_domain x ≡ true → T (not (is_nan x))
unfolding in_domain is_nan
in_domain_number nan e = not_both false e refl
in_domain_number (inf s) e = tt
in_domain_number (fin s m d) e = tt

-- a pattern in the domain is no NaN's
pub domain_number : (b : ℕ) → bits_in_domain b ≡ true → T (not (nan_bits binary32 b))
unfolding bits_in_domain
domain_number b e = subst⁻¹ (λ (t : Bool). T (not t)) (nan_bits_is binary32 b) (in_domain_number (of_bits binary32 b) e)

pub floats-length : (bits : List ℕ) → length (floats_of bits) ≡ length bits
unfolding floats_of
floats-length bits = length-map bits float_of

-- one component more, and all of them
pub write-on : (dst : List Float) (bits : List ℕ) (i : ℕ) → i < length dst → i < length bits → take i dst ≡ take i (floats_of bits)
    → take (i + 1) (set dst i (float_of (get_or bits i 0))) ≡ take (i + 1) (floats_of bits)
unfolding floats_of
write-on dst bits i h k e =
    rw (
      add-one,
      take-suc-set dst i (float_of (get_or bits i 0)) h,
      take-suc (map float_of bits) i (float_of 0) (rw (length-map bits float_of) k),
      e,
      get_or-map float_of bits i 0,
    )

pub write_done : (dst : List Float) (bits : List ℕ) (i : ℕ) → length dst ≤ i → length dst ≡ length bits → take i dst ≡ take i (floats_of bits)
    → dst ≡ floats_of bits
write_done dst bits i h k e =
    sym (take_all i dst h) ∙ e ∙ take_all i (floats_of bits) (rw (floats-length bits) (omega arith))

-- a part that was lent on for writing, put back
pub lent_back {ℓ} : {A : Type ℓ} (f v w : List A) (s m : ℕ) → v ≡ w
    → take s f ++ (v ++ drop (s + m - s) (drop s f)) ≡ take s f ++ (w ++ drop (s + m) f)
lent_back f v w s m e =
    let k : s + m - s ≡ m = omega arith in
    rw (k, e, drop-drop m s f)
