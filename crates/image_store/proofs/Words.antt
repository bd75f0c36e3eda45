-- Laws of numbers that stand one after the other in bytes, and of columns filled place by place. Assumes nothing.
use Prim.Native.Nat.{ℕ, zero, suc, ◌+◌, ◌-◌, ◌*◌, ◌≤◌, ◌<◌}
use mathlib.Core.Path.{◌≡◌, refl, sym, ap, ◌∙◌}
use mathlib.Core.Bool.{Bool, true, cond}
use mathlib.Core.List.{List, map}
use native.Mathlib.Omega.{arith}
use native.Mathlib.Numerals.{add-one}
use native.Mathlib.Nat.{add-zero, mul-zero, mul-suc}
use lib.ListN.{length, get_or, take, set, length-map}
use lib.Seq.{take-suc, take-suc-set, take_all}
use Rattle.spec.specs.Layout.Format.{number_at}
use Rattle.spec.specs.Nearest.Order.{bits_in_domain}
use Rattle.spec.specs.Node.Wire.{float_of, floats_of}
use Rattle.image_store.specs.Image.{words}
use Rattle.image_store.specs.Read.{tamed}

pub words-length : (k n : ℕ) (s : List ℕ) (at : ℕ) → length (words k n s at) ≡ n
unfolding words
words-length k zero s at = refl
words-length k (suc n) s at = ap suc (words-length k n s (at + k))

pub words-at : (k n : ℕ) (s : List ℕ) (at i : ℕ) → i < n → get_or (words k n s at) i 0 ≡ number_at k s (at + k * i)
unfolding words
words-at k zero s at i h = absurd (omega arith)
words-at k (suc n) s at zero h = rw (mul-zero, add-zero)
words-at k (suc n) s at (suc i) h =
    let q : at + k + k * i ≡ at + k * suc i = omega (arith, mul-suc k i) in
    words-at k n s (at + k) i (omega arith) ∙ ap (number_at k s) q

-- ---- a column filled place by place

module _ {ℓ} {A : Type ℓ} (out w : List A) (i : ℕ) where
  pub fill_on : (x d : A) → i < length out → i < length w → x ≡ get_or w i d → take i out ≡ take i w → take (i + 1) (set out i x) ≡ take (i + 1) w
  fill_on x d h k e t = rw (add-one, take-suc-set out i x h, take-suc w i d k, t, e)

  pub fill_done : length out ≤ i → length out ≡ length w → take i out ≡ take i w → out ≡ w
  fill_done h k t = sym (take_all i out h) ∙ t ∙ take_all i w (omega arith)

-- ---- floats from patterns

pub floats-length : (bits : List ℕ) → length (floats_of (map tamed bits)) ≡ length bits
unfolding floats_of
floats-length bits = length-map (map tamed bits) float_of ∙ length-map bits tamed

pub tamed_in : (b : ℕ) → bits_in_domain b ≡ true → tamed b ≡ b
unfolding tamed
tamed_in b e = ap (λ (t : Bool). cond t b 0) e
