-- Lists of zeros, read by laws that walk none of them: a store has 1,392,640. Lists of bytes with some replaced are bytes. Assumes nothing.
use Prim.Native.Nat.{ℕ, zero, suc, ◌+◌, ◌-◌, ◌<◌, ◌≤◌}
use native.Mathlib.Omega.{arith}
use native.Mathlib.Nat.{sub-zero, zero-sub, suc-sub-suc, not-suc-le-zero, le_of_suc-le-suc}
use mathlib.Core.Path.{◌≡◌, refl, sym, ap, ◌∙◌}
use mathlib.Core.List.{List, [], ◌∷◌}
use lib.ListN.{length, get_or, take, drop, set, replicate, length-replicate}
use lib.Seq.{sets}
use Rattle.spec.specs.Layout.Format.{Bytes, All, number_at}
use Rattle.image_store.specs.Image.{words}

zero_at : (n i : ℕ) → ◌≡◌ {A = ℕ} (get_or (replicate n 0) i 0) 0
zero_at zero i = refl
zero_at (suc n) zero = refl
zero_at (suc n) (suc i) = zero_at n i

-- at a variable length; at a literal the checker would walk it
pub zeros_long : (n : ℕ) → length {A = ℕ} (replicate n 0) ≡ n
zeros_long n = length-replicate {A = ℕ} n 0

pub zeros-bytes : (n : ℕ) → Bytes (replicate n 0)
zeros-bytes zero i = omega arith
zeros-bytes (suc n) zero = omega arith
zeros-bytes (suc n) (suc i) = zeros-bytes n i

pub dropped : {A : Type 0} (x : A) (n i : ℕ) → drop i (replicate n x) ≡ replicate (n - i) x
dropped x n zero = ap (λ (k : ℕ). replicate k x) (sym (sub-zero n))
dropped x zero (suc i) = ap (λ (k : ℕ). replicate k x) (sym (zero-sub (suc i)))
dropped x (suc n) (suc i) = dropped x n i ∙ ap (λ (k : ℕ). replicate k x) (sym (suc-sub-suc n i))

pub taken : {A : Type 0} (x : A) (n i : ℕ) → i ≤ n → take i (replicate n x) ≡ replicate i x
taken x n zero h = refl
taken x zero (suc i) h = absurd (not-suc-le-zero h)
taken x (suc n) (suc i) h = ap (λ (l : List _). x ∷ l) (taken x n i (le_of_suc-le-suc h))

number_zero : (k n at : ℕ) → number_at k (replicate n 0) at ≡ 0
number_zero zero n at = refl
number_zero (suc k) n at = rw (zero_at n at, number_zero k n (at + 1)) refl

-- any column of numbers
pub words_zero : (k m n at : ℕ) → words k m (replicate n 0) at ≡ replicate m 0
unfolding words
words_zero k zero n at = refl
words_zero k (suc m) n at = rw (number_zero k n at, words_zero k m n (at + k)) refl

-- ---- bytes replaced by bytes

pub set-bytes : (l : List ℕ) (i x : ℕ) → Bytes l → x < 256 → (j : ℕ) → get_or (set l i x) j 0 < 256
set-bytes [] i x b h j = b j
set-bytes (y ∷ l) zero x b h zero = h
set-bytes (y ∷ l) zero x b h (suc j) = b (suc j)
set-bytes (y ∷ l) (suc i) x b h zero = b 0
set-bytes (y ∷ l) (suc i) x b h (suc j) = set-bytes l i x (λ k. b (suc k)) h j

pub sets-bytes : (vs l : List ℕ) (i : ℕ) → Bytes l → All (λ (x : ℕ). x < 256) vs → Bytes (sets l i vs)
sets-bytes [] l i b h = b
sets-bytes (x ∷ vs) l i b h = sets-bytes vs (set l i x) (suc i) (set-bytes l i x b h.0) h.1
