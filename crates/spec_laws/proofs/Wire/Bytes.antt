-- Paper 01, 'Bytes on the wire': numbers, least significant byte first, and texts, in a list of bytes.
-- Assumes nothing.
use Prim.Native.Nat.{ℕ, zero, suc, ◌+◌, ◌*◌, ◌/◌, ◌%◌, ◌^◌, ◌≤◌, ◌<◌}
use mathlib.Core.Path.{◌≡◌, refl, sym, ap, ◌∙◌}
use mathlib.Core.Bool.{true}
use mathlib.Core.List.{List, [], ◌∷◌, ◌++◌}
use lib.ListN.{length, get_or, take, drop, replicate, length-append, length-drop}
use lib.Seq.{drop-cons, drop-drop, drop-append_seam}
use lib.Dec.{leb}
use borrow.Author.Tests.{leb-true}
use native.Mathlib.Omega.{arith}
use native.Mathlib.Numerals.{add-one}
use native.Mathlib.Nat.{add-zero, pow-suc, pow-le-pow_right}
use Rattle.spec.specs.Lists.{◌and◌}
use Rattle.spec.specs.Layout.Format.{Bytes, bytes_of, number_at, all_within, in_range}
use Rattle.spec_laws.proofs.Wire.Tests.{and_left, and_right}

-- ---- a list from a position on

pub cut : (s : List ℕ) (at x : ℕ) (t : List ℕ) → drop at s ≡ x ∷ t → (get_or s at 0 ≡ x) × (at < length s) × (drop (suc at) s ≡ t)
cut [] zero x t e = let z : ◌≡◌ {A = ℕ} 0 1 = cc in absurd (omega arith)
cut [] (suc n) x t e = let z : ◌≡◌ {A = ℕ} 0 1 = cc in absurd (omega arith)
cut (y ∷ ys) zero x t e = (cc, omega arith, cc)
cut (y ∷ ys) (suc n) x t e = let h = cut ys n x t e in (h.0, omega arith, h.2)

pub cut-append : (s : List ℕ) (at : ℕ) (a t : List ℕ) → drop at s ≡ a ++ t → drop (at + length a) s ≡ t
cut-append s at a t e = sym (drop-drop (length a) at s) ∙ ap (drop (length a)) e ∙ drop-append_seam a t

-- ---- numbers

-- the bytes of the number that stands at a position are those that stand there
pub bytes-number : (k : ℕ) (s : List ℕ) (at : ℕ) → Bytes s → at + k ≤ length s → bytes_of k (number_at k s at) ++ drop (at + k) s ≡ drop at s
bytes-number zero s at b h = rw add-zero
bytes-number (suc k) s at b h =
    let m : (get_or s at 0 + 256 * number_at k s (at + 1)) % 256 ≡ get_or s at 0 = omega (arith, b at) in
    let d : (get_or s at 0 + 256 * number_at k s (at + 1)) / 256 ≡ number_at k s (at + 1) = omega (arith, b at) in
    let e : at + suc k ≡ at + 1 + k = omega arith in
    let r = bytes-number k s (at + 1) b (omega arith) in
    rw (m, d, e, r, add-one) (sym (drop-cons s at 0 (omega arith)))

-- k bytes spell a number below 256 ^ k
pub number-below : (k : ℕ) (s : List ℕ) (at : ℕ) → Bytes s → number_at k s at < 256 ^ k
number-below zero s at b = omega arith
number-below (suc k) s at b = let h = number-below k s (at + 1) b in rw pow-suc (omega (arith, b at))

-- what was written of a number is read
pub number-bytes : (k v : ℕ) (s : List ℕ) (at : ℕ) (t : List ℕ) → v < 256 ^ k → drop at s ≡ bytes_of k v ++ t → number_at k s at ≡ v
number-bytes zero v s at t h e = omega arith
number-bytes (suc k) v s at t h e =
    let p = cut s at (v % 256) (bytes_of k (v / 256) ++ t) e in
    let l : v < 256 ^ k * 256 = rw pow-suc at h in
    let q : number_at k s (at + 1) ≡ v / 256 = number-bytes k (v / 256) s (at + 1) t (omega arith) (rw add-one p.2) in
    rw (p.0, q) (omega arith)

pub length-bytes : (k v : ℕ) → length (bytes_of k v) ≡ k
length-bytes zero v = refl
length-bytes (suc k) v = ap suc (length-bytes k (v / 256))

-- what follows lies within the list
pub room : (s : List ℕ) (at : ℕ) (a t : List ℕ) → at ≤ length s → drop at s ≡ a ++ t → at + length a ≤ length s
room s at a t h e = omega (arith, simp (length-append, length-drop) at (ap length e))

-- ---- ranges

pub all-within : (lo hi n : ℕ) (s : List ℕ) (at : ℕ) → at + n ≤ length s → all_within lo hi n s at ≡ in_range lo hi (take n (drop at s))
all-within lo hi zero s at h = refl
all-within lo hi (suc n) s at h =
    let i : at < length s = omega arith in
    let r = all-within lo hi n s (at + 1) (omega arith) in
    let q : drop at s ≡ get_or s at 0 ∷ drop (at + 1) s = rw add-one (drop-cons s at 0 i) in
    rw (q, r)

pub range_zeros : (n : ℕ) → in_range 0 0 (replicate n 0) ≡ true
unfolding ◌and◌
range_zeros zero = refl
range_zeros (suc n) = range_zeros n

pub zeros_range : (xs : List ℕ) → in_range 0 0 xs ≡ true → xs ≡ replicate (length xs) 0
zeros_range [] e = refl
zeros_range (x ∷ xs) e =
    let u = and_right (leb 0 x) (leb x 0 and in_range 0 0 xs) e in
    let z : x ≡ 0 = omega (arith, leb-true x 0 (and_left (leb x 0) (in_range 0 0 xs) u)) in
    let r = zeros_range xs (and_right (leb x 0) (in_range 0 0 xs) u) in
    rw z (ap (λ (l : List ℕ). 0 ∷ l) r)

-- a number of at most m bytes
pub number_small : (k m : ℕ) (s : List ℕ) (at : ℕ) → Bytes s → k ≤ m → number_at k s at < 256 ^ m
number_small k m s at b h =
    let p : 256 ^ k ≤ 256 ^ m = pow-le-pow_right (omega arith) h in
    let q = number-below k s at b in
    omega arith
