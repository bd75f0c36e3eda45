-- Laws of an image that is read: the patterns that an entry uses, one stretch more. Assumes nothing.
use Prim.Native.Nat.{ℕ, zero, suc, ◌+◌, ◌-◌, ◌*◌, ◌≤◌, min}
use mathlib.Core.Path.{◌≡◌, refl, ap, ◌∙◌}
use mathlib.Core.Bool.{Bool, true, false, cond}
use mathlib.Core.List.{List, ◌++◌, map}
use native.Mathlib.Omega.{arith}
use borrow.Author.Tests.{eq-eqb, ne_eqb}
use lib.Dec.{eqb}
use lib.Ieee.{Float}
use lib.ListN.{length, take, drop, length-append, length-drop}
use lib.Seq.{length-take-le}
use Rattle.spec.specs.Node.Wire.{floats_of}
use Rattle.log_store.specs.View.{Columns}
use Rattle.image_store.specs.Image.{patterns}
use Rattle.image_store.specs.Read.{tamed, used, used_at, stretch_read, floats_read, bytes_in}
use Rattle.image_store.proofs.Words.{words-length, floats-length}

-- ---- how many patterns an entry uses

module _ (code len : ℕ) where
  pub used-none : (code ≡ 1 → ⊥) → 0 ≡ used code len
  unfolding used
  used-none n = rw (ne_eqb code 1 n)

  pub used-short : code ≡ 1 → len ≤ 32 → len ≡ used code len
  unfolding used
  used-short e h = rw (eq-eqb code 1 e) (omega arith)

  pub used-most : used code len ≤ 32
  unfolding used
  used-most = go (eqb code 1)
    where
      go : (b : Bool) → cond b (min len 32) 0 ≤ 32
      go true = omega arith
      go false = omega arith

-- ---- one stretch more

module _ (s : List ℕ) (base i : ℕ) where
  pub used-within : used_at s base i ≤ 32
  used-within = used-most _ _

  module _ (fs : List Float) (n : ℕ) (e : n ≡ used_at s base i) where
    part_length : i * 32 + n ≤ length fs → length (take (i * 32 + n - i * 32) (drop (i * 32) fs)) ≡ n
    part_length h =
        let k : i * 32 + n - i * 32 ≡ n = omega arith in
        ap (λ (m : ℕ). length (take m (drop (i * 32) fs))) k ∙ length-take-le n (drop (i * 32) fs) (omega (arith, length-drop (i * 32) fs))

  pub stretch-length : (fs : List Float) → i * 32 + 32 ≤ length fs → length (stretch_read s base i fs) ≡ length fs
  unfolding stretch_read
  stretch-length fs h =
      let v = floats_of (map tamed (patterns s base i (used_at s base i))) in
      let u = used-within in
      length-append (take (i * 32) fs) (v ++ drop (i * 32 + used_at s base i) fs)
      ∙ omega (
        arith,
        length-take-le (i * 32) fs (omega arith),
        length-append v (drop (i * 32 + used_at s base i) fs),
        floats-length (patterns s base i (used_at s base i)),
        words-length 4 (used_at s base i) s (base + 26624 + i * 128),
        length-drop (i * 32 + used_at s base i) fs,
      )

pub read_length : (s : List ℕ) (base n : ℕ) (fs : List Float) → n * 32 ≤ length fs → length (floats_read s base n fs) ≡ length fs
unfolding floats_read
read_length s base zero fs h = refl
read_length s base (suc n) fs h =
    let r = read_length s base n fs (omega arith) in
    stretch-length s base n (floats_read s base n fs) (omega arith) ∙ r

pub bytes-length : (s : List ℕ) (at : ℕ) → at + 1024 ≤ length s → length (bytes_in s at) ≡ 1024
bytes-length s at h = length-take-le 1024 (drop at s) (omega (arith, length-drop at s))

-- ---- what a read promises, one law for each way out
