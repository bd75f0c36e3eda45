-- The column of elements, four rows or one at a time. Assumes nothing.
use Prim.Native.Nat.{ℕ, ◌+◌, ◌*◌, ◌≤◌, ◌<◌}
use mathlib.Core.Path.{◌≡◌, sym, ap, subst, ◌∙◌}
use mathlib.Core.Bool.{true}
use mathlib.Core.List.{List}
use mathlib.Core.Logic.{⊎_elim}
use native.Mathlib.Nat.{eq-or-lt_of_le}
use native.Mathlib.Omega.{arith}
use lib.Ieee.{Float, nan}
use lib.ListN.{length, set, length-set}
use lib.Seq.{get_or-set_same, get_or-set_other}
use Rattle.spec.specs.declared.Metric.{Metric}
use Rattle.spec.specs.Layout.Format.{number_at}
use Rattle.spec.specs.Nearest.Order.{bits_in_domain}
use Rattle.float_distance.specs.Halves.{element_of}
use Rattle.image_store_search.specs.Four.{vector_at, Patterns}
use Rattle.image_store_search.specs.Column.{length_of, start_of, vector_in, Named, Filled}
use Rattle.image_store_search.proofs.FourLaws.{four-steps}

module _ (s : List ℕ) (base : ℕ) (m : Metric) (q : List Float) (qnorm : Float) where
  -- one element more
  pub filled_on : (xs : List Float) (i : ℕ) (x : Float) → i < length xs → Filled s base m q qnorm xs i → x ≡ element_of m q qnorm (vector_in s base i)
      → Filled s base m q qnorm (set xs i x) (i + 1)
  filled_on xs i x h f e j k =
      ⊎_elim
      (λ (z : j ≡ i). rw z (get_or-set_same xs i x nan h ∙ e))
      (λ (z : j < i). get_or-set_other xs i j x nan (λ w. absurd (omega arith)) ∙ f j z)
      (eq-or-lt_of_le {n = j} {m = i} (omega arith))

  -- .. and four
  pub filled-four : (xs : List Float) (i : ℕ) (a b c d : Float) → i + 4 ≤ length xs → Filled s base m q qnorm xs i
      → a ≡ element_of m q qnorm (vector_in s base i) → b ≡ element_of m q qnorm (vector_in s base (i + 1))
      → c ≡ element_of m q qnorm (vector_in s base (i + 2)) → d ≡ element_of m q qnorm (vector_in s base (i + 3))
      → Filled s base m q qnorm (set (set (set (set xs i a) (i + 1) b) (i + 2) c) (i + 3) d) (i + 4)
  filled-four xs i a b c d h f ea eb ec ed =
      let l₁ = length-set xs i a in
      let x₁ = set xs i a in
      let l₂ = length-set x₁ (i + 1) b in
      let x₂ = set x₁ (i + 1) b in
      let l₃ = length-set x₂ (i + 2) c in
      let x₃ = set x₂ (i + 2) c in
      four-steps (λ (k : ℕ) (z : List Float). Filled s base m q qnorm z k) i xs x₁ x₂ x₃ (set x₃ (i + 3) d)
      (λ g. filled_on xs i a (omega arith) g ea)
      (λ g. filled_on x₁ (i + 1) b (omega arith) g eb)
      (λ g. filled_on x₂ (i + 2) c (omega arith) g ec)
      (λ g. filled_on x₃ (i + 3) d (omega arith) g ed) f

-- ---- the vector of a row

module _ (s : List ℕ) (base stored : ℕ) (named : Named s base stored) (i : ℕ) (h : i < stored) (at n : ℕ) (start : at ≡ start_of s base i)
    (long : length_of s base i ≡ n) (there : at + 128 ≤ length s) where
  pub row-patterns : Patterns s at n
  row-patterns =
      let w = named.short i h in
      record {
        there = omega arith;
        inside = λ j k.
            subst (λ (x : ℕ). bits_in_domain (number_at 4 s (x + 4 * j)) ≡ true) (sym start)
            (named.inside i j h (subst (λ (x : ℕ). j < x) (sym long) k));
      }

  pub row-vector : vector_at s at n ≡ vector_in s base i
  row-vector = ap (λ (x : ℕ). vector_at s x n) start ∙ ap (vector_at s (start_of s base i)) (sym long)
