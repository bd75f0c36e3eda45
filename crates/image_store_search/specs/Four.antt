-- What four sums in step ask and promise, where the vectors are patterns in bytes: each is the sum of paper 01 over its own vector.
-- Definitions only.
use Rattle.std.specs.Prelude.{ℕ, zero, suc, ◌+◌, ◌*◌, ◌≤◌, ◌<◌, ◌≡◌, true, List, Float, length, drop}
use Rattle.std.specs.Float.{binary32}
use Rattle.std.specs.Float.Ieee.{mul}
use Rattle.spec.specs.declared.Metric.{Metric}
use Rattle.spec.specs.Layout.Format.{number_at}
use Rattle.spec.specs.Nearest.Order.{bits_in_domain}
use Rattle.spec.specs.Nearest.Distance.{sum_from, plus_zero}
use Rattle.spec.specs.Node.Wire.{floats_of}
use Rattle.image_store.specs.Image.{words}
use Rattle.float_distance.specs.declared.four.Four.{Four}
use Rattle.float_distance.specs.Halves.{element_of}

-- 'The log': the n floats whose patterns stand at a position
abbrev pub vector_at : List ℕ → (at n : ℕ) → List Float
vector_at s at n = floats_of (words 4 n s at)

-- a pattern of the domain stands at a position
pub record Pattern (s : List ℕ) (at : ℕ) : Type 0 where
  pub there : at + 4 ≤ length s
  pub inside : bits_in_domain (number_at 4 s at) ≡ true

-- .. and n of them
pub record Patterns (s : List ℕ) (at n : ℕ) : Type 0 where
  pub there : at + 4 * n ≤ length s
  pub inside : (i : ℕ) → i < n → bits_in_domain (number_at 4 s (at + 4 * i)) ≡ true

-- component i of the query, and of each of four vectors
pub record Reach (query : List Float) (s : List ℕ) (p q r t i : ℕ) : Type 0 where
  pub asked : i < length query
  pub first : Pattern s (p + 4 * i)
  pub second : Pattern s (q + 4 * i)
  pub third : Pattern s (r + 4 * i)
  pub fourth : Pattern s (t + 4 * i)

-- 'Nearest objects': the four vectors lie in the bytes, and none is longer than the query
pub record Places (query : List Float) (s : List ℕ) (p q r t n : ℕ) : Type 0 where
  pub short : n ≤ length query
  pub first : Patterns s p n
  pub second : Patterns s q n
  pub third : Patterns s r n
  pub fourth : Patterns s t n

-- 'Nearest objects': gone on with from place i, a sum is the whole sum of a and b
abbrev pub Lane : (Float → Float → Float) → (a b : List Float) → ℕ → Float → Type 0
Lane term a b i acc = sum_from term acc (drop i a) (drop i b) ≡ sum_from term plus_zero a b

-- 'Nearest objects': four sums of a term of query and vector, over the first i of n components
pub record Sums (term : Float → Float → Float) (query : List Float) (s : List ℕ) (p q r t n i : ℕ) (f : Four) : Type 0 where
  pub first : Lane term query (vector_at s p n) i f.a
  pub second : Lane term query (vector_at s q n) i f.b
  pub third : Lane term query (vector_at s r n) i f.c
  pub fourth : Lane term query (vector_at s t n) i f.d

-- 'Nearest objects': four sums of the vectors' own products
pub record OwnSums (s : List ℕ) (p q r t n i : ℕ) (f : Four) : Type 0 where
  pub first : Lane (mul binary32) (vector_at s p n) (vector_at s p n) i f.a
  pub second : Lane (mul binary32) (vector_at s q n) (vector_at s q n) i f.b
  pub third : Lane (mul binary32) (vector_at s r n) (vector_at s r n) i f.c
  pub fourth : Lane (mul binary32) (vector_at s t n) (vector_at s t n) i f.d

-- .. with one component more, however many there are
abbrev pub SumsOn : (Float → Float → Float) → (query : List Float) → (s : List ℕ) → (p q r t i : ℕ) → (before after : Four) → Type 0
SumsOn term query s p q r t i f g = (n : ℕ) → i < n → Sums term query s p q r t n i f → Sums term query s p q r t n (i + 1) g

abbrev pub OwnOn : (s : List ℕ) → (p q r t i : ℕ) → (before after : Four) → Type 0
OwnOn s p q r t i f g = (n : ℕ) → i < n → OwnSums s p q r t n i f → OwnSums s p q r t n (i + 1) g

-- n steps of R, from a to b
unfoldable pub Taken : {S : Type 0} → (ℕ → S → S → Type 0) → (n : ℕ) → (a b : S) → Type 0
Taken R zero a b = b ≡ a
Taken {S} R (suc n) a b = (x : S) × Taken R n a x × R n x b

-- 'Nearest objects': the elements of the four vectors
pub record FourElements (metric : Metric) (query : List Float) (qnorm : Float) (s : List ℕ) (p q r t n : ℕ) (f : Four) : Type 0 where
  pub first : f.a ≡ element_of metric query qnorm (vector_at s p n)
  pub second : f.b ≡ element_of metric query qnorm (vector_at s q n)
  pub third : f.c ≡ element_of metric query qnorm (vector_at s r n)
  pub fourth : f.d ≡ element_of metric query qnorm (vector_at s t n)
