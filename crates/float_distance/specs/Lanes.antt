-- What four sums in step ask and promise: each is the sum of paper 01 over its own vector.
use Rattle.std.specs.Prelude.{ℕ, ◌+◌, ◌≤◌, ◌≡◌, List, length, take, drop, not, T, Float}
use Rattle.std.specs.Float.Ieee.{is_nan}
use Rattle.spec.specs.declared.Metric.{Metric}
use Rattle.spec.specs.Nearest.Distance.{sum_from, plus_zero, dot, norm, distance, Bounded}
use Rattle.float_distance.specs.declared.four.Four.{Four}

-- 'The log': the n floats of the vector that stands at a place of the lent floats
abbrev pub stored : List Float → ℕ → ℕ → List Float
stored floats p n = take n (drop p floats)

-- 'Nearest objects': the four vectors lie in the floats, and none is longer than the query
pub record Places (query floats : List Float) (p q r s n : ℕ) : Type 0 where
  pub short : n ≤ length query
  pub first : p + n ≤ length floats
  pub second : q + n ≤ length floats
  pub third : r + n ≤ length floats
  pub fourth : s + n ≤ length floats

-- 'Nearest objects': the four sums of a term of query and vector
pub record FourSums (term : Float → Float → Float) (query floats : List Float) (p q r s n : ℕ) (f : Four) : Type 0 where
  pub first : f.a ≡ sum_from term plus_zero query (stored floats p n)
  pub second : f.b ≡ sum_from term plus_zero query (stored floats q n)
  pub third : f.c ≡ sum_from term plus_zero query (stored floats r n)
  pub fourth : f.d ≡ sum_from term plus_zero query (stored floats s n)

-- 'Nearest objects': the four sums of the vectors' own products
pub record FourOwn (floats : List Float) (p q r s n : ℕ) (f : Four) : Type 0 where
  pub first : f.a ≡ dot (stored floats p n) (stored floats p n)
  pub second : f.b ≡ dot (stored floats q n) (stored floats q n)
  pub third : f.c ≡ dot (stored floats r n) (stored floats r n)
  pub fourth : f.d ≡ dot (stored floats s n) (stored floats s n)

-- 'Nearest objects': query and vectors lie in the domain, and the query's norm is its own
pub record Measurable (query : List Float) (qnorm : Float) (floats : List Float) (p q r s n : ℕ) : Type 0 where
  pub places : Places query floats p q r s n
  pub asked : Bounded query
  pub norm-is : qnorm ≡ norm query
  pub first : Bounded (stored floats p n)
  pub second : Bounded (stored floats q n)
  pub third : Bounded (stored floats r n)
  pub fourth : Bounded (stored floats s n)

-- 'Nearest objects': x is the distance of a stored vector, and no NaN
pub record IsDistance (metric : Metric) (query floats : List Float) (p n : ℕ) (x : Float) : Type 0 where
  pub value : x ≡ distance metric query (stored floats p n)
  pub number : T (not (is_nan x))

-- 'Nearest objects': the four distances
pub record FourDistances (metric : Metric) (query floats : List Float) (p q r s n : ℕ) (f : Four) : Type 0 where
  pub first : IsDistance metric query floats p n f.a
  pub second : IsDistance metric query floats q n f.b
  pub third : IsDistance metric query floats r n f.c
  pub fourth : IsDistance metric query floats s n f.d
