-- The rows of a store, from its bytes, and the column of elements that a search makes of them (paper 01, 'The log', 'Nearest objects').
-- Definitions only.
use Rattle.std.specs.Prelude.{ℕ, ◌+◌, ◌-◌, ◌*◌, ◌≤◌, ◌<◌, ◌≡◌, true, List, Float, length, get_or}
use Rattle.std.specs.Float.{nan}
use Rattle.spec.specs.declared.Metric.{Metric}
use Rattle.spec.specs.Layout.Format.{number_at}
use Rattle.spec.specs.Nearest.Order.{bits_in_domain}
use Rattle.image_store.specs.Image.{lengths_at, floats_at, places_at, store_size}
use Rattle.float_distance.specs.Halves.{element_of}
use Rattle.image_store_search.specs.Four.{vector_at}

module _ (s : List ℕ) (base : ℕ) where
  -- the offset that row i names, and the place of its entry
  abbrev pub offset_of : ℕ → ℕ
  offset_of i = number_at 8 s (base + places_at + 8 * i)

  abbrev pub entry_of : ℕ → ℕ
  entry_of i = offset_of i - 1

  abbrev pub length_of : ℕ → ℕ
  length_of i = get_or s (base + lengths_at + entry_of i) 0

  -- the vector of row i
  abbrev pub start_of : ℕ → ℕ
  start_of i = base + floats_at + entry_of i * 128

  abbrev pub vector_in : ℕ → List Float
  vector_in i = vector_at s (start_of i) (length_of i)

  -- what the walk over the rows asks: the store is there, and each row names an entry with at most 32 floats of the domain
  pub record Named (stored : ℕ) : Type 0 where
    pub stands : base + store_size ≤ length s
    pub few : stored ≤ 1024
    pub starts : (i : ℕ) → i < stored → 1 ≤ offset_of i
    pub ends : (i : ℕ) → i < stored → offset_of i ≤ 1024
    pub short : (i : ℕ) → i < stored → length_of i ≤ 32
    pub inside : (i j : ℕ) → i < stored → j < length_of i → bits_in_domain (number_at 4 s (start_of i + 4 * j)) ≡ true

  -- the vectors of the four rows from i on have n floats
  pub record FourLong (stored i n : ℕ) : Type 0 where
    pub rows : i + 4 ≤ stored
    pub first : length_of i ≡ n
    pub second : length_of (i + 1) ≡ n
    pub third : length_of (i + 2) ≡ n
    pub fourth : length_of (i + 3) ≡ n

  -- the first n elements of a column are those of the vectors that the rows name
  abbrev pub Filled : Metric → (query : List Float) → (qnorm : Float) → (xs : List Float) → (n : ℕ) → Type 0
  Filled metric query qnorm xs n = (i : ℕ) → i < n → get_or xs i nan ≡ element_of metric query qnorm (vector_in i)
