-- All lists over given members, in order and with repetition: those of one length, and those up to a length. Definitions only.
use Rattle.std.specs.Prelude.{ℕ, zero, suc, Bool, length}
use mathlib.Core.List.{List, [], ◌∷◌, ◌++◌, map, Memᴰ}
use Rattle.spec.specs.Lists.{filter}

module _ {A : Type 0} where
  -- each member of xs before each list of ts
  unfoldable pub before : List A → List (List A) → List (List A)
  before [] ts = []
  before (x ∷ xs) ts = map (λ (t : List A). x ∷ t) ts ++ before xs ts

  -- all lists of exactly n members of xs
  unfoldable pub tuples : ℕ → List A → List (List A)
  tuples zero xs = [] ∷ []
  tuples (suc n) xs = before xs (tuples n xs)

  -- all lists of at most n members of xs, the shortest first
  unfoldable pub sequences : ℕ → List A → List (List A)
  sequences zero xs = tuples zero xs
  sequences (suc n) xs = sequences n xs ++ tuples (suc n) xs

  -- how many pass
  unfoldable pub how_many : (A → Bool) → List A → ℕ
  how_many p xs = length (filter p xs)

  -- it stands there
  abbrev pub In : A → List A → Type 0
  In x xs = Memᴰ x xs

  -- no member stands there twice
  abbrev pub Distinct : List A → Type 0
  Distinct [] = Unit {0}
  Distinct (x ∷ xs) = (In x xs → ⊥) × Distinct xs
