-- A table of which the rows in use were stored is read as those rows, from the start of its array on. Assumes nothing.
use Prim.Native.Nat.{ℕ, ◌+◌, ◌-◌, ◌≤◌, ◌<◌}
use mathlib.Core.Path.{◌≡◌, ap, ◌∙◌}
use mathlib.Core.Bool.{true}
use mathlib.Core.List.{List, ◌++◌}
use lib.ListN.{length, drop, replicate}
use borrow.Author.Tests.{le-leb}
use Rattle.spec.specs.Layout.Format.{number_at, concat_map, All}
use Rattle.image_parts.specs.Shape.{items, in_use, rows_at, codes_below}
use Rattle.image_parts.specs.Canon.{padded}
use Rattle.image_parts.proofs.Back.{rows_back, codes_back, Holds}

-- rows that are no more than a table has places, and fit
pub record Few {A : Type 0} (P : A → Type 0) (limit : ℕ) (xs : List A) : Type 0 where
  pub count : length xs ≤ limit
  pub rows : All P xs

module _ {A : Type 0} (P : A → Type 0) (put : A → List ℕ) (w : ℕ) (long : (x : A) → P x → length (put x) ≡ w) (limit : ℕ) (xs : List A)
    (few : Few P limit xs) where
  in_use_lem : (c : ℕ) → c ≡ length xs → in_use limit c ≡ length xs
  in_use_lem c e = (rw (e, le-leb (length xs) limit few.count))

  pub table-held : (s : List ℕ) (at : ℕ) (get : ℕ → A) (none : A)
      → ((x : A) (p : ℕ) (t : List ℕ) → P x → drop p s ≡ put x ++ t → get p ≡ x)
      → Holds s at (concat_map put xs) → (c : ℕ) → c ≡ length xs
      → rows_at limit (in_use limit c) get none w at ≡ padded limit none xs
  unfolding rows_at padded
  table-held s at get none law h c e =
      ap (λ (k : ℕ). items k get w at ++ replicate (limit - k) none) (in_use_lem c e)
      ∙ ap (λ (l : List A). l ++ replicate (limit - length xs) none) (rows_back P put w long s get law xs at h.tail few.rows h.here)

  pub table_listed : (s : List ℕ) (at below o : ℕ)
      → ((x : A) (p : ℕ) (t : List ℕ) → P x → drop p s ≡ put x ++ t → number_at 4 s (p + o) < below)
      → Holds s at (concat_map put xs) → (c : ℕ) → c ≡ length xs
      → codes_below below w s (in_use limit c) (at + o) ≡ true
  table_listed s at below o law h c e =
      ap (λ (k : ℕ). codes_below below w s k (at + o)) (in_use_lem c e)
      ∙ codes_back P put w long s below o law xs at h.tail few.rows h.here
