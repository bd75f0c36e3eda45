-- Lists at the start of an array: their lengths, what is read of them, and an array of nothing whose first items are those of another. Assumes
-- nothing.
use Prim.Native.Nat.{ℕ, ◌-◌, ◌≤◌}
use mathlib.Core.Path.{◌≡◌, refl, sym, ap, ◌∙◌}
use mathlib.Core.Bool.{Bool, true, false}
use mathlib.Core.List.{List, ◌++◌}
use Rattle.std.proofs.lemmas.List.{drop-replicate}
use lib.ListN.{length, take, drop, replicate, length-append, length-replicate}
use lib.Seq.{take_at, take_all, length-take-le}
use lib.Dec.{leb}
use borrow.Author.Tests.{leb-false}
use native.Mathlib.Omega.{arith}
use Rattle.spec.specs.Keys as keys
use Rattle.map_tables.specs.Names.{view_name, view_address, view_key}
use Rattle.image_parts.specs.Shape.{in_use}
use Rattle.image_parts.specs.Canon.{padded, image_name, image_address, image_key}

module _ {A : Type 0} (limit : ℕ) (none : A) where
  pub length-padded : (l : List A) → length l ≤ limit → length (padded limit none l) ≡ limit
  unfolding padded
  length-padded l h = length-append l (replicate (limit - length l) none) ∙ (rw length-replicate (omega arith))

  -- what is written of a list is read as the list
  pub take-padded : (l : List A) → take (length l) (padded limit none l) ≡ l
  unfolding padded
  take-padded l = take_at l (replicate (limit - length l) none) (length l) refl

-- the rows in use, however large the count
pub take-used : {A : Type 0} (limit n : ℕ) (xs : List A) → length xs ≡ limit → take (in_use limit n) xs ≡ take n xs
take-used {A} limit n xs e = used-by (leb n limit) refl
  where
    used-by : (b : Bool) → leb n limit ≡ b → take (in_use limit n) xs ≡ take n xs
    used-by true h = rw h
    used-by false h = let k = leb-false n limit h in rw h (take_all limit xs (omega arith) ∙ sym (take_all n xs (omega arith)))

-- those rows, and behind them what is left of an array of nothing
pub padded-used : {A : Type 0} (limit n count : ℕ) (none : A) (xs ys : List A) → length xs ≡ limit → n ≡ in_use limit count → n ≤ limit → ys ≡ take n xs
    → ys ++ drop n (replicate limit none) ≡ padded limit none (take count xs)
unfolding padded
padded-used limit n count none xs ys long e h q =
    let u : take n xs ≡ take count xs = ap (λ (j : ℕ). take j xs) e ∙ take-used limit count xs long in
    let k : length (take n xs) ≡ n = length-take-le n xs (omega arith) in
    rw (q, drop-replicate n limit none, ← u, k)

-- ---- a name, an address, a key as it is written is read as it was

pub view-name : (l : keys.Name) → view_name (image_name l) ≡ l
view-name l = take-padded 32 0 l

pub view_address_lem : (l : keys.Name) → view_address (image_address l) ≡ l
view_address_lem l = take-padded 64 0 l

pub view-key : (k : keys.Key) → view_key (image_key k) ≡ k
view-key k = rw (view-name k.collection)
