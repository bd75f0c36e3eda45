-- Names as the library compares bytes. Assumes nothing.
use mathlib.Core.Path.{◌≡◌, refl}
use mathlib.Core.Bool.{Bool, true, false}
use mathlib.Core.List.{[], ◌∷◌}
use lib.Dec.{eqb}
use borrow.Author.Tests.{eq-eqb, ne_eqb}
use Rattle.std.proofs.Common.{arith, Some}
use Rattle.std.proofs.lemmas.Bool.Decides.{nat_tests}
use Rattle.std.proofs.lemmas.Cmp.{same_from_slice_cmp_tested}
use Rattle.std.specs.Cmp.Lexicographic.{slice_partial_cmp}
use Rattle.std.specs.Ordering.{nat_cmp, is_lt, is_some_and}
use Rattle.std.specs.Prelude.{◌&&◌}
use Rattle.std.specs.Str.{bytes_eq}
use Rattle.spec.specs.Lists.{◌and◌}
use Rattle.spec.specs.Keys.{Name, Key, same_name, same_key, name_below}

pub same-bytes : (a b : Name) → bytes_eq a b ≡ same_name a b
unfolding same_name ◌and◌
same-bytes [] [] = refl
same-bytes [] (y ∷ ys) = refl
same-bytes (x ∷ xs) [] = refl
same-bytes (x ∷ xs) (y ∷ ys) = go (eqb x y) (same-bytes xs ys)
  where
    go : (b : Bool) → bytes_eq xs ys ≡ same_name xs ys → (b && bytes_eq xs ys) ≡ (b and same_name xs ys)
    go true e = e
    go false e = refl

pub below-bytes : (a b : Name) (r : Bool) → r ≡ is_some_and is_lt (slice_partial_cmp (λ x y. Some (nat_cmp x y)) a b) → r ≡ name_below a b
unfolding name_below
below-bytes = same_from_slice_cmp_tested nat_cmp is_lt name_below refl (λ _ _. refl) (λ _ _. refl) (λ x y xs ys o h. grind (arith, nat_tests))

-- ---- keys

and_false : (t : Bool) → (t and false) ≡ false
unfolding ◌and◌
and_false true = refl
and_false false = refl

and_one : (t : Bool) → (t and true) ≡ t
unfolding ◌and◌
and_one true = refl
and_one false = refl

module _ (a b : Key) where
  pub other-shard : (a.shard ≡ b.shard → ⊥) → same_key a b ≡ false
  unfolding same_key
  other-shard ne = rw (ne_eqb a.shard b.shard ne) (and_false _)

  pub equal_shard : a.shard ≡ b.shard → same_key a b ≡ same_name a.collection b.collection
  unfolding same_key
  equal_shard e = rw (eq-eqb a.shard b.shard e) (and_one _)
