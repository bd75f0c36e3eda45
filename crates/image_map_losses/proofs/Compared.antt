-- The loops that compare two lists. Assumes nothing.
use Prim.Native.Nat.{ℕ, suc, ◌+◌, ◌≤◌, ◌<◌}
use native.Mathlib.Omega.{arith}
use native.Mathlib.Numerals.{add-one}
use mathlib.Core.Path.{◌≡◌, refl, sym, ap, ◌∙◌}
use mathlib.Core.Bool.{Bool, true, false}
use mathlib.Core.List.{List, [], ◌∷◌, map}
use lib.ListN.{length, take, drop, get_or, length-map, drop_of_length-le, get_or-map}
use lib.Seq.{drop-cons, get_or-take}
use lib.Dec.{eqb}
use borrow.Author.Tests.{eq-eqb, ne_eqb}
use Rattle.spec.specs.Lists.{◌and◌}
use Rattle.spec.specs.declared.DataNodeId.{DataNodeId}
use Rattle.map_tables.specs.View.{view_placement, refusal_of}
use Rattle.map_tables.specs.declared.Placement.{Placement}
use Rattle.spec_losses.specs.Losses.{same_all, same_lists, same_placed}

-- ---- two lists, place by place

pub other-size {ℓ} : {A : Type ℓ} (same : A → A → Bool) (a b : List A) → (length a ≡ length b → ⊥) → same_all same a b ≡ false
unfolding same_all ◌and◌
other-size same [] [] h = absurd (h refl)
other-size same [] (y ∷ ys) h = refl
other-size same (x ∷ xs) [] h = refl
other-size same (x ∷ xs) (y ∷ ys) h = go (same x y) (other-size same xs ys (λ e. h (ap suc e)))
  where
    go : (b : Bool) → same_all same xs ys ≡ false → b and same_all same xs ys ≡ false
    go true more = more
    go false more = refl

-- a node by its number
abbrev pub id_of : DataNodeId → ℕ
id_of n = n.0

-- the rows in use, read by v: k of either
module _ {A B : Type 0} (v : A → B) (same : B → B → Bool) (xs ys : List A) (n m k i : ℕ) (long : length (take n xs) ≡ k) (long' : length (take m ys) ≡ k)
    (le : k ≤ n) (le' : k ≤ m) (t : Bool) (inv : t ≡ same_all same (drop i (map v (take n xs))) (drop i (map v (take m ys)))) where
  row : (zs : List A) (j : ℕ) (d : A) → length (take j zs) ≡ k → k ≤ j → i < k
      → drop i (map v (take j zs)) ≡ v (get_or zs i d) ∷ drop (i + 1) (map v (take j zs))
  row zs j d e h w =
      rw (drop-cons (map v (take j zs)) i (v d) (rw (length-map (take j zs) v, e) w), get_or-map v (take j zs) i d, get_or-take j zs i d (omega arith), add-one)

  opened : (d : A) → i < k
      → t ≡ (same (v (get_or xs i d)) (v (get_or ys i d))) and same_all same (drop (i + 1) (map v (take n xs))) (drop (i + 1) (map v (take m ys)))
  unfolding same_all
  opened d w = inv ∙ rw (row xs n d long le w, row ys m d long' le' w)

  pub compare_on : (d : A) → i < k → same (v (get_or xs i d)) (v (get_or ys i d)) ≡ true
      → t ≡ same_all same (drop (i + 1) (map v (take n xs))) (drop (i + 1) (map v (take m ys)))
  unfolding ◌and◌
  compare_on d w e = opened d w ∙ rw e

  pub compare_stop : (d : A) → i < k → same (v (get_or xs i d)) (v (get_or ys i d)) ≡ false → false ≡ t
  unfolding ◌and◌
  compare_stop d w e = sym (opened d w ∙ rw e)

  pub compare_end : k ≤ i → true ≡ t
  unfolding same_all
  compare_end h =
      sym (inv ∙ rw (drop_of_length-le (map v (take n xs)) {i = i} (rw (length-map (take n xs) v, long) h), drop_of_length-le (map v (take m ys)) {i = i} (rw (length-map (take m ys) v, long') h)))
