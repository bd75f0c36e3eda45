-- Laws of counting: the rows of an array that pass, one after the other; the row of an id in a table; a line for each row. Assumes nothing.
use mathlib.Core.Path.{◌≡◌, refl, sym, ap, ◌∙◌}
use mathlib.Core.Bool.{Bool, true, false, cond, not}
use mathlib.Core.List.{List, [], ◌∷◌, ◌++◌, map}
use Prim.Native.Nat.{ℕ, suc, ◌+◌, ◌≤◌, ◌<◌}
use native.Mathlib.Numerals.{add-one}
use native.Mathlib.Omega.{arith}
use lib.ListN.{length, take, drop, get_or, set, drop_of_length-le}
use lib.Seq.{drop-cons, get_or-take, length-take-le, take-suc}
use lib.Dec.{ltb}
use borrow.Author.Tests.{ltb-true, ltb-false}
use Rattle.spec.specs.Lists.{any, filter, lead}
use Rattle.map_tables.proofs.Tables.{used-size, used-row}
use Rattle.map_place.proofs.Collecting.{map-append, map_add}

-- ---- rows that pass

module _ {A : Type 0} (p : A → Bool) where
  one_more : (x : A) (xs : List A) → length (filter p (x ∷ xs)) ≡ cond (p x) (suc (length (filter p xs))) (length (filter p xs))
  unfolding filter
  one_more x xs = go (p x)
    where
      go : (b : Bool) → length (cond b (x ∷ filter p xs) (filter p xs)) ≡ cond b (suc (length (filter p xs))) (length (filter p xs))
      go true = refl
      go false = refl

  module _ (xs : List A) (n : ℕ) (le : n ≤ length xs) (t m i : ℕ) (inv : t ≡ m + length (filter p (drop i (take n xs)))) where
    opened : (d : A) → i < n
        → length (filter p (drop i (take n xs)))
        ≡ cond (p (get_or xs i d)) (suc (length (filter p (drop (i + 1) (take n xs))))) (length (filter p (drop (i + 1) (take n xs))))
    opened d h =
        rw (drop-cons (take n xs) i d (rw (length-take-le n xs le) h), get_or-take n xs i d h, add-one) (one_more (get_or xs i d) (drop (suc i) (take n xs)))

    pub count-on : (d : A) → i < n → p (get_or xs i d) ≡ true → t ≡ (m + 1) + length (filter p (drop (i + 1) (take n xs)))
    count-on d h e =
        let q : length (filter p (drop i (take n xs))) ≡ suc (length (filter p (drop (i + 1) (take n xs)))) = opened d h ∙ rw e in
        omega arith

    pub count_past : (d : A) → i < n → p (get_or xs i d) ≡ false → t ≡ m + length (filter p (drop (i + 1) (take n xs)))
    count_past d h e =
        let q : length (filter p (drop i (take n xs))) ≡ length (filter p (drop (i + 1) (take n xs))) = opened d h ∙ rw e in
        omega arith

    pub count-end : n ≤ i → m ≡ t
    unfolding filter
    count-end h =
        let q : length (filter p (drop i (take n xs))) ≡ 0 = rw (drop_of_length-le (take n xs) {i = i} (rw (length-take-le n xs le) h)) in
        omega arith

-- ---- the row of an id

module _ {A : Type 0} (p : A → Bool) where
  pub found-any : (l : List A) → lead (λ x. not (p x)) l < length l → any p l ≡ true
  unfolding lead any
  found-any [] h = absurd (omega arith)
  found-any (x ∷ xs) h = go (p x) h (found-any xs)
    where
      go : (b : Bool) → cond (not b) (suc (lead (λ x. not (p x)) xs)) 0 < suc (length xs) → (lead (λ x. not (p x)) xs < length xs → any p xs ≡ true)
          → cond b true (any p xs) ≡ true
      go true k f = refl
      go false k f = f (omega arith)

  pub missed_any : (l : List A) → length l ≤ lead (λ x. not (p x)) l → any p l ≡ false
  unfolding lead any
  missed_any [] h = refl
  missed_any (x ∷ xs) h = go (p x) h (missed_any xs)
    where
      go : (b : Bool) → suc (length xs) ≤ cond (not b) (suc (lead (λ x. not (p x)) xs)) 0 → (length xs ≤ lead (λ x. not (p x)) xs → any p xs ≡ false)
          → cond b true (any p xs) ≡ false
      go true k f = absurd (omega arith)
      go false k f = f (omega arith)

-- a row in use passes exactly where the first that passes is before their end
pub known_as : {A B : Type 0} (p : B → Bool) (v : A → B) (xs : List A) (n at : ℕ) → n ≤ length xs → at ≡ lead (λ x. not (p x)) (map v (take n xs))
    → ltb at n ≡ any p (map v (take n xs))
known_as p v xs n at le e = go (ltb at n) refl
  where
    go : (b : Bool) → ltb at n ≡ b → b ≡ any p (map v (take n xs))
    go true q = sym (found-any p (map v (take n xs)) (omega (arith, ltb-true at n q, e, used-size v xs n le)))
    go false q = sym (missed_any p (map v (take n xs)) (omega (arith, ltb-false at n q, e, used-size v xs n le)))

-- ---- a line for each row

-- one line more, made of the next row
pub line-next : {A B C D : Type 0} (v : A → B) (g : C → B) (w : D → C) (out : List A) (xs : List D) (n i : ℕ) (d : D) (y : A) → n ≤ length xs → i < n → i < length out
    → map v (take i out) ≡ map g (take i (map w (take n xs))) → v y ≡ g (w (get_or xs i d))
    → map v (take (i + 1) (set out i y)) ≡ map g (take (i + 1) (map w (take n xs)))
line-next {B = B} {C = C} v g w out xs n i d y le h k inv q =
    let r : take (i + 1) (map w (take n xs)) ≡ take i (map w (take n xs)) ++ (w (get_or xs i d) ∷ []) =
    ap (λ (j : ℕ). take j (map w (take n xs))) (add-one i)
    ∙ take-suc (map w (take n xs)) i (w d) (rw (used-size w xs n le) h)
    ∙ ap (λ (z : C). take i (map w (take n xs)) ++ (z ∷ [])) (used-row w xs n le i d h) in
    map_add v out i y k
    ∙ ap (λ (z : List B). z ++ (v y ∷ [])) inv
    ∙ ap (λ (z : B). map g (take i (map w (take n xs))) ++ (z ∷ [])) q
    ∙ sym (ap (map g) r ∙ map-append g (take i (map w (take n xs))) (w (get_or xs i d) ∷ []))
