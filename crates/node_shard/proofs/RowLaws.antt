-- One row found and changed: in the array by its place, in the list by a test. Over any element. Assumes nothing.
use mathlib.Core.List.{List, [], ◌∷◌}
use mathlib.Core.Path.{◌≡◌, refl, ap, sym, ◌∙◌}
use mathlib.Core.Bool.{Bool, true, false, cond, not}
use mathlib.Core.Option.{none, some}
use Prim.Native.Nat.{ℕ, suc, zero, ◌<◌, ◌≤◌}
use native.Mathlib.Omega.{arith}
use lib.ListN.{length, take, get_or, set}
use lib.Seq.{length-take-le, get_or-take, take-set-lt}
use Rattle.spec.specs.Lists.{lead, find, any}
use Rattle.spec.specs.Map.Apply.{update}

module _ {A : Type 0} (p : A → Bool) where
  -- the elements before the first that passes
  abbrev before : A → Bool
  before x = not (p x)

  update-at : (f : A → A) (d : A) (l : List A) → lead before l < length l → update p f l ≡ set l (lead before l) (f (get_or l (lead before l) d))
  unfolding update lead
  update-at f d [] h = absurd (omega arith)
  update-at f d (x ∷ xs) h = go (p x) h (update-at f d xs)
    where
      go : (b : Bool) → cond (not b) (suc (lead before xs)) zero < suc (length xs)
          → (lead before xs < length xs → update p f xs ≡ set xs (lead before xs) (f (get_or xs (lead before xs) d)))
          → cond b (f x ∷ xs) (x ∷ update p f xs)
          ≡ set (x ∷ xs) (cond (not b) (suc (lead before xs)) zero) (f (get_or (x ∷ xs) (cond (not b) (suc (lead before xs)) zero) d))
      go true h more = refl
      go false h more = ap (λ (l : List A). x ∷ l) (more (omega arith))

  update-out : (f : A → A) (l : List A) → length l ≤ lead before l → update p f l ≡ l
  unfolding update lead
  update-out f [] h = refl
  update-out f (x ∷ xs) h = go (p x) h (update-out f xs)
    where
      go : (b : Bool) → suc (length xs) ≤ cond (not b) (suc (lead before xs)) zero → (length xs ≤ lead before xs → update p f xs ≡ xs)
          → cond b (f x ∷ xs) (x ∷ update p f xs) ≡ x ∷ xs
      go true h more = absurd (omega arith)
      go false h more = ap (λ (l : List A). x ∷ l) (more (omega arith))

  find_at : (d : A) (l : List A) → lead before l < length l → find p l ≡ some (get_or l (lead before l) d)
  unfolding find lead
  find_at d [] h = absurd (omega arith)
  find_at d (x ∷ xs) h = go (p x) h (find_at d xs)
    where
      go : (b : Bool) → cond (not b) (suc (lead before xs)) zero < suc (length xs)
          → (lead before xs < length xs → find p xs ≡ some (get_or xs (lead before xs) d))
          → cond b (some x) (find p xs) ≡ some (get_or (x ∷ xs) (cond (not b) (suc (lead before xs)) zero) d)
      go true h more = refl
      go false h more = more (omega arith)

  find-out : (l : List A) → length l ≤ lead before l → find p l ≡ none
  unfolding find lead
  find-out [] h = refl
  find-out (x ∷ xs) h = go (p x) h (find-out xs)
    where
      go : (b : Bool) → suc (length xs) ≤ cond (not b) (suc (lead before xs)) zero → (length xs ≤ lead before xs → find p xs ≡ none)
          → cond b (some x) (find p xs) ≡ none
      go true h more = absurd (omega arith)
      go false h more = more (omega arith)

  any_at : (l : List A) → lead before l < length l → any p l ≡ true
  unfolding any lead
  any_at [] h = absurd (omega arith)
  any_at (x ∷ xs) h = go (p x) h (any_at xs)
    where
      go : (b : Bool) → cond (not b) (suc (lead before xs)) zero < suc (length xs) → (lead before xs < length xs → any p xs ≡ true)
          → cond b true (any p xs) ≡ true
      go true h more = refl
      go false h more = more (omega arith)

  any_out : (l : List A) → length l ≤ lead before l → any p l ≡ false
  unfolding any lead
  any_out [] h = refl
  any_out (x ∷ xs) h = go (p x) h (any_out xs)
    where
      go : (b : Bool) → suc (length xs) ≤ cond (not b) (suc (lead before xs)) zero → (length xs ≤ lead before xs → any p xs ≡ false)
          → cond b true (any p xs) ≡ false
      go true h more = absurd (omega arith)
      go false h more = more (omega arith)

  -- ---- the same of a table in use

  module _ (xs : List A) (n at : ℕ) (le : n ≤ length xs) (is : at ≡ lead before (take n xs)) where
    pub row-set : (f : A → A) (d q : A) → at < n → q ≡ f (get_or xs at d) → take n (set xs at q) ≡ update p f (take n xs)
    row-set f d q h e =
        take-set-lt n xs at q h
        ∙ ap (set (take n xs) at) (e ∙ ap f (sym (get_or-take n xs at d h)))
        ∙ ap (λ (j : ℕ). set (take n xs) j (f (get_or (take n xs) j d))) is
        ∙ sym (update-at f d (take n xs) (let l = length-take-le n xs le in omega arith))

    pub row_kept : (f : A → A) → n ≤ at → take n xs ≡ update p f (take n xs)
    row_kept f h = sym (update-out f (take n xs) (let l = length-take-le n xs le in omega arith))

    pub row-found : (d : A) → at < n → find p (take n xs) ≡ some (get_or xs at d)
    row-found d h =
        find_at d (take n xs) (let l = length-take-le n xs le in omega arith)
        ∙ ap (λ (j : ℕ). some (get_or (take n xs) j d)) (sym is) ∙ ap some (get_or-take n xs at d h)

    pub row_missing : n ≤ at → find p (take n xs) ≡ none
    row_missing h = find-out (take n xs) (let l = length-take-le n xs le in omega arith)

    pub row-there : at < n → any p (take n xs) ≡ true
    row-there h = any_at (take n xs) (let l = length-take-le n xs le in omega arith)

    pub row-absent : n ≤ at → any p (take n xs) ≡ false
    row-absent h = any_out (take n xs) (let l = length-take-le n xs le in omega arith)
