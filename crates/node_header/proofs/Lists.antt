-- Laws of tests over rows that are read as something else, and of two tests that agree. Assumes nothing.
use mathlib.Core.Path.{◌≡◌, refl, sym, ap, ◌∙◌}
use mathlib.Core.Bool.{Bool, true, false, cond}
use mathlib.Core.List.{List, [], ◌∷◌, map}
use Prim.Native.Nat.{ℕ, zero, suc, ◌+◌, ◌<◌, ◌≤◌}
use lib.ListN.{length, take, drop, get_or}
use Rattle.spec.specs.Lists.{◌and◌, any, every, lead, rising}
use Rattle.spec_laws.proofs.Map.Rows.{every_tail, every_cons}
use Rattle.node_shard.proofs.Loops.{used-next, used_over}

-- a test that holds or does not
pub by_case : {P : Type 0} (b : Bool) → (b ≡ true → P) → (b ≡ false → P) → P
by_case true f g = f refl
by_case false f g = g refl

-- two tests, each of which follows from the other
pub agree : (a b : Bool) → (a ≡ true → b ≡ true) → (b ≡ true → a ≡ true) → a ≡ b
agree true b f g = sym (f refl)
agree false true f g = g refl
agree false false f g = refl

module _ {A B : Type 0} (v : A → B) where
  pub map-lead : (p : B → Bool) (l : List A) → lead p (map v l) ≡ lead (λ x. p (v x)) l
  unfolding lead
  map-lead p [] = refl
  map-lead p (x ∷ xs) = ap (λ (m : ℕ). cond (p (v x)) (suc m) zero) (map-lead p xs)

  pub map-any : (p : B → Bool) (l : List A) → any p (map v l) ≡ any (λ x. p (v x)) l
  unfolding any
  map-any p [] = refl
  map-any p (x ∷ xs) = ap (λ (b : Bool). cond (p (v x)) true b) (map-any p xs)

  pub map-every : (p : B → Bool) (l : List A) → every p (map v l) ≡ every (λ x. p (v x)) l
  unfolding every
  map-every p [] = refl
  map-every p (x ∷ xs) = ap (λ (b : Bool). cond (p (v x)) b false) (map-every p xs)

  pub map-rising : (lt : B → B → Bool) (l : List A) → rising lt (map v l) ≡ rising (λ x y. lt (v x) (v y)) l
  unfolding rising
  map-rising lt [] = refl
  map-rising lt (x ∷ []) = refl
  map-rising lt (x ∷ y ∷ ys) = ap (λ (b : Bool). lt (v x) (v y) and b) (map-rising lt (y ∷ ys))

-- a test that two others together imply
pub every_both : {A : Type 0} (p q r : A → Bool) → ((x : A) → p x ≡ true → q x ≡ true → r x ≡ true) → (l : List A)
    → every p l ≡ true → every q l ≡ true → every r l ≡ true
unfolding every
every_both p q r f [] a b = refl
every_both p q r f (x ∷ xs) a b =
    let c = every_tail p x xs a in
    let d = every_tail q x xs b in
    every_cons r x xs (f x c.0 d.0) (every_both p q r f xs c.1 d.1)

-- some row from a place on
module _ {A : Type 0} (p : A → Bool) (xs : List A) (n i : ℕ) (le : n ≤ length xs) (b : Bool) (inv : b ≡ any p (drop i (take n xs))) where
  pub some_on : (d : A) → i < n → p (get_or xs i d) ≡ false → b ≡ any p (drop (i + 1) (take n xs))
  unfolding any
  some_on d h e = inv ∙ rw (used-next xs n i d le h, e)

  pub some_stop : (d : A) → i < n → p (get_or xs i d) ≡ true → true ≡ b
  unfolding any
  some_stop d h e = sym (inv ∙ rw (used-next xs n i d le h, e))

  pub some_end : n ≤ i → false ≡ b
  unfolding any
  some_end h = sym (inv ∙ rw (used_over xs n i le h))
