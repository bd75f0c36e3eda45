-- A property of every row in use, after a row is set or put in. Assumes nothing.
use mathlib.Core.Path.{◌≡◌, sym, subst}
use mathlib.Core.Bool.{Bool, true}
use mathlib.Core.List.{List, [], ◌∷◌, ◌++◌}
use Prim.Native.Nat.{ℕ, zero, suc, ◌<◌}
use lib.ListN.{take, drop, set}
use lib.Seq.{take-set-lt}
use Rattle.spec.specs.Lists.{every}
use Rattle.spec_laws.proofs.Map.Rows.{every_tail, every_cons}

module _ {ℓ} {A : Type ℓ} (p : A → Bool) where
  every_set : (l : List A) (i : ℕ) (x : A) → every p l ≡ true → p x ≡ true → every p (set l i x) ≡ true
  every_set [] i x h e = h
  every_set (y ∷ ys) zero x h e = every_cons p x ys e (every_tail p y ys h).1
  every_set (y ∷ ys) (suc i) x h e = every_cons p y (set ys i x) (every_tail p y ys h).0 (every_set ys i x (every_tail p y ys h).1 e)

  every-insert : (l : List A) (i : ℕ) (x : A) → every p l ≡ true → p x ≡ true → every p (take i l ++ x ∷ drop i l) ≡ true
  every-insert l zero x h e = every_cons p x l e h
  every-insert [] (suc i) x h e = every_cons p x [] e h
  every-insert (y ∷ ys) (suc i) x h e =
      every_cons p y (take i ys ++ x ∷ drop i ys) (every_tail p y ys h).0 (every-insert ys i x (every_tail p y ys h).1 e)

  -- one row in use set
  pub set-row : (xs : List A) (n i : ℕ) (x : A) → i < n → every p (take n xs) ≡ true → p x ≡ true → every p (take n (set xs i x)) ≡ true
  set-row xs n i x h k e = subst (λ (l : List A). every p l ≡ true) (sym (take-set-lt n xs i x h)) (every_set (take n xs) i x k e)

  -- one row more, put in among those in use
  pub insert-rows : (xs ys : List A) (n m i : ℕ) (x : A) → take m ys ≡ take i (take n xs) ++ x ∷ drop i (take n xs) → every p (take n xs) ≡ true
      → p x ≡ true → every p (take m ys) ≡ true
  insert-rows xs ys n m i x q k e = subst (λ (l : List A). every p l ≡ true) (sym q) (every-insert (take n xs) i x k e)
