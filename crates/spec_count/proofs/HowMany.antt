-- Laws of counting: how many members of a list pass, and how many lists over given members. Assumes nothing.
use Prim.Native.Nat.{ℕ, zero, suc, ◌+◌, ◌*◌, ◌^◌, ◌≤◌}
use mathlib.Core.Path.{◌≡◌, refl, sym, ap, ◌∙◌}
use mathlib.Core.Bool.{Bool, true, false, cond, not}
use mathlib.Core.List.{List, [], ◌∷◌, ◌++◌, map}
use native.Mathlib.Omega.{arith}
use native.Mathlib.Nat.{add-mul, pow-zero, pow-succ'}
use lib.ListN.{length}
use Rattle.spec.specs.Lists.{◌and◌, every, filter}
use Rattle.spec_count.specs.Tuples.{before, tuples, sequences, how_many}

-- one for what passes
abbrev pub one : Bool → ℕ
one true = 1
one false = 0

module _ {A : Type 0} where
  pub many_cons : (p : A → Bool) (x : A) (xs : List A) → how_many p (x ∷ xs) ≡ one (p x) + how_many p xs
  unfolding how_many filter
  many_cons p x xs = go (p x)
    where
      go : (b : Bool) → length (cond b (x ∷ filter p xs) (filter p xs)) ≡ one b + length (filter p xs)
      go true = omega arith
      go false = omega arith

  pub many-append : (p : A → Bool) (xs ys : List A) → how_many p (xs ++ ys) ≡ how_many p xs + how_many p ys
  unfolding how_many filter
  many-append p [] ys = omega arith
  many-append p (x ∷ xs) ys = omega (arith, many-append p xs ys, many_cons p x xs, many_cons p x (xs ++ ys))

  -- it hangs on what passes alone
  pub many-same : (p q : A → Bool) → ((x : A) → p x ≡ q x) → (xs : List A) → how_many p xs ≡ how_many q xs
  unfolding how_many filter
  many-same p q e [] = refl
  many-same p q e (x ∷ xs) = omega (arith, many-same p q e xs, many_cons p x xs, many_cons q x xs, ap one (e x))

  pub many-all : (xs : List A) → how_many (λ (x : A). true) xs ≡ length xs
  unfolding how_many filter
  many-all [] = refl
  many-all (x ∷ xs) = omega (arith, many-all xs, many_cons (λ (y : A). true) x xs)

  pub many-none : (xs : List A) → how_many (λ (x : A). false) xs ≡ 0
  unfolding how_many filter
  many-none [] = refl
  many-none (x ∷ xs) = omega (arith, many-none xs, many_cons (λ (y : A). false) x xs)

  -- those that pass p are those that pass q besides and those that do not
  pub many_split : (p q : A → Bool) (xs : List A)
      → how_many (λ (x : A). p x and not (q x)) xs + how_many (λ (x : A). p x and q x) xs ≡ how_many p xs
  unfolding how_many filter ◌and◌
  many_split p q [] = refl
  many_split p q (x ∷ xs) =
      omega (
        arith,
        many_split p q xs,
        many_cons p x xs,
        many_cons (λ (y : A). p y and not (q y)) x xs,
        many_cons (λ (y : A). p y and q y) x xs,
        go (p x) (q x),
      )
    where
      go : (a b : Bool) → one (a and not b) + one (a and b) ≡ one a
      go true true = refl
      go true false = refl
      go false true = refl
      go false false = refl

  -- no more of a list pass than it has members, and no more pass both tests than one
  pub many-most : (p : A → Bool) (xs : List A) → how_many p xs ≤ length xs
  unfolding how_many filter
  many-most p [] = omega arith
  many-most p (x ∷ xs) = omega (arith, many-most p xs, many_cons p x xs, go (p x))
    where
      go : (b : Bool) → one b ≤ 1
      go true = omega arith
      go false = omega arith

module _ {A B : Type 0} where
  many-map : (f : A → B) (p : B → Bool) (xs : List A) → how_many p (map f xs) ≡ how_many (λ (x : A). p (f x)) xs
  unfolding how_many filter
  many-map f p [] = refl
  many-map f p (x ∷ xs) = omega (arith, many-map f p xs, many_cons p (f x) (map f xs), many_cons (λ (y : A). p (f y)) x xs)

pub every_true : {A : Type 0} (xs : List A) → every (λ (x : A). true) xs ≡ true
unfolding every
every_true [] = refl
every_true (x ∷ xs) = every_true xs

-- ---- lists over given members

module _ {A : Type 0} (p : A → Bool) (f g : List A → Bool) (step : (x : A) (t : List A) → f (x ∷ t) ≡ p x and g t) where
  -- with a member in front: as many as pass behind it if it passes, else none
  many_headed : (x : A) (ts : List (List A)) → how_many (λ (t : List A). f (x ∷ t)) ts ≡ one (p x) * how_many g ts
  unfolding ◌and◌
  many_headed x ts = many-same (λ (t : List A). f (x ∷ t)) (λ (t : List A). p x and g t) (step x) ts ∙ go (p x)
    where
      go : (b : Bool) → how_many (λ (t : List A). b and g t) ts ≡ one b * how_many g ts
      go true = omega arith
      go false = many-none ts ∙ omega arith

  many-before : (xs : List A) (ts : List (List A)) → how_many f (before xs ts) ≡ how_many p xs * how_many g ts
  unfolding before how_many filter
  many-before [] ts = omega arith
  many-before (x ∷ xs) ts =
      many-append f (map (λ (t : List A). x ∷ t) ts) (before xs ts)
      ∙ ap (λ (n : ℕ). n + how_many f (before xs ts)) (many-map (λ (t : List A). x ∷ t) f ts ∙ many_headed x ts)
      ∙ ap (λ (n : ℕ). one (p x) * how_many g ts + n) (many-before xs ts)
      ∙ sym (add-mul (one (p x)) (how_many p xs) (how_many g ts))
      ∙ ap (λ (n : ℕ). n * how_many g ts) (sym (many_cons p x xs))

module _ {A : Type 0} (p : A → Bool) where
  every_cons : (x : A) (t : List A) → every p (x ∷ t) ≡ p x and every p t
  unfolding every ◌and◌
  every_cons x t = go (p x)
    where
      go : (b : Bool) → cond b (every p t) false ≡ b and every p t
      go true = refl
      go false = refl

  -- THE counting law: of the lists of n members those in which all pass
  pub many-tuples : (n : ℕ) (xs : List A) → how_many (every p) (tuples n xs) ≡ how_many p xs ^ n
  unfolding tuples how_many filter every
  many-tuples zero xs = sym (pow-zero (how_many p xs))
  many-tuples (suc n) xs =
      many-before p (every p) (every p) every_cons xs (tuples n xs)
      ∙ ap (λ (k : ℕ). how_many p xs * k) (many-tuples n xs)
      ∙ sym (pow-succ' (how_many p xs) n)

  sized_cons : (w : ℕ → Bool) (x : A) (t : List A)
      → w (suc (length t)) and every p (x ∷ t) ≡ p x and (w (suc (length t)) and every p t)
  unfolding every ◌and◌
  sized_cons w x t = go (w (suc (length t))) (p x)
    where
      go : (a b : Bool) → a and cond b (every p t) false ≡ b and (a and every p t)
      go true true = refl
      go true false = refl
      go false true = refl
      go false false = refl

  -- the same under a test of the length, which all of them pass or none
  pub many-sized : (w : ℕ → Bool) (n : ℕ) (xs : List A)
      → how_many (λ (l : List A). w (length l) and every p l) (tuples n xs) ≡ cond (w n) (how_many p xs ^ n) 0
  unfolding tuples how_many filter every ◌and◌
  many-sized w zero xs = go (w 0)
    where
      go : (b : Bool) → length {A = List A} (cond (b and true) ([] ∷ []) []) ≡ cond b (how_many p xs ^ 0) 0
      go true = sym (pow-zero (how_many p xs))
      go false = refl
  many-sized w (suc n) xs =
      many-before p (λ (l : List A). w (length l) and every p l) (λ (l : List A). w (suc (length l)) and every p l) (sized_cons w) xs (tuples n xs)
      ∙ ap (λ (k : ℕ). how_many p xs * k) (many-sized (λ k. w (suc k)) n xs)
      ∙ go (w (suc n))
    where
      go : (b : Bool) → how_many p xs * cond b (how_many p xs ^ n) 0 ≡ cond b (how_many p xs ^ suc n) 0
      go true = sym (pow-succ' (how_many p xs) n)
      go false = omega arith

-- the number of lists itself
pub length-tuples : {A : Type 0} (n : ℕ) (xs : List A) → length (tuples n xs) ≡ length xs ^ n
length-tuples {A} n xs =
    sym (many-all (tuples n xs)) ∙ many-same (λ (l : List A). true) (every (λ (x : A). true)) (λ l. sym (every_true l)) (tuples n xs)
    ∙ many-tuples (λ (x : A). true) n xs ∙ ap (λ (k : ℕ). k ^ n) (many-all xs)
