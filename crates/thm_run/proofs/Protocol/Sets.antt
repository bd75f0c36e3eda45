-- Sets of node ids as lists: only membership is asked. Assumes nothing.
use Prim.Native.Nat.{ℕ}
use mathlib.Core.Path.{◌≡◌, refl, sym, ◌∙◌}
use mathlib.Core.Bool.{Bool, true, false, cond}
use mathlib.Core.List.{List, [], ◌∷◌}
use native.Mathlib.Omega.{arith}
use lib.Dec.{eqb}
use borrow.Author.Tests.{eqb-true, eqb-false}
use Rattle.spec.specs.Lists.{every}
use Rattle.spec_laws.proofs.Lists.{by-test, not_both}

unfoldable pub member : ℕ → List ℕ → Bool
member n [] = false
member n (x ∷ xs) = cond (eqb n x) true (member n xs)

unfoldable pub without : ℕ → List ℕ → List ℕ
without n [] = []
without n (x ∷ xs) = let r = without n xs in cond (eqb n x) r (x ∷ r)

abbrev pub In : ℕ → List ℕ → Type 0
In n l = member n l ≡ true

pub in_cons : (m n : ℕ) (l : List ℕ) → In m l → In m (n ∷ l)
unfolding member
in_cons m n l h = by-test (λ v. v ≡ true) (eqb m n) (λ e. refl) (λ e. h)

pub in_head : (n : ℕ) (l : List ℕ) → In n (n ∷ l)
unfolding member
in_head n l = by-test (λ v. v ≡ true) (eqb n n) (λ e. refl) (λ e. absurd (eqb-false n n e refl))

-- a member of a longer set is the new one or an old one
pub of_cons {κ} : {P : Type κ} (m n : ℕ) (l : List ℕ) → (m ≡ n → P) → (In m l → P) → In m (n ∷ l) → P
unfolding member
of_cons {P = P} m n l f g = by-test (λ v. v ≡ true → P) (eqb m n) (λ e h. f (eqb-true m n e)) (λ e h. g h)

pub not_nil {κ} : {P : Type κ} (n : ℕ) → In n [] → P
unfolding member
not_nil n h = not_both false h refl

pub of_without : (m n : ℕ) (l : List ℕ) → In m (without n l) → In m l
unfolding without
of_without m n [] = λ h. h
of_without m n (x ∷ xs) =
    by-test (λ v. In m v → In m (x ∷ xs)) (eqb n x)
    (λ e h. in_cons m x xs (of_without m n xs h))
    (λ e. of_cons m x (without n xs) (λ q. mine q) (λ h. in_cons m x xs (of_without m n xs h)))
  where
    mine : m ≡ x → In m (x ∷ xs)
    mine q = rw q (in_head x xs)

pub in_without : (m n : ℕ) (l : List ℕ) → (m ≡ n → ⊥) → In m l → In m (without n l)
unfolding without
in_without m n [] ne = λ h. h
in_without m n (x ∷ xs) ne =
    of_cons m x xs
    (λ q. by-test (In m) (eqb n x) (λ e. absurd (ne (q ∙ sym (eqb-true n x e)))) (λ e. rw q (in_head x (without n xs))))
    (λ h. by-test (In m) (eqb n x) (λ e. in_without m n xs ne h) (λ e. in_cons m x (without n xs) (in_without m n xs ne h)))

pub not_without : (n : ℕ) (l : List ℕ) → In n (without n l) → ⊥
unfolding without
not_without n [] = λ h. not_nil n h
not_without n (x ∷ xs) =
    by-test (λ v. In n v → ⊥) (eqb n x) (λ e h. not_without n xs h)
    (λ e. of_cons n x (without n xs) (λ q. eqb-false n x e q) (λ h. not_without n xs h))

-- what every element passes, each member passes
pub every_in : (p : ℕ → Bool) (l : List ℕ) → every p l ≡ true → (m : ℕ) → In m l → p m ≡ true
unfolding every
every_in p [] = λ h m i. not_nil m i
every_in p (x ∷ xs) =
    by-test (λ v. v ≡ true → (m : ℕ) → In m (x ∷ xs) → p m ≡ true) (p x)
    (λ e h m. of_cons m x xs (λ q. rw q e) (λ i. every_in p xs h m i))
    (λ e h. not_both false h refl)
