-- Maps of one and two numbers with one place changed, and facts of every element of a list. Assumes nothing.
use Prim.Native.Nat.{ℕ, zero, suc, ◌+◌, ◌≤◌, ◌<◌}
use mathlib.Core.Path.{◌≡◌, refl, sym, ap, ◌∙◌, subst, fun_ext}
use mathlib.Core.Bool.{Bool, true, false, cond}
use mathlib.Core.List.{List, [], ◌∷◌, ◌++◌}
use mathlib.Core.Option.{Option, none, some}
use native.Mathlib.Omega.{arith}
use lib.Dec.{eqb}
use lib.ListN.{length, take, drop}
use borrow.Author.Tests.{eqb-true, eqb-false}
use Rattle.spec.specs.Lists.{nth}
use Rattle.spec_laws.proofs.Lists.{by-test, nth-nil, nth-same}

-- the map f, with x at n
unfoldable pub upd {ℓ} : {A : Type ℓ} → (ℕ → A) → ℕ → A → ℕ → A
upd f n x m = cond (eqb m n) x (f m)

module _ {ℓ} {A : Type ℓ} where
  pub upd_same : (f : ℕ → A) (n : ℕ) (x : A) → upd f n x n ≡ x
  unfolding upd
  upd_same f n x = by-test (λ v. v ≡ x) (eqb n n) (λ e. refl) (λ e. absurd (eqb-false n n e refl))

  pub upd_other : (f : ℕ → A) (n : ℕ) (x : A) (m : ℕ) → (m ≡ n → ⊥) → upd f n x m ≡ f m
  unfolding upd
  upd_other f n x m h = by-test (λ v. v ≡ f m) (eqb m n) (λ e. absurd (h (eqb-true m n e))) (λ e. refl)

  -- a fact of every place of the changed map: of the new value, and of the old ones elsewhere
  pub upd-all {κ} : (P : ℕ → A → Type κ) {f : ℕ → A} {n : ℕ} {x : A}
      → P n x → ((m : ℕ) → (m ≡ n → ⊥) → P m (f m)) → (m : ℕ) → P m (upd f n x m)
  unfolding upd
  upd-all P {f} {n} {x} hx hf m =
      by-test (P m) (eqb m n) (λ e. subst (λ (k : ℕ). P k x) (sym (eqb-true m n e)) hx) (λ e. hf m (eqb-false m n e))

  -- what a change at one place leaves, it leaves everywhere
  pub upd-keeps {κ} : {B : Type κ} (c : A → B) (f : ℕ → A) (n : ℕ) (x : A) → c x ≡ c (f n) → (m : ℕ) → c (upd f n x m) ≡ c (f m)
  upd-keeps c f n x q = upd-all (λ m v. c v ≡ c (f m)) q (λ m ne. refl)

-- by cases on whether two numbers are equal
pub same_or {κ} : (P : Type κ) (m n : ℕ) → (m ≡ n → P) → ((m ≡ n → ⊥) → P) → P
same_or P m n f g = go (eqb m n) refl
  where
    go : (t : Bool) → eqb m n ≡ t → P
    go true q = f (eqb-true m n q)
    go false q = g (eqb-false m n q)

-- a map of two numbers, with v at a and b
unfoldable pub upd2 {ℓ} : {A : Type ℓ} → (ℕ → ℕ → A) → ℕ → ℕ → A → ℕ → ℕ → A
upd2 f a b v = upd f a (upd (f a) b v)

module _ {ℓ} {A : Type ℓ} where
  pub upd2-all {κ} : (P : ℕ → ℕ → A → Type κ) {f : ℕ → ℕ → A} {a b : ℕ} {v : A}
      → P a b v → ((c d : ℕ) → (c ≡ a → d ≡ b → ⊥) → P c d (f c d)) → (c d : ℕ) → P c d (upd2 f a b v c d)
  unfolding upd2
  upd2-all P {f} {a} {b} {v} hv hf =
      upd-all (λ c (r : ℕ → A). (d : ℕ) → P c d (r d))
      (upd-all (λ d w. P a d w) hv (λ d ne. hf a d (λ _ q. ne q))) (λ c ne d. hf c d (λ q _. ne q))

  pub upd2-same : (f : ℕ → ℕ → A) (a b : ℕ) (v : A) → upd2 f a b v a b ≡ v
  unfolding upd2
  upd2-same f a b v = rw (upd_same f a (upd (f a) b v)) (upd_same (f a) b v)

  pub upd2-other : (f : ℕ → ℕ → A) (a b : ℕ) (v : A) (c d : ℕ) → (c ≡ a → d ≡ b → ⊥) → upd2 f a b v c d ≡ f c d
  upd2-other f a b v c d ne =
      upd2-all (λ c' d' w. (c' ≡ a → d' ≡ b → ⊥) → w ≡ f c' d') {f = f} {a = a} {b = b} {v = v}
      (λ n. absurd (n refl refl)) (λ c' d' n m. refl) c d ne

-- by cases on whether two pairs of numbers are equal
pub at_pair {κ} : (P : Type κ) (c d a b : ℕ) → (c ≡ a → d ≡ b → P) → ((c ≡ a → d ≡ b → ⊥) → P) → P
at_pair P c d a b f g = same_or P c a (λ p. same_or P d b (λ q. f p q) (λ n. g (λ _ q. n q))) (λ n. g (λ p _. n p))

-- P holds of every element
abbrev pub All {ℓ κ} : {A : Type ℓ} → (A → Type κ) → List A → Type κ
All P [] = Unit
All P (x ∷ xs) = P x × All P xs

pub all_map {ℓ κ} : {A : Type ℓ} {P Q : A → Type κ} → ((x : A) → P x → Q x) → (l : List A) → All P l → All Q l
all_map f [] h = tt
all_map f (x ∷ xs) h = (f x h.0, all_map f xs h.1)

pub all_both {ℓ κ} : {A : Type ℓ} {P Q R : A → Type κ} → ((x : A) → P x → Q x → R x) → (l : List A) → All P l → All Q l → All R l
all_both f [] h k = tt
all_both f (x ∷ xs) h k = (f x h.0 k.0, all_both f xs h.1 k.1)

pub all_snoc {ℓ κ} : {A : Type ℓ} (P : A → Type κ) (l : List A) (x : A) → All P l → P x → All P (l ++ (x ∷ []))
all_snoc P [] x h p = (p, tt)
all_snoc P (y ∷ ys) x h p = (h.0, all_snoc P ys x h.1 p)

pub all-nth {ℓ κ} : {A : Type ℓ} (P : A → Type κ) (l : List A) (i : ℕ) (x : A) → All P l → nth l i ≡ some x → P x
unfolding nth
all-nth P [] i x h e = nth-nil i x e
all-nth P (y ∷ ys) zero x h e = subst P (nth-same (y ∷ ys) 0 y x refl e) h.0
all-nth P (y ∷ ys) (suc i) x h e = all-nth P ys i x h.1 e

pub nth-all {ℓ κ} : {A : Type ℓ} (P : A → Type κ) (l : List A) → ((i : ℕ) (x : A) → nth l i ≡ some x → P x) → All P l
unfolding nth
nth-all P [] f = tt
nth-all P (y ∷ ys) f = (f 0 y refl, nth-all P ys (λ i. f (suc i)))

-- a list without its element at a place
unfoldable pub remove_at {ℓ} : {A : Type ℓ} → List A → ℕ → List A
remove_at [] i = []
remove_at (x ∷ xs) zero = xs
remove_at (x ∷ xs) (suc i) = x ∷ remove_at xs i

pub all_remove {ℓ κ} : {A : Type ℓ} (P : A → Type κ) (l : List A) (i : ℕ) → All P l → All P (remove_at l i)
unfolding remove_at
all_remove P [] i h = tt
all_remove P (y ∷ ys) zero h = h.1
all_remove P (y ∷ ys) (suc i) h = (h.0, all_remove P ys i h.1)

-- how many elements pass
unfoldable pub count {ℓ} : {A : Type ℓ} → (A → Bool) → List A → ℕ
count p [] = 0
count p (x ∷ xs) = cond (p x) 1 0 + count p xs

module _ {ℓ} {A : Type ℓ} (p : A → Bool) where
  pub count_snoc : (l : List A) (x : A) → count p (l ++ (x ∷ [])) ≡ cond (p x) 1 0 + count p l
  unfolding count
  count_snoc [] x = refl
  count_snoc (y ∷ ys) x = let h = count_snoc ys x in omega arith

  pub count_remove : (l : List A) (i : ℕ) (x : A) → nth l i ≡ some x → count p l ≡ cond (p x) 1 0 + count p (remove_at l i)
  unfolding count nth remove_at
  count_remove [] i x e = nth-nil i x e
  count_remove (y ∷ ys) zero x e = let u : y ≡ x = nth-same (y ∷ ys) 0 y x refl e in rw u
  count_remove (y ∷ ys) (suc i) x e = let h = count_remove ys i x e in omega arith

  -- without an element that passes, none is counted
  pub count_none : (l : List A) → All (λ x. p x ≡ false) l → count p l ≡ 0
  unfolding count
  count_none [] h = refl
  count_none (y ∷ ys) h = rw (h.0, count_none ys h.1)
