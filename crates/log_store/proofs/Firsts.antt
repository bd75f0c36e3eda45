-- Laws of `firsts`, f of 0, 1, .. n − 1, over any element. Assumes nothing.
use Prim.Native.Nat.{ℕ, zero, suc, ◌+◌, ◌≤◌, ◌<◌}
use mathlib.Core.Path.{◌≡◌, refl, sym, ap, ◌∙◌, subst}
use mathlib.Core.List.{[], ◌∷◌, ◌++◌}
use mathlib.Core.Option.{none, some}
use mathlib.Core.Logic.{⊎_elim}
use native.Mathlib.Nat.{eq-or-lt_of_le}
use native.Mathlib.Numerals.{add-one}
use native.Mathlib.Omega.{arith}
use lib.ListN.{length, take, get_or, length-append, get_or-append}
use lib.Seq.{get_or_at, take-append-le, take_all}
use Rattle.spec.specs.Lists.{nth}
use Rattle.spec_laws.proofs.Lists.{nth_get_d, nth-none}
use Rattle.log_store.specs.View.{firsts}

module _ {ℓ} {A : Type ℓ} (f : ℕ → A) where
  pub firsts-length : (n : ℕ) → length (firsts f n) ≡ n
  unfolding firsts
  firsts-length zero = refl
  firsts-length (suc n) = length-append (firsts f n) (f n ∷ []) ∙ omega (arith, firsts-length n)

  pub firsts_at : (n i : ℕ) (d : A) → i < n → get_or (firsts f n) i d ≡ f i
  unfolding firsts
  firsts_at zero i d h = absurd (omega arith)
  firsts_at (suc n) i d h =
      ⊎_elim
      (λ e. rw e (get_or_at (firsts f n) (f n) [] d n (firsts-length n)))
      (λ lt. get_or-append (firsts f n) (f n ∷ []) d i (rw (firsts-length n) lt) ∙ firsts_at n i d lt)
      (eq-or-lt_of_le {n = i} {m = n} (omega arith))

  pub nth-firsts : (n i : ℕ) → i < n → nth (firsts f n) i ≡ some (f i)
  nth-firsts n i h =
      nth_get_d (firsts f n) i (f i) (subst (λ m. i < m) (sym (firsts-length n)) h)
      ∙ ap some (firsts_at n i (f i) h)

  pub nth_firsts_past : (n i : ℕ) → n ≤ i → nth (firsts f n) i ≡ none
  nth_firsts_past n i h = nth-none (firsts f n) i (subst (λ m. m ≤ i) (sym (firsts-length n)) h)

  pub firsts-next : (n : ℕ) → firsts f (n + 1) ≡ firsts f n ++ (f n ∷ [])
  unfolding firsts
  firsts-next n = rw add-one

  -- a prefix
  pub firsts-take : (n k : ℕ) → k ≤ n → take k (firsts f n) ≡ firsts f k
  unfolding firsts
  firsts-take zero k h = let e : k ≡ 0 = omega arith in rw e
  firsts-take (suc n) k h =
      ⊎_elim
      (λ e. rw e (take_all (suc n) (firsts f (suc n)) (subst (λ m. m ≤ suc n) (sym (firsts-length (suc n))) (omega arith))))
      (λ (lt : k < suc n). take-append-le k (firsts f n) (f n ∷ []) (rw (firsts-length n) (omega arith)) ∙ firsts-take n k (omega arith))
      (eq-or-lt_of_le {n = k} {m = suc n} h)

pub firsts_same {ℓ} : {A : Type ℓ} (f g : ℕ → A) (n : ℕ) → ((i : ℕ) → i < n → f i ≡ g i) → firsts f n ≡ firsts g n
unfolding firsts
firsts_same f g zero h = refl
firsts_same f g (suc n) h = rw (firsts_same f g n (λ i p. h i (omega arith)), h n (omega arith))
