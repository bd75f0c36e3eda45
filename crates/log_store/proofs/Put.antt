-- Where `put` and `filter` change a list, over any element: at the place behind the leading elements that stand below.
-- Assumes nothing.
use Prim.Native.Nat.{ℕ, suc, ◌≤◌, ◌<◌}
use mathlib.Core.Path.{◌≡◌, refl, sym, ap, ◌∙◌, subst}
use mathlib.Core.Bool.{Bool, true, false}
use mathlib.Core.List.{List, [], ◌∷◌, ◌++◌}
use native.Mathlib.Omega.{arith}
use lib.ListN.{length, take, drop, get_or}
use Rattle.spec.specs.Lists.{lead, put, filter}
use Rattle.spec_laws.proofs.Lists.{by-test}

module _ {ℓ} {A : Type ℓ} where
  pub lead_true : (p : A → Bool) (y : A) (ys : List A) → p y ≡ true → lead p (y ∷ ys) ≡ suc (lead p ys)
  unfolding lead
  lead_true p y ys e = rw e

  pub lead_false : (p : A → Bool) (y : A) (ys : List A) → p y ≡ false → lead p (y ∷ ys) ≡ 0
  unfolding lead
  lead_false p y ys e = rw e

  pub lead-most : (p : A → Bool) (l : List A) → lead p l ≤ length l
  unfolding lead
  lead-most p [] = omega arith
  lead-most p (y ∷ ys) =
      let h = lead-most p ys in by-test (λ n. n ≤ suc (length ys)) (p y) (λ e. omega arith) (λ e. omega arith)

  pub filter_true : (p : A → Bool) (y : A) (ys : List A) → p y ≡ true → filter p (y ∷ ys) ≡ y ∷ filter p ys
  unfolding filter
  filter_true p y ys e = rw e

  pub filter_false : (p : A → Bool) (y : A) (ys : List A) → p y ≡ false → filter p (y ∷ ys) ≡ filter p ys
  unfolding filter
  filter_false p y ys e = rw e

module _ {ℓ} {A : Type ℓ} (lt : A → A → Bool) (asym : (a b : A) → lt a b ≡ true → lt b a ≡ false) (x d : A) where
  put-below : (y : A) (ys : List A) → lt y x ≡ true → put lt x (y ∷ ys) ≡ y ∷ put lt x ys
  unfolding put
  put-below y ys e = rw (asym y x e, e)

  put_above : (y : A) (ys : List A) → lt x y ≡ true → put lt x (y ∷ ys) ≡ x ∷ y ∷ ys
  unfolding put
  put_above y ys e = rw e

  put_same : (y : A) (ys : List A) → lt x y ≡ false → lt y x ≡ false → put lt x (y ∷ ys) ≡ x ∷ ys
  unfolding put
  put_same y ys e f = rw (e, f)

  put-nil : put lt x [] ≡ x ∷ []
  unfolding put
  put-nil = refl

  abbrev below : A → Bool
  below y = lt y x

  abbrev Level : List A → ℕ → Type ℓ
  Level l k = k < length l → lt x (get_or l k d) ≡ false → put lt x l ≡ take k l ++ x ∷ drop (suc k) l

  -- the element behind the leading ones below x is level with it: x takes its place
  pub put-level : (l : List A) → Level l (lead below l)
  put-level [] = λ h q. absurd (no_place (lead below []) h)
    where
      no_place : (n : ℕ) → n < 0 → ⊥
      no_place n h = omega arith
  put-level (y ∷ ys) = go (lt y x) refl (put-level ys)
    where
      go : (b : Bool) → lt y x ≡ b → Level ys (lead below ys) → Level (y ∷ ys) (lead below (y ∷ ys))
      go true e ih =
          subst (Level (y ∷ ys)) (sym (lead_true below y ys e))
          (λ h q. put-below y ys e ∙ ap (λ (r : List A). y ∷ r) (ih (omega arith) q))
      go false e ih = subst (Level (y ∷ ys)) (sym (lead_false below y ys e)) (λ h q. put_same y ys q e)

  abbrev Between : List A → ℕ → Type ℓ
  Between l k = (k < length l → lt x (get_or l k d) ≡ true) → put lt x l ≡ take k l ++ x ∷ drop k l

  -- x stands below it, or there is none: x goes between
  pub put-between : (l : List A) → Between l (lead below l)
  unfolding lead
  put-between [] = λ q. put-nil
  put-between (y ∷ ys) = go (lt y x) refl (put-between ys)
    where
      go : (b : Bool) → lt y x ≡ b → Between ys (lead below ys) → Between (y ∷ ys) (lead below (y ∷ ys))
      go true e ih =
          subst (Between (y ∷ ys)) (sym (lead_true below y ys e))
          (λ q. put-below y ys e ∙ ap (λ (r : List A). y ∷ r) (ih (λ h. q (omega arith))))
      go false e ih = subst (Between (y ∷ ys)) (sym (lead_false below y ys e)) (λ q. put_above y ys (q (omega arith)))
