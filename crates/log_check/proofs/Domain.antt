-- Every element of a list, of its parts, and what a test of all carries that does not stop early. Assumes nothing.
use Prim.Native.Nat.{ℕ, zero, suc, ◌+◌, ◌*◌, ◌≤◌, ◌<◌}
use mathlib.Core.Path.{◌≡◌, refl, sym, ap, ◌∙◌}
use mathlib.Core.Bool.{Bool, true, false}
use mathlib.Core.List.{List, [], ◌∷◌}
use native.Mathlib.Numerals.{add-one}
use native.Mathlib.Omega.{arith}
use lib.Ieee.{Float}
use lib.ListN.{length, take, drop, get_or}
use lib.Seq.{take-nil}
use Rattle.spec.specs.Lists.{◌and◌, every}
use Rattle.spec.specs.Node.WellFormed.{component}
use Rattle.spec_laws.proofs.Map.Rows.{every_tail, every_cons}
use Rattle.log_store.specs.Store.{every_below}
use Rattle.log_check.proofs.Answers.{and_none, and_all}
use Rattle.log_store.proofs.Checking.{every-on, every_stop, every-end}
use Rattle.log_check.specs.Entries.{StretchFits}

module _ {ℓ} {A : Type ℓ} (p : A → Bool) where
  -- a shorter front
  pub every_front : (n k : ℕ) (l : List A) → k ≤ n → every p (take n l) ≡ true → every p (take k l) ≡ true
  unfolding every
  every_front n zero l h e = refl
  every_front n (suc k) [] h e = refl
  every_front zero (suc k) (x ∷ l) h e = absurd (omega arith)
  every_front (suc n) (suc k) (x ∷ l) h e =
      let r = every_tail p x (take n l) e in every_cons p x (take k l) r.0 (every_front n k l (omega arith) r.1)

  -- a part of a front
  pub every-part : (n a k : ℕ) (l : List A) → a + k ≤ n → every p (take n l) ≡ true → every p (take k (drop a l)) ≡ true
  unfolding every
  every-part n zero k l h e = every_front n k l (omega arith) e
  every-part n (suc a) k [] h e = ap (every p) (take-nil k)
  every-part zero (suc a) k (x ∷ l) h e = absurd (omega arith)
  every-part (suc n) (suc a) k (x ∷ l) h e = every-part n a k l (omega arith) (every_tail p x (take n l) e).1

  module _ (l : List A) (i : ℕ) (d : A) where
    -- a test of all without early exit: what was found so far, and the rest
    pub pass_on : (ok : Bool) → p (get_or l i d) ≡ true → i < length l → ok and every p (drop (i + 1) l) ≡ ok and every p (drop i l)
    pass_on ok q h = ap (λ (v : Bool). ok and v) (sym (every-on p l i d q h))

    pub pass_out : (ok : Bool) → p (get_or l i d) ≡ false → i < length l → false and every p (drop (i + 1) l) ≡ ok and every p (drop i l)
    unfolding ◌and◌
    pass_out ok q h = sym (and_none ok) ∙ ap (λ (v : Bool). ok and v) (sym (every_stop p l i d q h))

  pub pass_end : (ok : Bool) (l : List A) (i : ℕ) → length l ≤ i → ok ≡ ok and every p (drop i l)
  pass_end ok l i h = sym (ap (λ (v : Bool). ok and v) (every-end p l i h) ∙ and_all ok)

-- the same of the places of a column
module _ (p : ℕ → Bool) (i : ℕ) where
  pub column_on : (ok : Bool) → p i ≡ true → ok ≡ every_below p i → ok ≡ every_below p (i + 1)
  unfolding every_below
  column_on ok q e = e ∙ sym (ap (every_below p) (add-one i) ∙ ap (λ (v : Bool). every_below p i and v) q ∙ and_all (every_below p i))

  pub column_out : p i ≡ false → false ≡ every_below p (i + 1)
  unfolding every_below
  column_out q = sym (ap (every_below p) (add-one i) ∙ ap (λ (v : Bool). every_below p i and v) q ∙ and_none (every_below p i))

-- the stretches of n entries, if all floats up to the last of them lie in the domain
pub stretches : (fs : List Float) (n i e : ℕ) → i < n → e ≡ n * 32 → every component (take e fs) ≡ true → StretchFits fs i
stretches fs n i e h q w = every-part component e (i * 32) 32 fs (omega arith) w
