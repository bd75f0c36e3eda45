-- Laws of a test of every element of a list, from a place on. Assumes nothing.
use Prim.Native.Nat.{ℕ, suc, ◌+◌, ◌≤◌, ◌<◌}
use mathlib.Core.Path.{◌≡◌, sym, ap, ◌∙◌}
use mathlib.Core.Bool.{Bool, true, false, cond}
use mathlib.Core.List.{List}
use native.Mathlib.Numerals.{add-one}
use lib.Dec.{T}
use lib.Ieee.{Float, binary32, fits}
use lib.ListN.{length, drop, get_or, drop_of_length-le}
use lib.Seq.{drop-cons}
use Rattle.spec.specs.Lists.{◌and◌, every}
use Rattle.spec.specs.Nearest.Order.{in_domain}
use Rattle.spec.specs.Node.WellFormed.{component}
use Rattle.spec_laws.proofs.Nearest.Tests.{is_true}

-- ---- every element, from a place on

module _ {ℓ} {A : Type ℓ} (p : A → Bool) (l : List A) (i : ℕ) (d : A) where
  every-head : (b : Bool) → p (get_or l i d) ≡ b → i < length l → every p (drop i l) ≡ cond b (every p (drop (i + 1) l)) false
  unfolding every
  every-head b q h =
      ap (every p) (drop-cons l i d h)
      ∙ ap (λ (v : Bool). cond v (every p (drop (suc i) l)) false) q
      ∙ ap (λ (n : ℕ). cond b (every p (drop n l)) false) (sym (add-one i))

  pub every-on : p (get_or l i d) ≡ true → i < length l → every p (drop i l) ≡ every p (drop (i + 1) l)
  every-on q h = every-head true q h

  pub every_stop : p (get_or l i d) ≡ false → i < length l → every p (drop i l) ≡ false
  every_stop q h = every-head false q h

pub every-end {ℓ} : {A : Type ℓ} (p : A → Bool) (l : List A) (i : ℕ) → length l ≤ i → every p (drop i l) ≡ true
unfolding every
every-end p l i h = ap (every p) (drop_of_length-le l {i = i} h)

-- a stored float fits its type, so that its domain alone is tested
pub component-is : (x : Float) (b : Bool) → T (fits binary32 x) → b ≡ in_domain x → component x ≡ b
unfolding ◌and◌
component-is x b f e = ap (λ (v : Bool). v and in_domain x) (is_true (fits binary32 x) f) ∙ sym e
