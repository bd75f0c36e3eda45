-- What a call over intact images is shown to do: it leaves intact images, and answers 24 only for what it was lent beside them. Assumes nothing.
use Prim.Native.Nat.{ℕ}
use mathlib.Core.Path.{◌≡◌, sym, subst}
use mathlib.Core.Bool.{Bool, true, false}
use mathlib.Core.Logic.{◌⊎◌}
use mathlib.Core.List.{List}
use Rattle.thm_never_malformed.specs.Intact.{Intact}

-- the images h and s after a call that answered r; `beside` says whether what it was lent beside them is well formed
pub record Keeps (beside : Bool) (h s : List ℕ) (r : ℕ) : Type 0 where
  pub intact : Intact h s
  pub fine : beside ≡ true → r ≡ 24 → ⊥

-- images that a call left as they were
pub unwritten : (h s h' s' : List ℕ) → Intact h s → (h' ≡ h) × (s' ≡ s) → Intact h' s'
unwritten h s h' s' i (a, b) = subst (λ (g : List ℕ). Intact g s') (sym a) (subst (Intact h) (sym b) i)

-- how a call at a shard ends that answers r, or `number` if it is refused: it left both images, or it wrote them, which it does only where it is not
-- turned down; 24 is a refusal's
pub record Ends (h s h' s' : List ℕ) (down : Bool) (number r : ℕ) : Type 0 where
  pub left : ((h' ≡ h) × (s' ≡ s)) ⊎ ((down ≡ false) × (r ≡ 0))
  pub refused : r ≡ 24 → number ≡ 24
