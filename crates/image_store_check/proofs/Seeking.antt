-- A binary search over keys that rise: what is known on either side of the middle. Assumes nothing.
use Prim.Native.Nat.{ℕ, ◌+◌, ◌≤◌, ◌<◌}
use mathlib.Core.Path.{sym, subst}
use mathlib.Core.List.{List}
use native.Mathlib.Omega.{arith}
use lib.ListN.{get_or}
use Rattle.spec_laws.proofs.Nearest.Tests.{Test, less, same, more, test}
use Rattle.log_check.specs.Conditions.{Rises}

module _ (ks : List ℕ) (n id : ℕ) (f : Rises ks n) (mid : ℕ) where
  pub seek_up : mid < n → get_or ks mid 0 < id → (j : ℕ) → j < mid + 1 → get_or ks j 0 < id
  seek_up h l j g = go (test j mid)
    where
      go : Test j mid → get_or ks j 0 < id
      go (less a b c) = let u = f j mid a h in omega arith
      go (same a b c) = subst (λ (k : ℕ). get_or ks k 0 < id) (sym a) l
      go (more a b c) = absurd (omega arith)

  pub seek_down : id ≤ get_or ks mid 0 → (j : ℕ) → mid ≤ j → j < n → id ≤ get_or ks j 0
  seek_down l j h g = go (test mid j)
    where
      go : Test mid j → id ≤ get_or ks j 0
      go (less a b c) = let u = f mid j a g in omega arith
      go (same a b c) = subst (λ (k : ℕ). id ≤ get_or ks k 0) a l
      go (more a b c) = absurd (omega arith)
