-- What `within` asks of the sizes of a position. Assumes nothing.
use Prim.Native.Nat.{ℕ, suc, ◌≤◌, zero-le}
use mathlib.Core.Path.{◌≡◌, refl, sym, ◌∙◌}
use mathlib.Core.Bool.{Bool, true, false, not}
use native.Mathlib.Omega.{arith}
use borrow.Author.Tests.{leb-true, le-leb}
use lib.Dec.{leb}
use lib.IntN.{ℤ, pos, negsuc, nat_abs}
use lib.Signed.{le_z}
use Rattle.spec.specs.Lists.{◌and◌}
use Rattle.spec_laws.proofs.Lists.{not_both, and_left, and_right}
use Rattle.spec_position.specs.Positions.{within, is_minus}
use Rattle.spec_position.specs.Sizes.{sizes_within}
use Rattle.spec_position.specs.declared.Position.{Position}

-- two tests that follow from one another are one
pub same_test : (a b c d : ℕ) → (a ≤ b → c ≤ d) → (c ≤ d → a ≤ b) → leb a b ≡ leb c d
same_test a b c d f g = go (leb a b) refl
  where
    go : (t : Bool) → leb a b ≡ t → t ≡ leb c d
    go true e = sym (le-leb c d (f (leb-true a b e)))
    go false e = other (leb c d) refl
      where
        other : (u : Bool) → leb c d ≡ u → false ≡ u
        other true q = not_both (leb a b) (le-leb a b (g (leb-true c d q))) e
        other false q = refl

and_true' : (a : Bool) → (a and true) ≡ a
unfolding ◌and◌
and_true' true = refl
and_true' false = refl

and_assoc : (a b c : Bool) → ((a and b) and c) ≡ (a and (b and c))
unfolding ◌and◌
and_assoc true b c = refl
and_assoc false b c = refl

ra_by : (z : ℤ) → (le_z (pos 0) z and le_z z (pos 1295999985)) ≡ (not (is_minus z) and leb (nat_abs z) 1295999985)
unfolding ◌and◌
ra_by (pos n) = rw (le-leb 0 n zero-le) refl
ra_by (negsuc n) = refl

dec_by : (z : ℤ) → (le_z (negsuc 323999999) z and le_z z (pos 324000000)) ≡ leb (nat_abs z) 324000000
unfolding ◌and◌
dec_by (pos n) = refl
dec_by (negsuc n) =
    and_true' (leb n 323999999)
    ∙ same_test n 323999999 (suc n) 324000000 (λ h. omega arith) (λ h. omega arith)

pub within-sizes : (p : Position) → within p ≡ sizes_within (is_minus p.ra) (nat_abs p.ra) (nat_abs p.dec)
unfolding within sizes_within
within-sizes p = rw (ra_by p.ra, dec_by p.dec) (and_assoc _ _ _)

pub sizes_bounds : (m : Bool) (r s : ℕ) → sizes_within m r s ≡ true → (m ≡ false) × ((r ≤ 1295999985) × (s ≤ 324000000))
unfolding sizes_within ◌and◌
sizes_bounds true r s e = not_both false e refl
sizes_bounds false r s e = (refl, (leb-true _ _ (and_left _ _ e), leb-true _ _ (and_right (leb r 1295999985) _ e)))
