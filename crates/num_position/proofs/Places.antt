-- What a position is of fields in range. Assumes nothing.
use Prim.Native.Nat.{ℕ, zero, suc, ◌≤◌}
use mathlib.Core.Path.{◌≡◌, refl, ◌∙◌}
use mathlib.Core.Bool.{true, false}
use native.Mathlib.Nat.{lt_of_le_of_lt}
use native.Mathlib.Omega.{arith}
use lib.Dec.{lit<}
use lib.IntN.{ℤ, pos, neg_ℤ}
use mir.Syntax.{w64}
use mir.Val.{SFits}
use Rattle.spec_position.specs.Positions.{turned, out_of_range, dec_size, signed_by, in_range, position_of, to_position}
use Rattle.spec_position.specs.declared.Fields.{Fields}
use Rattle.spec_position.proofs.FieldLaws.{ra_size, in_facts}
use Rattle.num_position.proofs.SignedLaws.{read, back, mag_neg}

signed_fits : (m n : ℕ) → n ≤ 324000000 → SFits w64 (signed_by m n)
signed_fits zero n h = record { sfits = lt_of_le_of_lt h (lit< tt) }
signed_fits (suc m) n h = record { sfits = lt_of_le_of_lt (mag_neg n) (lt_of_le_of_lt h (lit< tt)) }

sign_plus : (m n : ℕ) → m ≡ 0 → pos n ≡ signed_by m n
sign_plus zero n e = refl
sign_plus (suc m) n e = absurd (omega arith)

sign-minus : (m n : ℕ) → (m ≡ 0 → ⊥) → neg_ℤ (pos n) ≡ signed_by m n
sign-minus zero n e = absurd (e refl)
sign-minus (suc m) n e = refl

module _ (f : Fields) where
  pub not_placed_lem : in_range f ≡ false → out_of_range ≡ to_position f
  unfolding to_position
  not_placed_lem e = rw e refl

  module _ (a d : ℤ) (e : in_range f ≡ true) where
    ra_fits : SFits w64 (pos (ra_size f))
    ra_fits = let r = in_facts f e in record { sfits = omega arith }

    placed_as_lem : a ≡ pos (ra_size f) → d ≡ signed_by f.minus (dec_size f) → turned (record { ra = read a; dec = read d }) ≡ to_position f
    unfolding to_position position_of
    placed_as_lem p q = rw (e, p, q, back _ ra_fits, back _ (signed_fits f.minus (dec_size f) (in_facts f e).size)) refl

    pub placed_plus : f.minus ≡ 0 → a ≡ pos (ra_size f) → d ≡ pos (dec_size f) → turned (record { ra = read a; dec = read d }) ≡ to_position f
    placed_plus z p q = placed_as_lem p (q ∙ sign_plus f.minus (dec_size f) z)

    pub placed-minus : (f.minus ≡ 0 → ⊥) → a ≡ pos (ra_size f) → d ≡ neg_ℤ (pos (dec_size f)) → turned (record { ra = read a; dec = read d }) ≡ to_position f
    placed-minus z p q = placed_as_lem p (q ∙ sign-minus f.minus (dec_size f) z)
