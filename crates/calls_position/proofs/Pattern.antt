-- The pattern of a signed number, from the sign and the size that are read back from its bits. Assumes nothing.
use Prim.Native.Nat.{ℕ, ◌-◌, ◌≤◌}
use mathlib.Core.Path.{◌≡◌, refl, sym, ap, ◌∙◌, subst}
use mathlib.Core.Bool.{Bool, true, false}
use mathlib.Core.List.{List}
use native.Mathlib.Omega.{arith}
use lib.IntN.{ℤ, pos, negsuc, nat_abs}
use lib.Signed.{nat_abs-le}
use mir.Syntax.{w64}
use mir.Val.{SFits}
use Rattle.spec_laws.proofs.Lists.{not_both}
use Rattle.spec_position.specs.Positions.{is_minus, to_fields, to_vector}
use Rattle.spec_position.specs.declared.Position.{Position}
use Rattle.num_position.proofs.SignedLaws.{read, back}
use Rattle.calls_position.specs.Calls.{pattern_of, fields_bytes, vector_bytes, at, written, Answers, Divides, Vectors}

some : (z : ℤ) → is_minus z ≡ true → 1 ≤ nat_abs z
some (pos k) m = not_both false m refl
some (negsuc k) m = omega arith

down : (z : ℤ) → is_minus z ≡ true → 18446744073709551615 - (nat_abs z - 1) ≡ pattern_of z
down (pos k) m = not_both false m refl
down (negsuc k) m = omega arith

plain : (z : ℤ) → is_minus z ≡ false → nat_abs z ≡ pattern_of z
plain (pos k) m = refl
plain (negsuc k) m = not_both true refl m

module _ (z : ℤ) (f : SFits w64 z) (b : Bool) (n : ℕ) (e : (b ≡ is_minus (read z)) × (n ≡ nat_abs (read z))) where
  sign-is : b ≡ is_minus z
  sign-is = e.0 ∙ ap is_minus (back z f)

  size_is : n ≡ nat_abs z
  size_is = e.1 ∙ ap nat_abs (back z f)

  pub some_size : b ≡ true → 1 ≤ n
  some_size t = rw size_is (some z (sym sign-is ∙ t))

  pub one_less : n - 1 ≤ 18446744073709551615
  one_less = let h = nat_abs-le z f.sfits in omega (arith, size_is)

  pub down_from_lem : b ≡ true → 18446744073709551615 - (n - 1) ≡ pattern_of z
  down_from_lem t = rw size_is (down z (sym sign-is ∙ t))

  pub plain_size : b ≡ false → n ≡ pattern_of z
  plain_size t = size_is ∙ plain z (sym sign-is ∙ t)

pub pattern_read : (z : ℤ) → SFits w64 z → pattern_of (read z) ≡ pattern_of z
pattern_read z f = ap pattern_of (back z f)

-- a position that is made of two numbers read back is made of the two
pub read_at_lem : (ra dec : ℤ) → SFits w64 ra → SFits w64 dec → at (read ra) (read dec) ≡ at ra dec
read_at_lem ra dec f g = rw (back ra f, back dec g) refl

-- so a call on what is read back is the call
module _ (ra dec : ℤ) (f : SFits w64 ra) (g : SFits w64 dec) (s t : List ℕ) (r : ℕ) where
  pub divides_read : Divides (read ra) (read dec) s t r → Divides ra dec s t r
  divides_read = subst (λ (p : Position). Answers (written fields_bytes (to_fields p)) s t r) (read_at_lem ra dec f g)

  pub vectors-read : Vectors (read ra) (read dec) s t r → Vectors ra dec s t r
  vectors-read = subst (λ (p : Position). Answers (written vector_bytes (to_vector p)) s t r) (read_at_lem ra dec f g)
