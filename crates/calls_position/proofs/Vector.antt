-- The floats of a position have patterns of their own. Assumes nothing.
use Prim.Native.Nat.{ℕ}
use mathlib.Core.Path.{◌≡◌, refl, subst}
use mathlib.Core.Bool.{Bool, true, false, cond, not}
use mathlib.Core.List.{List}
use native.Mathlib.Omega.{arith}
use lib.Dec.{T}
use lib.Ieee.{Float, nan, inf, fin, is_nan}
use lib.Ieee.Exact.{HasValue}
use Rattle.spec_position.specs.Positions.{turned, out_of_range, within, floats_of, to_vector}
use Rattle.spec_position.specs.declared.Position.{Position}
use Rattle.spec_position.proofs.FloatLaws.{exact}
use Rattle.calls_position.specs.Calls.{Numbers}

value-number : (x : Float) (s : Bool) (n : ℕ) → HasValue x s n 1 → T (not (is_nan x))
unfolding is_nan
value-number nan s n v = absurd v
value-number (inf t) s n v = tt
value-number (fin t m e) s n v = tt

floats_numbers : (p : Position) → within p ≡ true → Numbers (floats_of p)
unfolding floats_of
floats_numbers p w =
    let e = exact p w in
    (value-number _ _ _ e.0.value, (value-number _ _ _ e.1.0.value, (value-number _ _ _ e.1.1.0.value, (value-number _ _ _ e.1.1.1.0.value, tt))))

pub vector_numbers : (p : Position) (xs : List Float) → to_vector p ≡ turned xs → Numbers xs
unfolding to_vector
vector_numbers p xs = go (within p) refl
  where
    go : (b : Bool) → within p ≡ b → cond b (turned (floats_of p)) out_of_range ≡ turned xs → Numbers xs
    go true w e = let q : floats_of p ≡ xs = cc in subst Numbers q (floats_numbers p w)
    go false w e = let z : ◌≡◌ {A = ℕ} 0 1 = cc in absurd (omega arith)
