-- What equals itself is a number. Assumes nothing.
use mathlib.Core.Path.{◌≡◌, refl}
use mathlib.Core.Bool.{true, false, not}
use lib.Dec.{T}
use lib.Ieee.{Float, nan, inf, fin, eq, is_nan}
use Rattle.spec_laws.proofs.Lists.{not_both}

pub self_number : (x : Float) → eq x x ≡ true → T (not (is_nan x))
unfolding eq is_nan
self_number nan e = not_both false e refl
self_number (inf t) e = tt
self_number (fin t m d) e = tt
