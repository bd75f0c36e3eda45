-- Paper 02, 2.7: cases that decide, computed from the definitions. Assumes nothing.
use mathlib.Core.Path.{◌≡◌, refl}
use mathlib.Core.List.{List, [], ◌∷◌, map}
use Prim.Native.Nat.{ℕ}
use lib.IntN.{ℤ, pos, negsuc}
use lib.Ieee.{binary32, of_int, round, to_bits}
use Rattle.spec.specs.Lists.{◌and◌}
use Rattle.spec_position.specs.Positions.{turned, out_of_range, no_thousandth, in_range, ra_in, dec_in, sign_in, within, position_of, fields_of, numbers_of, floats_of, to_position, to_fields}
use Rattle.spec_position.specs.declared.Fields.{Fields}
use Rattle.spec_position.specs.declared.Position.{Position}

abbrev typed : (hours minutes thousandths minus degrees arcminutes arcthousandths : ℕ) → Fields
typed h m t s d a b = record {
  hours = h;
  minutes = m;
  thousandths = t;
  minus = s;
  degrees = d;
  arcminutes = a;
  arcthousandths = b;
}

abbrev at : ℤ → ℤ → Position
at r d = record { ra = r; dec = d }

-- the ends are reached: the last right ascension, and 90 degrees under either sign
pub last_north : to_position (typed 23 59 59999 0 90 0 0) ≡ turned (at (pos 1295999985) (pos 324000000))
unfolding to_position in_range ra_in dec_in sign_in position_of ◌and◌
last_north = refl

pub first-south : to_position (typed 0 0 0 1 90 0 0) ≡ turned (at (pos 0) (negsuc 323999999))
unfolding to_position in_range ra_in dec_in sign_in position_of ◌and◌
first-south = refl

-- a minus before zero, and before the smallest size
pub minus_before_zero : to_position (typed 1 2 3 1 0 0 0) ≡ out_of_range
unfolding to_position in_range ra_in dec_in sign_in ◌and◌
minus_before_zero = refl

pub minus_before_one : to_position (typed 1 2 3 1 0 0 1) ≡ turned (at (pos 55800045) (negsuc 0))
unfolding to_position in_range ra_in dec_in sign_in position_of ◌and◌
minus_before_one = refl

-- nothing beyond 90 degrees; no other sign
pub beyond_90 : to_position (typed 0 0 0 0 90 0 1) ≡ out_of_range
unfolding to_position in_range ra_in dec_in sign_in ◌and◌
beyond_90 = refl

pub third-sign : to_position (typed 0 0 0 2 1 0 0) ≡ out_of_range
unfolding to_position in_range ra_in dec_in sign_in ◌and◌
third-sign = refl

-- below a full circle, and still out of range; 30 before 31; 31
pub below_a_circle : to_fields (at (pos 1295999986) (pos 0)) ≡ out_of_range
unfolding to_fields within ◌and◌
below_a_circle = refl

pub thirty_first : to_fields (at (pos 7) (pos 324000001)) ≡ out_of_range
unfolding to_fields within ◌and◌
thirty_first = refl

pub no_thousandth_lem : to_fields (at (pos 7) (pos 0)) ≡ no_thousandth
unfolding to_fields within ◌and◌
no_thousandth_lem = refl

-- the way back: a small southern declination keeps its minus, zero has a plus
pub south : to_fields (at (pos 15) (negsuc 499)) ≡ turned (typed 0 0 1 1 0 0 500)
unfolding to_fields within fields_of ◌and◌
south = refl

pub equator : to_fields (at (pos 0) (pos 0)) ≡ turned (typed 0 0 0 0 0 0 0)
unfolding to_fields within fields_of ◌and◌
equator = refl

-- both of declination's numbers carry the sign, by size
pub half-second : numbers_of (at (pos 1500) (negsuc 499)) ≡ pos 1 ∷ pos 500 ∷ pos 0 ∷ negsuc 499 ∷ []
half-second = refl

-- plus zero beside a minus: the patterns of 1,295,999; 985; -1 and +0
pub patterns : map (to_bits binary32) (floats_of (at (pos 1295999985) (negsuc 999))) ≡ 0x499E33F8 ∷ 0x44764000 ∷ 0xBF800000 ∷ 0 ∷ []
unfolding floats_of of_int round to_bits
patterns = refl
