-- Paper 02, 2.7: positions in hours and degrees, as definitions. `Fields` is what an editor types, `Position` its milliarcseconds; the four floats
-- of a vector are worked out from these. The laws are in proofs/. Definitions only.
use Rattle.std.specs.Prelude.{ℕ, zero, suc, ◌+◌, ◌*◌, ◌/◌, ◌%◌, Bool, true, false, cond, not, List, [], ◌∷◌, map, leb, eqb, ℤ, pos, negsuc, neg_ℤ, nat_abs, Float}
use Rattle.std.specs.Int.Signed.{le_z, quot_z, rem_z}
use Rattle.std.specs.Float.{binary32}
use Rattle.std.specs.Float.Ieee.{of_int}
use Rattle.spec.specs.Lists.{◌and◌}
use Rattle.spec.specs.Refusals as said
use Rattle.spec_position.specs.declared.Fields.{Fields}
use Rattle.spec_position.specs.declared.Position.{Position}

-- ---- how a turning ends

-- 30 'a field out of range', 31 'a right ascension with no whole thousandth of a second', 23 an output that is too short
pub data Turned (A : Type 0) : Type 0 where
  turned : A → Turned A
  out_of_range : Turned A
  no_thousandth : Turned A
  no_room : Turned A

-- the number of each case
abbrev pub number_of : {A : Type 0} → Turned A → ℕ
number_of (turned x) = 0
number_of out_of_range = 30
number_of no_thousandth = 31
number_of no_room = said.number_of said.no_room

-- ---- fields

-- a whole with its minutes and the thousandths of its seconds, all in thousandths
abbrev pub thousandths_of : (whole minutes thousandths : ℕ) → ℕ
thousandths_of a b c = (a * 60 + b) * 60000 + c

-- the size of a declination, in milliarcseconds
abbrev pub dec_size : Fields → ℕ
dec_size f = thousandths_of f.degrees f.arcminutes f.arcthousandths

-- 'Hours run 0 to 23, minutes 0 to 59, thousandths 0 to 59,999'
unfoldable pub ra_in : Fields → Bool
ra_in f = leb f.hours 23 and (leb f.minutes 59 and leb f.thousandths 59999)

-- 'degrees 0 to 90 with nothing beyond 90, minutes 0 to 59, thousandths 0 to 59,999'
unfoldable pub dec_in : Fields → Bool
dec_in f =
    leb f.degrees 90
    and (leb f.arcminutes 59 and (leb f.arcthousandths 59999 and leb (dec_size f) (thousandths_of 90 0 0)))

-- 0 is a plus, 1 a minus; 'a minus before zero is out of range'
unfoldable pub sign_in : Fields → Bool
sign_in f = cond (eqb f.minus 0) true (eqb f.minus 1 and not (eqb (dec_size f) 0))

unfoldable pub in_range : Fields → Bool
unfolding ra_in dec_in sign_in
in_range f = ra_in f and (dec_in f and sign_in f)

-- ---- milliarcseconds

-- 'a right ascension below 0 or above 1,295,999,985, a declination beyond 324,000,000 either way' is out of range
unfoldable pub within : Position → Bool
within p =
    (le_z (pos 0) p.ra and le_z p.ra (pos 1295999985))
    and (le_z (negsuc 323999999) p.dec and le_z p.dec (pos 324000000))

-- a size under a sign: 0 is a plus
abbrev pub signed_by : ℕ → ℕ → ℤ
signed_by zero n = pos n
signed_by (suc s) n = neg_ℤ (pos n)

-- 'one second of time is 15 arcseconds'
unfoldable pub position_of : Fields → Position
position_of f = record {
  ra = pos (thousandths_of f.hours f.minutes f.thousandths * 15);
  dec = signed_by f.minus (dec_size f);
}

-- below zero
abbrev pub is_minus : ℤ → Bool
is_minus (pos n) = false
is_minus (negsuc n) = true

-- the way back, from sizes: r thousandths of seconds, s of arcseconds
abbrev pub fields_by : ℕ → Bool → ℕ → Fields
fields_by r minus s = record {
  hours = r / 3600000;
  minutes = r / 60000 % 60;
  thousandths = r % 60000;
  minus = cond minus 1 0;
  degrees = s / 3600000;
  arcminutes = s / 60000 % 60;
  arcthousandths = s % 60000;
}

unfoldable pub fields_of : Position → Fields
fields_of p = fields_by (nat_abs p.ra / 15) (is_minus p.dec) (nat_abs p.dec)

-- a whole number of thousandths of a second
abbrev pub has_thousandth : Position → Bool
has_thousandth p = eqb (nat_abs p.ra % 15) 0

-- ---- floats

-- whole arcseconds, by size: rounded towards zero; and the left-over thousandths, under the same sign
abbrev pub arcseconds : ℤ → ℤ
arcseconds z = quot_z z (pos 1000)

abbrev pub left_over : ℤ → ℤ
left_over z = rem_z z (pos 1000)

-- 'right ascension's whole arcseconds and left-over thousandths, then declination's, carrying the sign'
abbrev pub numbers_of : Position → List ℤ
numbers_of p = arcseconds p.ra ∷ left_over p.ra ∷ arcseconds p.dec ∷ left_over p.dec ∷ []

-- the same as floats. That none of them is rounded and none is minus zero are laws
unfoldable pub floats_of : Position → List Float
floats_of p = map (of_int binary32) (numbers_of p)

-- ---- the three turnings

-- 30
unfoldable pub to_position : Fields → Turned Position
unfolding in_range position_of
to_position f = cond (in_range f) (turned (position_of f)) out_of_range

-- 30 of either coordinate, then 31
unfoldable pub to_fields : Position → Turned Fields
unfolding within fields_of
to_fields p = cond (within p) (cond (has_thousandth p) (turned (fields_of p)) no_thousandth) out_of_range

-- 30
unfoldable pub to_vector : Position → Turned (List Float)
unfolding within floats_of
to_vector p = cond (within p) (turned (floats_of p)) out_of_range
