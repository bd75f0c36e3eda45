-- The laws of 2.7, met by positions that a catalogue has: Rigel, a place just south of the equator, and one whose right ascension has no whole
-- thousandth of a second. Assumes nothing.
use Prim.Native.Nat.{ℕ}
use mathlib.Core.Path.{◌≡◌, refl, ap}
use native.Mathlib.Omega.{arith}
use mathlib.Core.Bool.{true}
use lib.IntN.{pos, negsuc, nat_abs}
use Rattle.spec.specs.Lists.{◌and◌}
use Rattle.spec.specs.Nearest.Distance.{vector_in_domain}
use Rattle.spec_position.specs.Positions.{turned, no_thousandth, in_range, ra_in, dec_in, sign_in, within, position_of, fields_of, numbers_of, floats_of, to_position, to_fields}
use Rattle.spec_position.specs.declared.Fields.{Fields}
use Rattle.spec_position.specs.declared.Position.{Position}
use Rattle.spec_position.proofs.Laws.{there_and_back, back_and_there}
use Rattle.spec_position.proofs.FloatLaws.{Each, Exact, exact, floats_fix, in_domain_lem}
use Rattle.spec_position.proofs.Refusals.{fields_31}

abbrev rigel : Fields
rigel = record {
  hours = 5;
  minutes = 14;
  thousandths = 32272;
  minus = 1;
  degrees = 8;
  arcminutes = 12;
  arcthousandths = 5898;
}

rigel_in : in_range rigel ≡ true
unfolding in_range ra_in dec_in sign_in ◌and◌
rigel_in = refl

pub rigel-back : to_fields (position_of rigel) ≡ turned rigel
rigel-back = there_and_back rigel rigel_in

-- just south of the equator
abbrev south : Position
south = record { ra = pos 283084080; dec = negsuc 499 }

south-within : within south ≡ true
unfolding within ◌and◌
south-within = refl

pub south-there : to_position (fields_of south) ≡ turned south
south-there = back_and_there south south-within refl

pub south_exact : Each Exact (numbers_of south) (floats_of south)
south_exact = exact south south-within

pub south_in_domain : vector_in_domain (floats_of south) ≡ true
south_in_domain = in_domain_lem south south-within

-- between two thousandths of a second: floats all the same, and no fields
abbrev between : Position
between = record { ra = pos 283084081; dec = negsuc 499 }

between-within : within between ≡ true
unfolding within ◌and◌
between-within = refl

pub between_31 : to_fields between ≡ no_thousandth
between_31 = (fields_31 between).1 (between-within, refl)

-- one milliarcsecond tells their floats apart
pub apart : floats_of south ≡ floats_of between → ⊥
apart e =
    let z : ◌≡◌ {A = ℕ} 283084080 283084081 = ap (λ (p : Position). nat_abs p.ra) (floats_fix south between south-within between-within e) in
    omega arith
