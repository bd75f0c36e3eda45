-- Paper 02, 2.7, for hosts: what each call answers, and every byte of its buffer at exit. s and t are the buffer at entry and at exit, r is the number
-- that is answered. Definitions only.
use Rattle.std.specs.Prelude.{ℕ, suc, ◌-◌, ◌^◌, ◌≡◌, cond, not, List, [], ◌∷◌, map, T, leb, ℤ, pos, negsuc, Float, length}
use Rattle.std.specs.Float.Ieee.{is_nan}
use Rattle.std.proofs.lemmas.List.Edits.{sets}
use Rattle.spec.specs.Layout.Format.{bytes_of, concat_map, encode, All}
use Rattle.spec.specs.Layout.Parts.{vector_f}
use Rattle.spec.specs.Node.Wire.{bits_of}
use Rattle.spec_position.specs.Positions.{Turned, turned, out_of_range, no_thousandth, no_room, number_of, to_position, to_fields, to_vector}
use Rattle.spec_position.specs.declared.Fields.{Fields}
use Rattle.spec_position.specs.declared.Position.{Position}

-- ---- bytes

-- an i64, least significant byte first: two's complement
abbrev pub pattern_of : ℤ → ℕ
pattern_of (pos n) = n
pattern_of (negsuc n) = 2 ^ 64 - suc n

-- 16 bytes: right ascension and declination
unfoldable pub position_bytes : Position → List ℕ
position_bytes p = concat_map (bytes_of 8) (pattern_of p.ra ∷ pattern_of p.dec ∷ [])

-- 28 bytes: the fields in their order
unfoldable pub fields_bytes : Fields → List ℕ
fields_bytes f =
    concat_map (bytes_of 4)
    (f.hours ∷ f.minutes ∷ f.thousandths ∷ f.minus ∷ f.degrees ∷ f.arcminutes ∷ f.arcthousandths ∷ [])

-- a vector as a message carries it: a count byte, and the pattern of each float
unfoldable pub vector_bytes : List Float → List ℕ
vector_bytes xs = encode vector_f (map bits_of xs)

-- floats that have a pattern of their own
abbrev pub Numbers : List Float → Type 0
Numbers = All (λ (x : Float). T (not (is_nan x)))

-- ---- answers

module _ {A : Type 0} where
  -- the bytes of what is answered
  abbrev pub written : (A → List ℕ) → Turned A → Turned (List ℕ)
  written f (turned x) = turned (f x)
  written f out_of_range = out_of_range
  written f no_thousandth = no_thousandth
  written f no_room = no_room

-- 23, last: the buffer is shorter than the answer
abbrev pub in_room : List ℕ → Turned (List ℕ) → Turned (List ℕ)
in_room s (turned b) = cond (leb (length b) (length s)) (turned b) no_room
in_room s out_of_range = out_of_range
in_room s no_thousandth = no_thousandth
in_room s no_room = no_room

-- an answer stands from the buffer's start on, and what lies behind it stays; beside a refusal nothing changes
abbrev pub leaves : List ℕ → Turned (List ℕ) → List ℕ
leaves s (turned b) = sets s 0 b
leaves s out_of_range = s
leaves s no_thousandth = s
leaves s no_room = s

pub record Answers (x : Turned (List ℕ)) (s t : List ℕ) (r : ℕ) : Type 0 where
  pub number : r ≡ number_of (in_room s x)
  pub bytes : t ≡ leaves s (in_room s x)

-- ---- the three calls

abbrev pub typed : (hours minutes thousandths minus degrees arcminutes arcthousandths : ℕ) → Fields
typed h m t s d a b = record {
  hours = h;
  minutes = m;
  thousandths = t;
  minus = s;
  degrees = d;
  arcminutes = a;
  arcthousandths = b;
}

abbrev pub at : ℤ → ℤ → Position
at ra dec = record { ra = ra; dec = dec }

abbrev pub Places : (hours minutes thousandths minus degrees arcminutes arcthousandths : ℕ) → List ℕ → List ℕ → ℕ → Type 0
Places h m t g d a b = Answers (written position_bytes (to_position (typed h m t g d a b)))

abbrev pub Divides : ℤ → ℤ → List ℕ → List ℕ → ℕ → Type 0
Divides ra dec = Answers (written fields_bytes (to_fields (at ra dec)))

abbrev pub Vectors : ℤ → ℤ → List ℕ → List ℕ → ℕ → Type 0
Vectors ra dec = Answers (written vector_bytes (to_vector (at ra dec)))
