-- The bytes of each answer: how many there are, and the stores that make them. Assumes nothing.
use Prim.Native.Nat.{ℕ}
use mathlib.Core.Path.{◌≡◌, refl}
use mathlib.Core.List.{List, [], ◌∷◌}
use lib.ListN.{length, set}
use lib.Seq.{sets}
use lib.Ieee.{Float}
use Rattle.spec.specs.Layout.Format.{bytes_of, concat_map}
use Rattle.spec.specs.Node.Wire.{bits_of}
use Rattle.spec_position.specs.declared.Fields.{Fields}
use Rattle.spec_position.specs.declared.Position.{Position}
use Rattle.calls_position.specs.Calls.{pattern_of, position_bytes, fields_bytes, vector_bytes}

pub position_size : (p : Position) → length (position_bytes p) ≡ 16
unfolding position_bytes
position_size p = refl

pub fields_size : (f : Fields) → length (fields_bytes f) ≡ 28
unfolding fields_bytes
fields_size f = refl

pub vector-size : (a b c d : Float) → length (vector_bytes (a ∷ b ∷ c ∷ d ∷ [])) ≡ 17
unfolding vector_bytes
vector-size a b c d = refl

pub position_put : (s : List ℕ) (p : Position) (a b : ℕ) → a ≡ pattern_of p.ra → b ≡ pattern_of p.dec
    → sets s 0 (concat_map (bytes_of 8) (a ∷ b ∷ [])) ≡ sets s 0 (position_bytes p)
unfolding position_bytes
position_put s p a b e f = rw (e, f) refl

pub fields_put : (s : List ℕ) (f : Fields)
    → sets s 0 (concat_map (bytes_of 4) (f.hours ∷ f.minutes ∷ f.thousandths ∷ f.minus ∷ f.degrees ∷ f.arcminutes ∷ f.arcthousandths ∷ []))
    ≡ sets s 0 (fields_bytes f)
unfolding fields_bytes
fields_put s f = refl

pub vector-put : (s : List ℕ) (a b c d : Float)
    → sets (set s 0 4) 1 (concat_map (bytes_of 4) (bits_of a ∷ bits_of b ∷ bits_of c ∷ bits_of d ∷ [])) ≡ sets s 0 (vector_bytes (a ∷ b ∷ c ∷ d ∷ []))
unfolding vector_bytes
vector-put s a b c d = refl
