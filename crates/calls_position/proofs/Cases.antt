-- Answers to a host, computed: a position just south of the equator, its fields and its vector, byte by byte, and a buffer that is a byte too short.
-- Assumes nothing.
use mathlib.Core.Path.{◌≡◌, refl}
use mathlib.Core.List.{[], ◌∷◌}
use lib.IntN.{pos, negsuc}
use lib.Ieee.{of_int, round, to_bits}
use lib.ListN.{replicate}
use Rattle.spec.specs.Lists.{◌and◌}
use Rattle.spec_position.specs.Positions.{turned, no_room, in_range, ra_in, dec_in, sign_in, within, position_of, fields_of, floats_of, to_position, to_fields, to_vector}
use Rattle.calls_position.specs.Calls.{position_bytes, fields_bytes, vector_bytes, written, in_room, typed, at}

pub position_bytes_lem : written position_bytes (to_position (typed 0 0 100 1 0 0 500))
    ≡ turned (0xDC ∷ 0x05 ∷ 0 ∷ 0 ∷ 0 ∷ 0 ∷ 0 ∷ 0 ∷ 0x0C ∷ 0xFE ∷ 0xFF ∷ 0xFF ∷ 0xFF ∷ 0xFF ∷ 0xFF ∷ 0xFF ∷ [])
unfolding to_position in_range ra_in dec_in sign_in position_of position_bytes ◌and◌
position_bytes_lem = refl

pub fields_bytes_lem : written fields_bytes (to_fields (at (pos 1500) (negsuc 499)))
    ≡ turned (0 ∷ 0 ∷ 0 ∷ 0 ∷ 0 ∷ 0 ∷ 0 ∷ 0 ∷ 100 ∷ 0 ∷ 0 ∷ 0 ∷ 1 ∷ 0 ∷ 0 ∷ 0 ∷ 0 ∷ 0 ∷ 0 ∷ 0 ∷ 0 ∷ 0 ∷ 0 ∷ 0 ∷ 0xF4 ∷ 0x01 ∷ 0 ∷ 0 ∷ [])
unfolding to_fields within fields_of fields_bytes ◌and◌
fields_bytes_lem = refl

pub vector-bytes : written vector_bytes (to_vector (at (pos 1500) (negsuc 499)))
    ≡ turned (4 ∷ 0 ∷ 0 ∷ 0x80 ∷ 0x3F ∷ 0 ∷ 0 ∷ 0xFA ∷ 0x43 ∷ 0 ∷ 0 ∷ 0 ∷ 0 ∷ 0 ∷ 0 ∷ 0xFA ∷ 0xC3 ∷ [])
unfolding to_vector within floats_of of_int round to_bits vector_bytes ◌and◌
vector-bytes = refl

pub no_room_lem : in_room (replicate 15 0) (written position_bytes (to_position (typed 0 0 100 1 0 0 500))) ≡ no_room
unfolding to_position in_range ra_in dec_in sign_in position_of position_bytes ◌and◌
no_room_lem = refl
