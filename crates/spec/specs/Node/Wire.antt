-- Paper 01, 'Bytes on the wire', 'Nearest objects': from a message's bits to stored floats and back, and the domain test between (22).
-- Definitions only.
use Rattle.std.specs.Prelude.{ℕ, Bool, true, List, map, Float}
use Rattle.std.specs.Float.{binary32}
use Rattle.std.specs.Float.Ieee.{of_bits, to_bits}
use Rattle.spec.specs.Lists.{every}
use Rattle.spec.specs.Nearest.Order.{bits_in_domain}
use Rattle.spec.specs.Log.{Op, upsert, delete, Entry}
use Rattle.spec.specs.Layout.Parts.{WireOp, wire_upsert, wire_delete, WireEntry}

-- 'Bytes on the wire', Vector: f32 bits
abbrev pub float_of : ℕ → Float
float_of b = of_bits binary32 b

-- 'Bytes on the wire', Vector: the bits of a float
abbrev pub bits_of : Float → ℕ
bits_of x = to_bits binary32 x

-- 'Bytes on the wire', Vector: the components as floats
unfoldable pub floats_of : List ℕ → List Float
floats_of bs = map float_of bs

-- 'Who is turned down': a vector outside the domain is 22
unfoldable pub patterns_in_domain : List ℕ → Bool
patterns_in_domain bs = every bits_in_domain bs

-- 22, of an operation
abbrev pub op_in_domain : WireOp → Bool
op_in_domain (wire_upsert id bs) = patterns_in_domain bs
op_in_domain (wire_delete id) = true

-- 22, of an entry
abbrev pub entry_in_domain : WireEntry → Bool
entry_in_domain e = op_in_domain e.op

-- 'Bytes on the wire', Op: as it is stored
unfoldable pub stored_op : WireOp → Op
stored_op (wire_upsert id bs) = upsert id (floats_of bs)
stored_op (wire_delete id) = delete id

-- 'Bytes on the wire', 22: an entry as it is stored
abbrev pub stored_entry : WireEntry → Entry
stored_entry e = record { epoch = e.epoch; offset = e.offset; op = stored_op e.op }

-- 'Bytes on the wire', Op: as it is sent
unfoldable pub wire_op : Op → WireOp
wire_op (upsert id xs) = wire_upsert id (map bits_of xs)
wire_op (delete id) = wire_delete id

-- 'Bytes on the wire', 22: an entry as it is sent
abbrev pub wire_entry : Entry → WireEntry
wire_entry e = record { epoch = e.epoch; offset = e.offset; op = wire_op e.op }
