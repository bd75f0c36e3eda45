-- The fields of a message as a writer is handed them: which the layout carries, and the bytes of those stored together.
use Rattle.std.specs.Prelude.{ℕ, ◌+◌, ◌*◌, Bool, true, false, List, [], ◌∷◌, ◌++◌, length, leb}
use Rattle.spec.specs.Lists.{◌and◌}
use Rattle.spec.specs.Layout.Format.{bytes_of, encode, in_range}
use Rattle.spec.specs.Layout.Parts.{op_f, op_value, WireOp, wire_upsert, wire_delete}
use Rattle.spec.specs.Keys.{Key}

-- a name or an address that the layout carries
unfoldable pub text_fits : ℕ → List ℕ → Bool
text_fits c v = leb (length v) c and in_range 0x20 0x7E v

-- a count within its limits
unfoldable pub count_fits : (lo hi n : ℕ) → Bool
count_fits lo hi n = leb lo n and leb n hi

-- an operation as a writer is handed it: an Upsert with its vector's bits, or a Delete
abbrev pub wire_of : Bool → ℕ → List ℕ → WireOp
wire_of true id bits = wire_upsert id bits
wire_of false id bits = wire_delete id

abbrev pub op_bytes : Bool → ℕ → List ℕ → List ℕ
op_bytes upsert id bits = encode op_f (op_value (wire_of upsert id bits))

-- an operation that the layout carries, by how many components it has, and how many bytes it takes
abbrev pub op_fits : Bool → ℕ → Bool
op_fits true n = count_fits 1 32 n
op_fits false n = true

abbrev pub op_size : Bool → ℕ → ℕ
op_size true n = 10 + 4 * n
op_size false n = 9

abbrev pub key_given : List ℕ → ℕ → Key
key_given name shard = record { collection = name; shard = shard }

-- the bytes before a command's operands
abbrev pub request_head : (index client seq c : ℕ) → List ℕ
request_head index client seq c = 0x01 ∷ (bytes_of 8 index ++ (bytes_of 8 client ++ (bytes_of 8 seq ++ (c ∷ []))))
