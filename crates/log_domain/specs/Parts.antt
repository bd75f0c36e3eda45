-- What stands in a message at the places that a decoded message names (paper 01, 'Bytes on the wire'): operations, entries and tables as
-- `spec`'s decoder reads them, and what that decoder has tested of them. Definitions only.
use Rattle.std.specs.Prelude.{ℕ, ◌+◌, ◌*◌, ◌≤◌, ◌≡◌, true, List, map, length}
use Rattle.spec.specs.Log.{End}
use Rattle.spec.specs.Limits.{max_components, max_table, max_batch}
use Rattle.spec.specs.Layout.Format.{◌▸◌, fits, fits_n, next, value, value_n}
use Rattle.spec.specs.Layout.Parts.{u32, u64, entry_f, entry_of, end_of, WireOp, wire_upsert, wire_delete, WireEntry}
use Rattle.wire_read.specs.declared.Part.{Part}
use Rattle.wire_read.specs.declared.OpPart.{OpPart}
use Rattle.wire_read.specs.declared.OpPart.TheVariants.{Upsert, Delete}

-- the bits of a vector's components
unfoldable pub bits_in : List ℕ → Part → List ℕ
bits_in s v = value_n (value u32 s) (next u32 s) v.len v.at

-- the operation
abbrev pub op_in : List ℕ → OpPart → WireOp
op_in s (Upsert id v) = wire_upsert id (bits_in s v)
op_in s (Delete id) = wire_delete id

-- 22: the entries, one after the other
unfoldable pub entries_in : List ℕ → Part → List WireEntry
entries_in s p = map entry_of (value_n (value entry_f s) (next entry_f s) p.len p.at)

-- 21: the pairs of the table
unfoldable pub table_in : List ℕ → Part → List End
table_in s p = map end_of (value_n (value (u64 ▸ u64) s) (next (u64 ▸ u64) s) p.len p.at)

-- ---- what was tested

-- a vector's components stand in the message
abbrev pub VectorThere : List ℕ → Part → Type 0
VectorThere s v = (1 ≤ v.len) × (v.len ≤ max_components) × (v.at + v.len * 4 ≤ length s)

abbrev pub OpThere : List ℕ → OpPart → Type 0
OpThere s (Upsert id v) = VectorThere s v
OpThere s (Delete id) = Unit {0}

abbrev pub EntriesThere : List ℕ → Part → Type 0
EntriesThere s p = (p.len ≤ max_batch) × (fits_n (fits entry_f s) (next entry_f s) p.len p.at ≡ true)

abbrev pub TableThere : List ℕ → Part → Type 0
TableThere s p = (p.len ≤ max_table) × (p.at + p.len * 16 ≤ length s)
