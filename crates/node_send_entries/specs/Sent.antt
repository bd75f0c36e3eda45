-- The part of a lent store that is sent (paper 01, 'Bytes on the wire', 20 and 22): entries by their places, as bytes. Definitions only.
use Rattle.std.specs.Prelude.{ℕ, zero, suc, ◌+◌, ◌<◌, ◌≡◌, true, List, [], ◌∷◌, map}
use Rattle.spec.specs.Keys.{Key}
use Rattle.spec.specs.Log.{Log}
use Rattle.spec.specs.Layout.Format.{concat_map, encode}
use Rattle.spec.specs.Layout.Parts.{op_f, op_value, entry_f, entry_value}
use Rattle.spec.specs.Node.Wire.{wire_op, wire_entry}
use Rattle.spec.specs.Node.WellFormed.{well_formed_entry}
use Rattle.log_store.specs.View.{Columns, Room, op_of, entry_of}

-- what the test of a store (24) says of the first `count` entries of its columns
pub record Sendable (c : Columns) (count : ℕ) : Type 0 where
  pub room : Room c count
  pub formed : (i : ℕ) → i < count → well_formed_entry (entry_of c i) ≡ true

-- n entries from place i on
unfoldable pub entries_at : Columns → (n i : ℕ) → Log
entries_at c zero i = []
entries_at c (suc n) i = entry_of c i ∷ entries_at c n (i + 1)

-- the operation at place i
unfoldable pub op_sent : Columns → ℕ → List ℕ
op_sent c i = encode op_f (op_value (wire_op (op_of c i)))

-- the entry at place i: epoch offset op
unfoldable pub entry_sent : Columns → ℕ → List ℕ
entry_sent c i = encode entry_f (entry_value (wire_entry (entry_of c i)))

-- n entries from place i on, one after the other
unfoldable pub entries_sent : Columns → (n i : ℕ) → List ℕ
entries_sent c n i = concat_map (encode entry_f) (map entry_value (map wire_entry (entries_at c n i)))

-- the key of the shard of this number, of the collection of this name
abbrev pub key_named : List ℕ → ℕ → Key
key_named name shard = record { collection = name; shard = shard }
