-- The entries of 22 as a writer is handed them: columns, in which entry i has its operation's code (1 an Upsert, any
-- other a Delete), its id, and its `lens` components from 32 * i on.
use Rattle.std.specs.Prelude.{ℕ, zero, suc, ◌+◌, ◌*◌, Bool, true, List, [], ◌∷◌, map, length, get_or, take, drop, eqb, leb}
use Rattle.spec.specs.Lists.{◌and◌}
use Rattle.spec.specs.Layout.Format.{concat_map, encode}
use Rattle.spec.specs.Layout.Parts.{WireEntry, entry_f, entry_value}
use Rattle.spec.specs.Layout.Message.{Copied}
use Rattle.spec.specs.declared.Epoch.{Epoch}
use Rattle.wire_put.specs.Fields.{op_fits, op_size, wire_of, key_given}

-- an operation that the layout carries
abbrev pub row_fits : (code len : ℕ) → Bool
row_fits code len = op_fits (eqb code 1) len and leb len 32

-- n of them, from the i-th on
abbrev pub rows_fit : (codes lens : List ℕ) (n i : ℕ) → Bool
rows_fit cs ls zero i = true
rows_fit cs ls (suc n) i = row_fits (get_or cs i 0) (get_or ls i 0) and rows_fit cs ls n (i + 1)

-- the bytes that n entries take, from the i-th on
abbrev pub rows_size : (codes lens : List ℕ) (n i : ℕ) → ℕ
rows_size cs ls zero i = 0
rows_size cs ls (suc n) i = 16 + op_size (eqb (get_or cs i 0) 1) (get_or ls i 0) + rows_size cs ls n (i + 1)

-- every column has n entries, the bits 32 for each
abbrev pub long_enough : (es os cs is ls bs : List ℕ) (n : ℕ) → Bool
long_enough es os cs is ls bs n =
    leb n (length es)
    and (leb n (length os)
    and (leb n (length cs) and (leb n (length is) and (leb n (length ls) and leb (32 * n) (length bs)))))

module _ (es os cs is ls bs : List ℕ) where
  abbrev pub row_at : ℕ → WireEntry
  row_at i = record {
    epoch = get_or es i 0;
    offset = get_or os i 0;
    op = wire_of (eqb (get_or cs i 0) 1) (get_or is i 0) (take (get_or ls i 0) (drop (32 * i) bs));
  }

  -- n entries from the i-th on
  abbrev pub rows_given : (n i : ℕ) → List WireEntry
  rows_given zero i = []
  rows_given (suc n) i = row_at i ∷ rows_given n (i + 1)

  abbrev pub rows_bytes : (n i : ℕ) → List ℕ
  rows_bytes n i = concat_map (encode entry_f) (map entry_value (rows_given n i))

  abbrev pub copy_given : List ℕ → ℕ → Epoch → ℕ → Copied
  copy_given name shard epoch n = record { key = key_given name shard; epoch = epoch.0; entries = rows_given n 0 }
