-- The byte image of one log store (paper 01, 'The log'): eight columns at fixed places, numbers least significant byte first. What the
-- bytes from a base on are read as: a log, the rows of a vector table. A node has eight such images side by side. Definitions only.
use Rattle.std.specs.Prelude.{ℕ, zero, suc, ◌+◌, ◌*◌, Bool, cond, List, [], ◌∷◌, eqb, leb, get_or}
use Rattle.spec.specs.Lists.{◌and◌, every}
use Rattle.spec.specs.Limits.{max_components, max_entries}
use Rattle.spec.specs.Log.{Op, Entry, Log}
use Rattle.spec.specs.Layout.Format.{number_at}
use Rattle.spec.specs.Node.WellFormed.{numbered_from, well_formed_entry}
use Rattle.log_store.specs.View.{firsts, op_from}
use Rattle.log_store.specs.Table.{Row, rows_of, play_rows}
use Rattle.log_store.specs.Store.{every_below, same_rows}

-- ---- where the columns begin; epochs begin at 0

abbrev pub offsets_at : ℕ
offsets_at = 8192

abbrev pub ids_at : ℕ
ids_at = 16384

abbrev pub codes_at : ℕ
codes_at = 24576

abbrev pub lengths_at : ℕ
lengths_at = 25600

-- 32 patterns of 4 bytes for each entry
abbrev pub floats_at : ℕ
floats_at = 26624

abbrev pub keys_at : ℕ
keys_at = 157696

abbrev pub places_at : ℕ
places_at = 165888

-- the bytes of one store
abbrev pub store_size : ℕ
store_size = 174080

-- ---- what they are read as

-- n numbers of k bytes, one after the other
unfoldable pub words : (k n : ℕ) → List ℕ → ℕ → List ℕ
words k zero s at = []
words k (suc n) s at = number_at k s at ∷ words k n s (at + k)

-- the first n patterns of entry i
abbrev pub patterns : List ℕ → (base i n : ℕ) → List ℕ
patterns s base i n = words 4 n s (base + floats_at + i * 128)

-- only an Upsert has components, as many as its length says
unfoldable pub op_at : List ℕ → (base i : ℕ) → Op
op_at s base i =
    op_from (get_or s (base + codes_at + i) 0) (number_at 8 s (base + ids_at + i * 8)) (patterns s base i (get_or s (base + lengths_at + i) 0))

unfoldable pub entry_at : List ℕ → (base i : ℕ) → Entry
entry_at s base i =
    record { epoch = number_at 8 s (base + i * 8); offset = number_at 8 s (base + offsets_at + i * 8); op = op_at s base i }

-- the log of n entries
unfoldable pub log_at : List ℕ → (base n : ℕ) → Log
log_at s base n = firsts (entry_at s base) n

-- the two columns of the table, and its first n rows
abbrev pub keys_in : List ℕ → ℕ → List ℕ
keys_in s base = words 8 1024 s (base + keys_at)

abbrev pub places_in : List ℕ → ℕ → List ℕ
places_in s base = words 8 1024 s (base + places_at)

abbrev pub rows_at : List ℕ → (base n : ℕ) → List Row
rows_at s base n = rows_of (keys_in s base) (places_in s base) n

-- ---- 'Who is turned down', 24, of the image of a store

-- 'an unlisted code', 'outside the used floats': an Upsert of at most 32 floats, or a Delete
abbrev pub code_fits_at : List ℕ → (base i : ℕ) → Bool
code_fits_at s base i =
    cond (eqb (get_or s (base + codes_at + i) 0) 1) (leb (get_or s (base + lengths_at + i) 0) max_components) (eqb (get_or s (base + codes_at + i) 0) 2)

-- each clause of the paper that speaks of a store, of the log and the rows that the bytes are
unfoldable pub well_formed_image : List ℕ → (base count stored : ℕ) → Bool
well_formed_image s base count stored =
    leb count max_entries
    and (leb stored max_entries
    and (numbered_from 1 (log_at s base count)
    and (every_below (code_fits_at s base) count
    and (every well_formed_entry (log_at s base count)
    and same_rows (rows_at s base stored) (play_rows (log_at s base count))))))
