-- What writing back makes of an image: entries of a log from a place on, and the rows of a table. Every byte that is not named stays as it
-- was, the patterns past a vector's components too. Definitions only.
use Rattle.std.specs.Prelude.{ℕ, ◌+◌, ◌*◌, ◌^◌, ◌<◌, ◌≡◌, true, List, [], ◌∷◌, map, length, drop, set}
use Rattle.std.proofs.lemmas.List.Edits.{sets}
use Rattle.spec.specs.Log.{Op, upsert, delete, Entry, Log, components}
use Rattle.spec.specs.Layout.Format.{bytes_of, concat_map, All}
use Rattle.spec.specs.Node.Wire.{bits_of}
use Rattle.spec.specs.Node.WellFormed.{well_formed_entry}
use Rattle.log_store.specs.Table.{Row}
use Rattle.image_store.specs.Image.{offsets_at, ids_at, codes_at, lengths_at, floats_at, keys_at, places_at}

-- 'Bytes on the wire', Op: 1 or 2
abbrev pub code_of : Op → ℕ
code_of (upsert id xs) = 1
code_of (delete id) = 2

abbrev pub id_of : Op → ℕ
id_of (upsert id xs) = id
id_of (delete id) = id

-- the numbers of the entry at place i, each in its column
unfoldable pub numbers_put : List ℕ → (base i epoch offset id code len : ℕ) → List ℕ
numbers_put s base i epoch offset id code len =
    set
    (set
    (sets
    (sets
    (sets s (base + i * 8) (bytes_of 8 epoch))
    (base + offsets_at + i * 8) (bytes_of 8 offset))
    (base + ids_at + i * 8) (bytes_of 8 id))
    (base + codes_at + i) code)
    (base + lengths_at + i) len

-- the patterns of components, 4 bytes each
abbrev pub vector_put : List ℕ → (base i : ℕ) → Op → List ℕ
vector_put s base i op = sets s (base + floats_at + i * 128) (concat_map (bytes_of 4) (map bits_of (components op)))

-- an entry at place i; a Delete has no components, and length 0
unfoldable pub entry_put : List ℕ → (base i : ℕ) → Entry → List ℕ
entry_put s base i e =
    numbers_put (vector_put s base i e.op) base i e.epoch e.offset (id_of e.op) (code_of e.op) (length (components e.op))

-- entries from place i on
unfoldable pub entries_put : List ℕ → (base i : ℕ) → Log → List ℕ
entries_put s base i [] = s
entries_put s base i (e ∷ es) = entries_put (entry_put s base i e) base (i + 1) es

-- the entries of a log from place `from` on
abbrev pub log_put : List ℕ → (base from : ℕ) → Log → List ℕ
log_put s base from l = entries_put s base from (drop from l)

-- the rows of a table, from the first on
unfoldable pub rows_put : List ℕ → (base : ℕ) → List Row → List ℕ
rows_put s base rs =
    sets (sets s (base + keys_at) (concat_map (bytes_of 8) (map (λ r. r.id) rs))) (base + places_at) (concat_map (bytes_of 8) (map (λ r. r.offset) rs))

-- ---- what a write promises

-- the numbers of an entry fit their columns, as those of a u64 do, and its vector its stretch: what is written of it can be read
pub record Fits (e : Entry) : Type 0 where
  pub epoch : e.epoch < 256 ^ 8
  pub offset : e.offset < 256 ^ 8
  pub id : id_of e.op < 256 ^ 8
  pub formed : well_formed_entry e ≡ true

pub record RowFits (r : Row) : Type 0 where
  pub id : r.id < 256 ^ 8
  pub offset : r.offset < 256 ^ 8

-- the image t is s with the entries of l from place `from` on
pub record EntriesWritten (s t : List ℕ) (base from : ℕ) (l : Log) : Type 0 where
  pub image : t ≡ log_put s base from l
  pub fits : All Fits l

-- the image t is s with the rows
pub record RowsWritten (s t : List ℕ) (base : ℕ) (rs : List Row) : Type 0 where
  pub image : t ≡ rows_put s base rs
  pub fits : All RowFits rs
