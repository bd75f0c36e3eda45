-- A column of numbers of 8 bytes written where it stands, and the rows of a table after one entry more. Definitions only.
use Rattle.std.specs.Prelude.{ℕ, ◌+◌, ◌≤◌, ◌≡◌, true, List, [], ◌∷◌, ◌++◌, length}
use Rattle.std.proofs.lemmas.List.Edits.{sets}
use Rattle.spec.specs.Layout.Format.{bytes_of, concat_map}
use Rattle.spec.specs.Lists.{every}
use Rattle.spec.specs.Log.{upsert, delete, Entry, Log}
use Rattle.spec.specs.Nearest.Order.{bits_in_domain}
use Rattle.spec.specs.Node.Wire.{floats_of, stored_op}
use Rattle.wire_read.specs.declared.OpPart.{OpPart}
use Rattle.log_domain.specs.Parts.{op_in}
use Rattle.log_store.specs.Table.{Row, play_rows}
use Rattle.image_store.specs.Image.{log_at}
use Rattle.image_store.specs.Write.{Fits, rows_put, log_put}

-- numbers of 8 bytes, from a position on
abbrev pub words_put : List ℕ → (at : ℕ) → List ℕ → List ℕ
words_put s at ws = sets s at (concat_map (bytes_of 8) ws)

-- t is s with the table of these rows, whose number is r
pub record Tables (s t : List ℕ) (base : ℕ) (rs : List Row) (r : ℕ) : Type 0 where
  pub image : t ≡ rows_put s base rs
  pub count : r ≡ length rs

-- ---- one entry more

abbrev pub longer : List ℕ → (base count : ℕ) → Entry → Log
longer s base count e = log_at s base count ++ (e ∷ [])

-- t is s with the store of so many entries at `base` one entry longer, and its table played; r its rows
pub record Appended (s t : List ℕ) (base count : ℕ) (e : Entry) (r : ℕ) : Type 0 where
  pub image : t ≡ rows_put (log_put s base count (longer s base count e)) base (play_rows (longer s base count e))
  pub rows : r ≡ length (play_rows (longer s base count e))

-- .. and can be read again: the numbers of the entry fit their columns, and there is a place for each row
pub record Grown (s t : List ℕ) (base count : ℕ) (e : Entry) (r : ℕ) : Type 0 where
  pub appended : Appended s t base count e r
  pub fits : Fits e
  pub few : r ≤ 1024

abbrev pub upsert_at : (epoch i id : ℕ) → List ℕ → Entry
upsert_at epoch i id bits = record { epoch = epoch; offset = i + 1; op = upsert id (floats_of bits) }

abbrev pub delete_at : (epoch i id : ℕ) → Entry
delete_at epoch i id = record { epoch = epoch; offset = i + 1; op = delete id }

-- the entry of an operation in a message
abbrev pub entry_by : (epoch i : ℕ) → List ℕ → OpPart → Entry
entry_by epoch i m o = record { epoch = epoch; offset = i + 1; op = stored_op (op_in m o) }

-- the patterns of a vector that may be stored
pub record Vector (bits : List ℕ) : Type 0 where
  pub some : 1 ≤ length bits
  pub short : length bits ≤ 32
  pub domain : every bits_in_domain bits ≡ true
