-- The test of one store straight from the bytes of its image (paper 01, 'Who is turned down', 24): the columns that the bytes are, and the
-- clauses that speak of one entry. Definitions only.
use Rattle.std.specs.Prelude.{ℕ, ◌+◌, ◌≤◌, Bool, List, length}
use Rattle.spec.specs.Lists.{◌and◌}
use Rattle.log_check.specs.Entries.{number_fits, shape_at}
use Rattle.log_check.specs.Conditions.{RowFits, RowsFit, Tested, Agrees, Settled, AllSettled, Walk}
use Rattle.image_store.specs.Image.{offsets_at, ids_at, store_size, words, keys_in, places_in}
use Rattle.image_store.specs.Read.{codes_in, lengths_in, readable}

module _ (s : List ℕ) (base : ℕ) where
  -- the store is there
  abbrev pub Stands : Type 0
  Stands = base + store_size ≤ length s

  abbrev pub offsets_in : List ℕ
  offsets_in = words 8 1024 s (base + offsets_at)

  abbrev pub ids_in : List ℕ
  ids_in = words 8 1024 s (base + ids_at)

  -- the clauses of entry i: its offset, its code and length, its patterns
  unfoldable pub entry_fits : ℕ → Bool
  entry_fits i = number_fits offsets_in i and (shape_at (codes_in s base) (lengths_in s base) i and readable s base i)

  -- ---- those of the table, of the columns that the bytes are

  abbrev pub RowFitsIn : (count j : ℕ) → Type 0
  RowFitsIn = RowFits ids_in (codes_in s base) (keys_in s base) (places_in s base)

  abbrev pub RowsFitIn : (count stored : ℕ) → Type 0
  RowsFitIn = RowsFit ids_in (codes_in s base) (keys_in s base) (places_in s base)

  abbrev pub TestedIn : (marks : List ℕ) (count stored : ℕ) → Bool → Type 0
  TestedIn = Tested ids_in (codes_in s base) (keys_in s base) (places_in s base)

  abbrev pub AgreesIn : (stored i : ℕ) → Type 0
  AgreesIn = Agrees ids_in (codes_in s base) (keys_in s base) (places_in s base)

  abbrev pub SettledIn : (count stored i : ℕ) → Type 0
  SettledIn = Settled ids_in (codes_in s base) (keys_in s base) (places_in s base)

  abbrev pub AllSettledIn : (count stored : ℕ) → Type 0
  AllSettledIn = AllSettled ids_in (codes_in s base) (keys_in s base) (places_in s base)

  abbrev pub WalkIn : (marks : List ℕ) (count stored : ℕ) → Type 0
  WalkIn = Walk ids_in (codes_in s base) (keys_in s base) (places_in s base)
