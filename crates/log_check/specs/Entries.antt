-- The clauses of 24 that speak of one entry of a store (paper 01, 'Who is turned down'), and of all. Definitions only.
use Rattle.std.specs.Prelude.{ℕ, ◌+◌, ◌*◌, ◌≡◌, Bool, true, cond, List, eqb, leb, Float, get_or, take, drop}
use Rattle.spec.specs.Limits.{max_components}
use Rattle.spec.specs.Lists.{◌and◌, every}
use Rattle.spec.specs.Node.WellFormed.{component, well_formed_entry}
use Rattle.log_store.specs.View.{Columns, columns, entry_of}
use Rattle.log_store.specs.Store.{every_below, code_fits}

-- its offset, its code and length, its components
unfoldable pub entry_fits : Columns → ℕ → Bool
entry_fits c i = eqb (get_or c.offsets i 0) (i + 1) and (code_fits c i and well_formed_entry (entry_of c i))

-- .. told by the columns of offsets, codes, lengths and floats
abbrev pub EntryFits : (offsets codes lengths : List ℕ) → List Float → ℕ → Bool → Type 0
EntryFits os cs ls fs i b = (es is : List ℕ) → b ≡ entry_fits (columns es os is cs ls fs) i

abbrev pub EntriesFit : (offsets codes lengths : List ℕ) → List Float → ℕ → Bool → Type 0
EntriesFit os cs ls fs n b = (es is : List ℕ) → b ≡ every_below (entry_fits (columns es os is cs ls fs)) n

-- 'log offsets other than 1, 2, 3 and so on', at place i
abbrev pub number_fits : (offsets : List ℕ) → ℕ → Bool
number_fits os i = eqb (get_or os i 0) (i + 1)

-- an Upsert of 1 to 32 floats, or a Delete
unfoldable pub shape_fits : (code len : ℕ) → Bool
shape_fits code len = cond (eqb code 1) (leb 1 len and leb len max_components) (eqb code 2)

abbrev pub shape_at : (codes lengths : List ℕ) → ℕ → Bool
shape_at cs ls i = shape_fits (get_or cs i 0) (get_or ls i 0)

-- the floats of the whole stretch of entry i lie in the domain
abbrev pub StretchFits : List Float → ℕ → Type 0
StretchFits fs i = every component (take 32 (drop (i * 32) fs)) ≡ true
