-- How lent columns are read as `spec`'s log, table and replica. Definitions only.
use Rattle.std.specs.Prelude.{ℕ, zero, suc, ◌+◌, ◌*◌, ◌≤◌, ◌<◌, cond, List, [], ◌∷◌, ◌++◌, eqb, Float, length, get_or, take, drop, set, ◌≡◌}
use Rattle.spec.specs.Node.Wire.{floats_of}
use Rattle.spec.specs.Log.{Op, upsert, delete, Entry, Log, lookup}

-- f of 0, 1, .. n − 1
unfoldable pub firsts {ℓ} : {A : Type ℓ} → (ℕ → A) → ℕ → List A
firsts f zero = []
firsts f (suc n) = firsts f n ++ (f n ∷ [])

-- a log store as it lies in the lent columns; the entry at offset o stands at place o − 1
pub record Columns : Type 0 where
  pub epochs : List ℕ
  pub offsets : List ℕ
  pub ids : List ℕ
  pub codes : List ℕ
  pub lengths : List ℕ
  pub floats : List Float

abbrev pub columns : (epochs offsets ids codes lengths : List ℕ) → List Float → Columns
columns es os is cs ls fs = record { epochs = es; offsets = os; ids = is; codes = cs; lengths = ls; floats = fs }

-- the stretch of entry i begins at 32 i; its first `length` floats are the components
unfoldable pub stretch : Columns → ℕ → List Float
stretch c i = take (get_or c.lengths i 0) (drop (i * 32) c.floats)

-- code 1 is an Upsert, and any other a Delete (which of them are listed is a clause of the test, 24)
unfoldable pub op_of : Columns → ℕ → Op
op_of c i = cond (eqb (get_or c.codes i 0) 1) (upsert (get_or c.ids i 0) (stretch c i)) (delete (get_or c.ids i 0))

unfoldable pub entry_of : Columns → ℕ → Entry
entry_of c i = record { epoch = get_or c.epochs i 0; offset = get_or c.offsets i 0; op = op_of c i }

-- the log of `count` entries
unfoldable pub log_of : Columns → ℕ → Log
log_of c count = firsts (entry_of c) count

-- what a lookup hands back, whatever the epochs, offsets and ids hold
abbrev pub LookedUp : (codes lengths : List ℕ) → List Float → (count offset : ℕ) → List Float → Type 0
LookedUp cs ls fs count o r = (es os is : List ℕ) → r ≡ lookup (log_of (columns es os is cs ls fs) count) o

-- columns with room for 1,024 entries, of which the first n have their components within their stretches
pub record Room (c : Columns) (n : ℕ) : Type 0 where
  pub count : n ≤ 1024
  pub epochs : length c.epochs ≡ 1024
  pub offsets : length c.offsets ≡ 1024
  pub ids : length c.ids ≡ 1024
  pub codes : length c.codes ≡ 1024
  pub lengths : length c.lengths ≡ 1024
  pub floats : 32768 ≤ length c.floats
  pub short : (i : ℕ) → i < n → get_or c.codes i 0 ≡ 1 → get_or c.lengths i 0 ≤ 32

-- an operation by its code, its id and the bits of its components
unfoldable pub op_from : (code id : ℕ) → List ℕ → Op
op_from code id bits = cond (eqb code 1) (upsert id (floats_of bits)) (delete id)

-- the columns with one entry more at place n: every other place of theirs is as it was
unfoldable pub written : Columns → (n epoch code id : ℕ) → List ℕ → Columns
written c n epoch code id bits = record {
  epochs = set c.epochs n epoch;
  offsets = set c.offsets n (n + 1);
  ids = set c.ids n id;
  codes = set c.codes n code;
  lengths = set c.lengths n (length bits);
  floats = take (n * 32) c.floats ++ (floats_of bits ++ drop (n * 32 + length bits) c.floats);
}

-- an entry as it is written: its operation by code, id and the bits of its components
pub record Inscribed : Type 0 where
  pub epoch : ℕ
  pub code : ℕ
  pub id : ℕ
  pub bits : List ℕ

-- entries written one behind the other, from place n on
unfoldable pub written_all : Columns → ℕ → List Inscribed → Columns
written_all c n [] = c
written_all c n (x ∷ xs) = written_all (written c n x.epoch x.code x.id x.bits) (n + 1) xs
