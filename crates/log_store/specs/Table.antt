-- The vector table of a replica: a row for each id that has a vector, by rising id, with the offset of the entry that set
-- it. The log played keeps such rows as it keeps vectors. Definitions only.
use Rattle.std.specs.Prelude.{ℕ, zero, suc, ◌+◌, ◌-◌, ◌≤◌, ◌≡◌, Bool, true, false, cond, List, [], ◌∷◌, ◌++◌, map, eqb, ltb, length, take, drop, get_or}
use Rattle.spec.specs.Lists.{filter, put}
use Rattle.spec.specs.Nearest.Search.{Vector}
use Rattle.spec.specs.Log.{Op, upsert, delete, Log, Vectors, lookup}

pub record Row : Type 0 where
  pub id : ℕ
  pub offset : ℕ

-- the rows that two columns make
unfoldable pub zipped : List ℕ → List ℕ → List Row
zipped [] os = []
zipped (i ∷ is) [] = []
zipped (i ∷ is) (o ∷ os) = record { id = i; offset = o } ∷ zipped is os

-- the table of `stored` rows
unfoldable pub rows_of : List ℕ → List ℕ → ℕ → List Row
rows_of keys places stored = zipped (take stored keys) (take stored places)

abbrev pub row_below : Row → Row → Bool
row_below a b = ltb a.id b.id

abbrev pub other_row : ℕ → Row → Bool
other_row id r = cond (eqb r.id id) false true

-- 'The log': an operation played on rows: a Delete removes its id's, the other sets it to its own entry
unfoldable pub row_op : List Row → Op → ℕ → List Row
row_op rs (upsert id xs) o = put row_below (record { id = id; offset = o }) rs
row_op rs (delete id) o = filter (other_row id) rs

unfoldable pub play_rows_from : List Row → Log → List Row
play_rows_from rs [] = rs
play_rows_from rs (e ∷ es) = play_rows_from (row_op rs e.op e.offset) es

-- 'The log', played from none
unfoldable pub play_rows : Log → List Row
play_rows l = play_rows_from [] l

-- the vector that a row names: the components of its entry
unfoldable pub vector_of : Log → Row → Vector
vector_of l r = record { id = r.id; components = lookup l r.offset }

unfoldable pub vectors_of : Log → List Row → Vectors
vectors_of l rs = map (vector_of l) rs

-- a column of which the first n places are used, with x put in at a place: those from there to n move up
unfoldable pub inserted : (at n x : ℕ) → List ℕ → List ℕ
inserted at n x l = take (suc n) (take at l ++ x ∷ drop at l) ++ drop (suc n) l

-- a place taken out: those behind it, up to n, move down; place n − 1 keeps what it held
unfoldable pub removed : (at n : ℕ) → List ℕ → List ℕ
removed at n l = take (n - 1) (take at l ++ drop (at + 1) l) ++ drop (n - 1) l

-- two columns after a change: they make these rows, are as long as they were, and hold from place `top` on what they held
pub record Tabled (top : ℕ) (ks ps ks' ps' : List ℕ) (stored : ℕ) (rs : List Row) : Type 0 where
  pub rows : rows_of ks' ps' stored ≡ rs
  pub fits : stored ≤ length ks
  pub also : stored ≤ length ps
  pub keys : length ks' ≡ length ks
  pub places : length ps' ≡ length ps
  pub keys_past : drop top ks' ≡ drop top ks
  pub places_past : drop top ps' ≡ drop top ps

-- an operation on rows by its code: 1 sets, any other removes
unfoldable pub row_by : List Row → (code id offset : ℕ) → List Row
row_by rs code id o = cond (eqb code 1) (put row_below (record { id = id; offset = o }) rs) (filter (other_row id) rs)

-- the rows of the first n entries, by the three columns that they come from
unfoldable pub rows_played : (offsets ids codes : List ℕ) → ℕ → List Row
rows_played os is cs zero = []
rows_played os is cs (suc n) = row_by (rows_played os is cs n) (get_or cs n 0) (get_or is n 0) (get_or os n 0)
