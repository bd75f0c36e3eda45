-- When a table is the log played (paper 01, 'Who is turned down', 24), told row by row and entry by entry: the keys rise, each row
-- names an Upsert of its id, and each entry is settled. Columns are read at places counted from 0; an entry at place i has offset
-- i + 1. Definitions only.
use Rattle.std.specs.Prelude.{ℕ, ◌+◌, ◌-◌, ◌≤◌, ◌<◌, ◌≡◌, Bool, true, false, cond, List, [], ◌∷◌, ◌⊎◌, eqb, length, get_or}
use Rattle.std.proofs.Math.Option.{Option, none, some}
use Rattle.log_store.specs.Table.{Row}

-- a test's answer: true exactly if P
pub record Decides (r : Bool) (P : Type 0) : Type 0 where
  pub yes : r ≡ true → P
  pub nay : r ≡ false → P → ⊥

-- the offset that the rows give an id
unfoldable pub row_at : List Row → ℕ → Option ℕ
row_at [] id = none
row_at (r ∷ rs) id = cond (eqb r.id id) (some r.offset) (row_at rs id)

-- the first m keys rise
abbrev pub Rises : (keys : List ℕ) → ℕ → Type 0
Rises ks m = (i j : ℕ) → i < j → j < m → get_or ks i 0 < get_or ks j 0

-- row j names one of the n entries, an Upsert of its id
pub record Names (is cs ks ps : List ℕ) (n j : ℕ) : Type 0 where
  pub starts : 1 ≤ get_or ps j 0
  pub ends : get_or ps j 0 ≤ n
  pub same : get_or is (get_or ps j 0 - 1) 0 ≡ get_or ks j 0
  pub upsert : get_or cs (get_or ps j 0 - 1) 0 ≡ 1

-- .. and stands above the row before it
pub record RowFits (is cs ks ps : List ℕ) (n j : ℕ) : Type 0 where
  pub names : Names is cs ks ps n j
  pub above : (k : ℕ) → k + 1 ≡ j → get_or ks k 0 < get_or ks j 0

-- every one of the first m rows
abbrev pub RowsFit : (is cs ks ps : List ℕ) (n m : ℕ) → Type 0
RowsFit is cs ks ps n m = (j : ℕ) → j < m → RowFits is cs ks ps n j

-- only entries of rows are marked
abbrev pub Marked : (ps marks : List ℕ) → ℕ → Type 0
Marked ps marks m = (i : ℕ) → (get_or marks i 0 ≡ 0 → ⊥) → (j : ℕ) × (j < m) × (get_or ps j 0 ≡ i + 1)

-- the rows are tested, and their entries marked
pub record Tested (is cs ks ps marks : List ℕ) (n m : ℕ) (r : Bool) : Type 0 where
  pub answer : Decides r (RowsFit is cs ks ps n m)
  pub marked : Marked ps marks m
  pub size : length marks ≡ 1024

-- how the first n keys lie to an id: r of them stand below it, the others do not
pub record Parted (ks : List ℕ) (n id r : ℕ) : Type 0 where
  pub most : r ≤ n
  pub below : (j : ℕ) → j < r → get_or ks j 0 < id
  pub above : (j : ℕ) → r ≤ j → j < n → id ≤ get_or ks j 0

-- of the first m rows none has the id
abbrev pub NoRow : (ks : List ℕ) (m id : ℕ) → Type 0
NoRow ks m id = (j : ℕ) → j < m → get_or ks j 0 ≡ id → ⊥

-- the row of entry i's id names that entry or a later one; or the id has no row, and the entry is a Delete
abbrev pub Agrees : (is cs ks ps : List ℕ) (m i : ℕ) → Type 0
Agrees is cs ks ps m i =
    ((j : ℕ) × (j < m) × (get_or ks j 0 ≡ get_or is i 0) × (i < get_or ps j 0))
    ⊎ ((get_or cs i 0 ≡ 1 → ⊥) × NoRow ks m (get_or is i 0))

-- entry i is not the last of its id
abbrev pub Again : (is : List ℕ) (n i : ℕ) → Type 0
Again is n i = (k : ℕ) × (i < k) × (k < n) × (get_or is k 0 ≡ get_or is i 0)

-- what is asked of entry i: it agrees with the rows if it is the last of its id
abbrev pub Settled : (is cs ks ps : List ℕ) (n m i : ℕ) → Type 0
Settled is cs ks ps n m i = Agrees is cs ks ps m i ⊎ Again is n i

-- .. and of all
abbrev pub AllSettled : (is cs ks ps : List ℕ) (n m : ℕ) → Type 0
AllSettled is cs ks ps n m = (i : ℕ) → i < n → Settled is cs ks ps n m i

-- columns whose rows have been tested and whose entries are to be: what the walk over the entries starts from
pub record Walk (is cs ks ps marks : List ℕ) (n m : ℕ) : Type 0 where
  pub count : n ≤ 1024
  pub stored : m ≤ 1024
  pub ids : length is ≡ 1024
  pub codes : length cs ≡ 1024
  pub keys : length ks ≡ 1024
  pub places : length ps ≡ 1024
  pub size : length marks ≡ 1024
  pub rows : RowsFit is cs ks ps n m
  pub marked : Marked ps marks m
