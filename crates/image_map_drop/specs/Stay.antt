-- A table of rows, each of which begins with a name, without the rows of one name. Definitions only.
use Rattle.std.specs.Prelude.{ℕ, ◌+◌, ◌*◌, ◌≤◌, ◌<◌, ◌≡◌, Bool, not, List, length, get_or}
use Rattle.spec.specs.Keys.{same_name}
use Rattle.spec.specs.Lists.{filter}
use Rattle.map_tables.specs.Names.{view_name}
use Rattle.map_tables.specs.declared.Name.{Name}
use Rattle.image_parts.specs.Parts.{name_at}
use Rattle.image_parts.specs.Shape.{items}

-- a row's w bytes
abbrev pub row_at : ℕ → List ℕ → ℕ → List ℕ
row_at w s at = items w (λ p. get_or s p 0) 1 at

abbrev pub others : Name → List ℕ → Bool
others name r = not (same_name (view_name (name_at r 0)) (view_name name))

-- of n rows the k of other names are the first; what lies before the table and behind them is as it was
pub record Stay (s t : List ℕ) (base w n : ℕ) (name : Name) (k : ℕ) : Type 0 where
  pub long : length t ≡ length s
  pub few : k ≤ n
  pub below : (j : ℕ) → j < base → get_or t j 0 ≡ get_or s j 0
  pub rows : items k (row_at w t) w base ≡ filter (others name) (items n (row_at w s) w base)
  pub behind : (j : ℕ) → base + w * k ≤ j → get_or t j 0 ≡ get_or s j 0
