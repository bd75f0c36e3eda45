-- An image after a change of its tables. Definitions only.
use Rattle.std.specs.Prelude.{ℕ, ◌+◌, ◌*◌, ◌≤◌, ◌<◌, ◌≡◌, true, List, length, get_or}
use Rattle.spec.specs.Lists.{every}
use Rattle.spec.specs.Map.Tables as tables
use Rattle.map_tables.specs.Counted.{row_counted}
use Rattle.image_map_put.specs.Few.{Few}
use Rattle.image_map_put.specs.Rows.{shard_rows, read_as}

-- but for the first 40 bytes and so many rows of each table
pub record Within (s t : List ℕ) (a b c d : ℕ) : Type 0 where
  pub long : length t ≡ length s
  pub nodes : (i : ℕ) → 40 + 96 * a ≤ i → i < 3112 → get_or t i 0 ≡ get_or s i 0
  pub collections : (i : ℕ) → 3112 + 56 * b ≤ i → i < 4008 → get_or t i 0 ≡ get_or s i 0
  pub shards : (i : ℕ) → 4008 + 272 * c ≤ i → i < 21416 → get_or t i 0 ≡ get_or s i 0
  pub sessions : (i : ℕ) → 21416 + 80 * d ≤ i → get_or t i 0 ≡ get_or s i 0

-- the map that it is read as, of tables that have no more rows than places, and shards within their arrays where they were
pub record After (s t : List ℕ) (x : tables.Map) : Type 0 where
  pub few : Few t
  pub view : read_as t ≡ x
  pub counted : every row_counted (shard_rows s) ≡ true → every row_counted (shard_rows t) ≡ true

-- what a command makes of an image: no byte is another but those of the rows in use then, and none of a session
pub record Edits (s t : List ℕ) (x : tables.Map) : Type 0 where
  pub after : After s t x
  pub within : Within s t (length x.nodes) (length x.collections) (length x.shards) 0
