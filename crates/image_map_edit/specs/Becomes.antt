-- What a change of one table makes of an image: the rows in use and their count are others, and all other bytes are as they were, those of the rows
-- past the new count too. Definitions only.
use Rattle.std.specs.Prelude.{ℕ, ◌+◌, ◌*◌, ◌≤◌, ◌<◌, ◌≡◌, true, List, length, get_or}
use Rattle.spec.specs.Lists.{every}
use Rattle.spec.specs.Map.Tables.{NodeInfo, Collection, ShardInfo, Session}
use Rattle.map_tables.specs.Counted.{row_counted}
use Rattle.image_map_put.specs.Rows.{shard_rows, read_as}

-- but for a count at x and the bytes from lo to hi
pub record Apart (s t : List ℕ) (x lo hi : ℕ) : Type 0 where
  pub long : length t ≡ length s
  pub below : (i : ℕ) → i < x → get_or t i 0 ≡ get_or s i 0
  pub between : (i : ℕ) → x + 8 ≤ i → i < lo → get_or t i 0 ≡ get_or s i 0
  pub behind : (i : ℕ) → hi ≤ i → get_or t i 0 ≡ get_or s i 0

pub record NodesBecome (s t : List ℕ) (l : List NodeInfo) : Type 0 where
  pub apart : Apart s t 8 40 (40 + 96 * length l)
  pub view : (read_as t).nodes ≡ l

pub record CollectionsBecome (s t : List ℕ) (l : List Collection) : Type 0 where
  pub apart : Apart s t 16 3112 (3112 + 56 * length l)
  pub view : (read_as t).collections ≡ l

-- the holders and the in_sync_lem ids of each row stay within their arrays
pub record ShardsBecome (s t : List ℕ) (l : List ShardInfo) : Type 0 where
  pub apart : Apart s t 24 4008 (4008 + 272 * length l)
  pub view : (read_as t).shards ≡ l
  pub counted : every row_counted (shard_rows s) ≡ true → every row_counted (shard_rows t) ≡ true

pub record SessionsBecome (s t : List ℕ) (l : List Session) : Type 0 where
  pub apart : Apart s t 32 21416 (21416 + 80 * length l)
  pub view : (read_as t).sessions ≡ l
