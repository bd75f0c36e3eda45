-- Paper 01, 'Who is turned down', 24, 'a count over its limit': of the arrays that the lists of View are taken from. Definitions only.
use Rattle.std.specs.Prelude.{◌≤◌, ◌≡◌, Bool, true, take, leb}
use Rattle.spec.specs.Lists.{◌and◌, every}
use Rattle.map_tables.specs.declared.ShardRow.{ShardRow}
use Rattle.map_tables.specs.declared.Shards.{Shards}
use Rattle.map_tables.specs.declared.ShardMap.{ShardMap}

-- the holders and the in_sync_lem ids of a row are within their arrays
pub record Sized (s : ShardRow) : Type 0 where
  pub held : s.replicas.count ≤ 8
  pub synced : s.insync.count ≤ 8

abbrev pub row_counted : ShardRow → Bool
row_counted s = leb s.replicas.count 8 and leb s.insync.count 8

-- the arrays of each shard in use
abbrev pub rows_counted : Shards → Bool
rows_counted t = every row_counted (take t.count t.items)

-- the shards in use, and the arrays of each
pub record ShardsCounted (t : Shards) : Type 0 where
  pub count : t.count ≤ 64
  pub rows : rows_counted t ≡ true

-- the rows in use of every table are within their arrays
pub record TablesCounted (m : ShardMap) : Type 0 where
  pub nodes : m.nodes.count ≤ 32
  pub collections : m.collections.count ≤ 16
  pub shards : ShardsCounted m.shards
  pub sessions : m.sessions.count ≤ 64
