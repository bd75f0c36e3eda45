-- What a row of a shown map makes of the row of a held shard, in its bytes (paper 01, 'Map shown'; node.rs, on_map). Definitions only.
use Rattle.std.specs.Prelude.{ℕ, ◌+◌, ◌*◌, ◌≤◌, false, ◌≡◌, List, eqb, length}
use Rattle.spec.specs.Layout.Format.{number_at}
use Rattle.spec.specs.Node.Shown as show
use Rattle.spec.specs.declared.Metric.{Metric}
use Rattle.map_tables.specs.declared.ShardRow.{ShardRow}
use Rattle.map_tables.specs.View.{view_shard}
use Rattle.map_tables.specs.Counted.{Sized}
use Rattle.node_header.specs.declared.HeldRow.{HeldRow}
use Rattle.node_header.specs.View.{Stores, view_held_row}
use Rattle.image_parts.specs.Shape.{Stored}
use Rattle.image_header_row.specs.Rows.{held_row_at}
use Rattle.image_header_set.specs.Row.{Outside}
use Rattle.calls_header.specs.Shows.{start_bytes}

-- the shard x as a row of the map leaves it, with the workers to start: the specification's definition
abbrev pub showing : (me : ℕ) → ShardRow → Metric → Stores → HeldRow → show.Showing
showing me row metric st x = show.show_held me (view_shard row) metric (view_held_row st x)

-- a row of the header stands there with its peers in use, and the map's row has its lists in their arrays
pub record Ready (s : List ℕ) (at : ℕ) (row : ShardRow) : Type 0 where
  pub room : at + 1280 ≤ length s
  pub peers : number_at 8 s (at + 88) ≤ 32
  pub sized : Sized row

-- no 33rd worker is needed
pub record Few (x : HeldRow) (me : ℕ) (row : ShardRow) : Type 0 where
  pub few : (st : Stores) (metric : Metric) → show.overworked (showing me row metric st x) ≡ false

-- how many workers start for the shard x, or 33 where a 33rd would be needed
pub record Needs (x : HeldRow) (me : ℕ) (row : ShardRow) (r : ℕ) : Type 0 where
  pub most : r ≤ 33
  pub full : (st : Stores) (metric : Metric) → show.overworked (showing me row metric st x) ≡ eqb r 33
  pub start : r ≤ 32 → (st : Stores) (metric : Metric) → length (showing me row metric st x).start ≡ r

-- of the row at a position, what no map changes stays, and nothing but that row is changed
pub record Keeps (s t : List ℕ) (at : ℕ) : Type 0 where
  pub outside : Outside s t at 1280
  pub key : (held_row_at t at).key ≡ (held_row_at s at).key
  pub slot : (held_row_at t at).slot ≡ (held_row_at s at).slot
  pub stored : (held_row_at t at).stored ≡ (held_row_at s at).stored
  pub last : (held_row_at t at).held.last ≡ (held_row_at s at).held.last

-- the row at a position becomes what the map leaves of the shard
pub record Shows (s t : List ℕ) (at me : ℕ) (row : ShardRow) : Type 0 where
  pub keeps : Keeps s t at
  pub peers : (held_row_at t at).held.count ≤ 32
  pub same : (st : Stores) (metric : Metric) → view_held_row st (held_row_at t at) ≡ (showing me row metric st (held_row_at s at)).held

-- .. of a shard whose collection the map lacks: it only learns its replicas
pub record Refreshes (s t : List ℕ) (at : ℕ) (row : ShardRow) : Type 0 where
  pub keeps : Keeps s t at
  pub peers : (held_row_at t at).held.count ≡ (held_row_at s at).held.count
  pub same : (st : Stores) → view_held_row st (held_row_at t at) ≡ show.refreshed (view_shard row) (view_held_row st (held_row_at s at))

-- there is room for the workers of the shard x
pub record Holds (p : List ℕ) (to : ℕ) (x : HeldRow) (me : ℕ) (row : ShardRow) (metric : Metric) : Type 0 where
  pub low : to ≤ 13824
  pub room : (st : Stores) → to + 54 * length (showing me row metric st x).start ≤ length p

-- the workers of the shard x are stored, and the next place is told
pub record Puts (p q : List ℕ) (to : ℕ) (x : HeldRow) (me : ℕ) (row : ShardRow) (metric : Metric) (r : ℕ) : Type 0 where
  pub stored : (st : Stores) → Stored p q to (start_bytes (showing me row metric st x).start) (54 * length (showing me row metric st x).start)
  pub next : (st : Stores) → r ≡ to + 54 * length (showing me row metric st x).start
  pub few : (st : Stores) → length (showing me row metric st x).start ≤ 32
