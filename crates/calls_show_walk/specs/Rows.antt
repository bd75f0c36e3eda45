-- What the walk over a map's shards makes in its two buffers: the rows of the shards held after, and the workers to start. Definitions only.
use Rattle.std.specs.Prelude.{ℕ, ◌+◌, ◌*◌, ◌≤◌, ◌<◌, true, false, ◌≡◌, List, map, length, take, get_or, Option, Some, None, Result, Ok, Err}
use Rattle.std.proofs.Math.Option.{none, some}
use Rattle.spec.specs.Map.Tables as tables
use Rattle.spec.specs.Node.Shown as show
use Rattle.spec.specs.declared.Metric.{Metric}
use Rattle.map_tables.specs.declared.ShardKey.{ShardKey}
use Rattle.map_tables.specs.declared.ShardRow.{ShardRow}
use Rattle.map_tables.specs.declared.ShardMap.{ShardMap}
use Rattle.map_tables.specs.declared.Collections.{Collections}
use Rattle.map_tables.specs.Names.{view_name, view_key}
use Rattle.map_tables.specs.View.{view_collections}
use Rattle.node_header.specs.declared.Node.{Node}
use Rattle.node_header.specs.View.{Stores}
use Rattle.image_parts.specs.Shape.{Stored}
use Rattle.image_header_row.specs.Rows.{held_row_at}
use Rattle.image_header_set.specs.Row.{Outside, RowBecomes}
use Rattle.image_header_begin.specs.Begun.{begun_set}
use Rattle.node_show.specs.Rows.{Taken, view_start, start_of, place_of, listed_shown, Overworks, ShowsListed}
use Rattle.node_show.specs.Walks.{Walks}
use Rattle.node_show.specs.Shows.{view_starts}
use Rattle.calls_header.specs.Shows.{start_bytes}
use Rattle.calls_show_row.specs.Row.{showing, Few, Shows}
use Rattle.calls_show_walk.specs.declared.Full.{Full}
use Rattle.calls_show_walk.specs.declared.RowsMade.{RowsMade}

-- ---- one shard

-- the place of its row in the header, or the count
abbrev pub PlaceOf : Node → ShardRow → ℕ → Type 0
PlaceOf n row at = at ≡ place_of n (view_key row.key)

-- the row of a shard before the map: that of the header s at place `at`, or one that begins, and has no slot yet
pub record Before (s u v : List ℕ) (to held at : ℕ) (key : ShardKey) (metric : Metric) : Type 0 where
  pub outside : Outside u v to 1280
  pub old : at < held → held_row_at v to ≡ held_row_at s (48 + 1280 * at)
  pub new : held ≤ at → held_row_at v to ≡ begun_set (held_row_at u to) key 8 0 metric

-- a shard whose collection the map has: its row at `to` becomes what the map leaves, and its workers stand behind the first `many`
pub record ShowsAt (u v p q : List ℕ) (to me : ℕ) (row : ShardRow) (metric : Metric) (many after : ℕ) : Type 0 where
  pub few : Few (held_row_at u to) me row
  pub shows : Shows u v to me row
  pub stored : (st : Stores) → Stored p q (54 * many) (start_bytes (showing me row metric st (held_row_at u to)).start) (54 * length (showing me row metric st (held_row_at u to)).start)
  pub next : (st : Stores) → after ≡ many + length (showing me row metric st (held_row_at u to)).start
  pub most : (st : Stores) → length (showing me row metric st (held_row_at u to)).start ≤ 32

-- .. or a 33rd worker would be needed
abbrev pub ShowsPut : (u v p q : List ℕ) → (to me : ℕ) → ShardRow → Metric → (many : ℕ) → Result ℕ Full → Type 0
ShowsPut u v p q to me row metric many (Ok after) = ShowsAt u v p q to me row metric many after
ShowsPut u v p q to me row metric many (Err e) = (st : Stores) → show.overworked (showing me row metric st (held_row_at u to)) ≡ true

-- why a shard is refused: a ninth is held after, or it needs a 33rd worker
pub data Refused (n : Node) (t : Collections) (row : ShardRow) (count : ℕ) : Type 0 where
  ninth : 8 ≤ count → ((s : Stores) (m : tables.Map) → m.collections ≡ view_collections t → (x : show.Showing) × (listed_shown s n m row ≡ some x))
      → Refused n t row count
  worker : ((s : Stores) (m : tables.Map) → m.collections ≡ view_collections t → Overworks (listed_shown s n m row)) → Refused n t row count

-- the shard is taken: its row stands at place `count` of the rows, its workers behind the first `many`
pub record RowTaken (n : Node) (t : Collections) (row : ShardRow) (u v p q : List ℕ) (count many after : ℕ) : Type 0 where
  pub room : count < 8
  pub taken : Taken
  pub shows : ShowsListed n t row (record { skip = false; full = false; taken = taken })
  pub becomes : RowBecomes u v (1280 * count) taken.kept
  pub stored : Stored p q (54 * many) (start_bytes (view_start taken.start)) (54 * length (view_start taken.start))
  pub next : after ≡ many + length (view_start taken.start)
  pub most : length (view_start taken.start) ≤ 32

-- the shard is not held after: both buffers are as they were
pub record RowSkipped (n : Node) (t : Collections) (row : ShardRow) (u v p q : List ℕ) : Type 0 where
  pub same : (v ≡ u) × (q ≡ p)
  pub skips : (s : Stores) (m : tables.Map) → m.collections ≡ view_collections t → listed_shown s n m row ≡ none

-- one shard that lists this node; of any map with these collections
abbrev pub Takes : Node → Collections → ShardRow → (u v p q : List ℕ) → (count many : ℕ) → Result (Option ℕ) Full → Type 0
Takes n t row u v p q count many (Ok None) = RowSkipped n t row u v p q
Takes n t row u v p q count many (Ok (Some after)) = RowTaken n t row u v p q count many after
Takes n t row u v p q count many (Err e) = Refused n t row count

-- .. where the map lacks its collection
abbrev pub Keeps : Node → ShardRow → (u v : List ℕ) → (count many : ℕ) → Result (Option ℕ) Full → Type 0
Keeps n row u v count many r =
    (t : Collections) → ((m : tables.Map) → m.collections ≡ view_collections t → show.collection_metric m (view_name row.key.collection) ≡ none)
    → (p : List ℕ) → Takes n t row u v p p count many r

-- .. and where it has it
abbrev pub Knows : Node → ShardRow → Metric → (u v p q : List ℕ) → (count many : ℕ) → Result (Option ℕ) Full → Type 0
Knows n row metric u v p q count many r =
    (t : Collections) → ((m : tables.Map) → m.collections ≡ view_collections t → show.collection_metric m (view_name row.key.collection) ≡ some metric)
    → Takes n t row u v p q count many r

-- ---- all of them

-- the shards held after, each with the workers to start for it
pub record RowsStand (n : Node) (m : ShardMap) (u p : List ℕ) (r : RowsMade) : Type 0 where
  pub items : List Taken
  pub walks : Walks n m (record { full = false; items = items; count = r.count })
  pub rows : (j : ℕ) (d : Taken) → j < r.count → held_row_at u (1280 * j) ≡ (get_or items j d).kept
  pub starts : take (54 * r.workers) p ≡ start_bytes (view_starts (map start_of (take r.count items)))
  pub workers : r.workers ≡ length (view_starts (map start_of (take r.count items)))
  pub most : r.workers ≤ 256

-- .. or the map is refused, after as many as are told
pub record RowsRefused (n : Node) (m : ShardMap) (r : RowsMade) : Type 0 where
  pub items : List Taken
  pub walks : Walks n m (record { full = true; items = items; count = r.count })
  pub most : r.workers ≤ 256

abbrev pub Made : Node → ShardMap → (u p : List ℕ) → Result RowsMade RowsMade → Type 0
Made n m u p (Ok r) = RowsStand n m u p r
Made n m u p (Err r) = RowsRefused n m r
