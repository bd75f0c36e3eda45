-- The rows in use of a map's image, and the map that they are. Definitions only.
use Rattle.std.specs.Prelude.{ℕ, List, map}
use Rattle.spec.specs.Layout.Format.{number_at}
use Rattle.spec.specs.Map.Tables as tables
use Rattle.map_tables.specs.View.{view_node, view_collection, view_shard, view_session}
use Rattle.map_tables.specs.declared.NodeRow.{NodeRow}
use Rattle.map_tables.specs.declared.CollectionRow.{CollectionRow}
use Rattle.map_tables.specs.declared.ShardRow.{ShardRow}
use Rattle.map_tables.specs.declared.SessionRow.{SessionRow}
use Rattle.image_parts.specs.Shape.{items}
use Rattle.image_map_row.specs.Rows.{node_at, collection_at, shard_at, session_at}

module _ (s : List ℕ) where
  abbrev pub node_rows : List NodeRow
  node_rows = items (number_at 8 s 8) (node_at s) 96 40

  abbrev pub collection_rows : List CollectionRow
  collection_rows = items (number_at 8 s 16) (collection_at s) 56 3112

  abbrev pub shard_rows : List ShardRow
  shard_rows = items (number_at 8 s 24) (shard_at s) 272 4008

  abbrev pub session_rows : List SessionRow
  session_rows = items (number_at 8 s 32) (session_at s) 80 21416

abbrev pub map_of : (v : ℕ) → List NodeRow → List CollectionRow → List ShardRow → List SessionRow → tables.Map
map_of v a b c d = record {
  version = v;
  nodes = map view_node a;
  collections = map view_collection b;
  shards = map view_shard c;
  sessions = map view_session d;
}

-- the map that the bytes are read as, by its rows
abbrev pub read_as : List ℕ → tables.Map
read_as s = map_of (number_at 8 s 0) (node_rows s) (collection_rows s) (shard_rows s) (session_rows s)
