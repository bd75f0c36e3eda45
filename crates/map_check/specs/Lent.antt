-- Paper 01, 'Who is turned down', 24, of a lent map: no count beside an array passes its limit, and the map that the arrays are read as
-- is well formed. Definitions only.
use Rattle.std.specs.Prelude.{ℕ, Bool, List, take, leb}
use Rattle.spec.specs.Lists.{◌and◌, every}
use Rattle.spec.specs.Limits.{max_nodes, max_collections, max_shards, max_clients}
use Rattle.spec.specs.Map.Create.{collection_below, shard_below}
use Rattle.spec.specs.Map.Apply.{node_below, session_below}
use Rattle.spec.specs.Map.WellFormed.{node_fits, collection_fits, shard_fits, session_fits, table_fits, well_formed_map}
use Rattle.map_tables.specs.View.{view_nodes, view_collections, view_shards, view_sessions, view_map}
use Rattle.map_tables.specs.declared.Nodes.{Nodes}
use Rattle.map_tables.specs.declared.Collections.{Collections}
use Rattle.map_tables.specs.declared.Shards.{Shards}
use Rattle.map_tables.specs.declared.Sessions.{Sessions}
use Rattle.map_tables.specs.declared.ShardMap.{ShardMap}
use Rattle.map_check.specs.Rows.{node_counted, collection_counted, shard_counted, session_counted}

-- 'a count over its limit': of a table, and of the arrays in each row in use
unfoldable pub table_counted {ℓ} : {A : Type ℓ} → ℕ → (A → Bool) → ℕ → List A → Bool
table_counted limit row n items = leb n limit and every row (take n items)

abbrev pub nodes_counted : Nodes → Bool
nodes_counted t = table_counted max_nodes node_counted t.count t.items

abbrev pub collections_counted : Collections → Bool
collections_counted t = table_counted max_collections collection_counted t.count t.items

abbrev pub shards_counted : Shards → Bool
shards_counted t = table_counted max_shards shard_counted t.count t.items

abbrev pub sessions_counted : Sessions → Bool
sessions_counted t = table_counted max_clients session_counted t.count t.items

-- 'a count over its limit', of a lent map
unfoldable pub counted : ShardMap → Bool
counted m =
    nodes_counted m.nodes and collections_counted m.collections and shards_counted m.shards and sessions_counted m.sessions

-- 'Who is turned down', 24, of a lent map
unfoldable pub well_formed_lent : ShardMap → Bool
well_formed_lent m = counted m and well_formed_map (view_map m)

-- ---- the same, table by table

abbrev pub nodes_fit : Nodes → Bool
nodes_fit t = nodes_counted t and table_fits max_nodes node_below node_fits (view_nodes t)

abbrev pub collections_fit : Collections → Bool
collections_fit t = collections_counted t and table_fits max_collections collection_below collection_fits (view_collections t)

abbrev pub shards_fit : Shards → Bool
shards_fit t = shards_counted t and table_fits max_shards shard_below shard_fits (view_shards t)

abbrev pub sessions_fit : Sessions → Bool
sessions_fit t = sessions_counted t and table_fits max_clients session_below session_fits (view_sessions t)
