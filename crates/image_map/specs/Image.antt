-- A map's image (docs/IMAGES.md): 40 bytes of version and counts, then four tables of rows of a fixed size, 26536 bytes in all. Only the
-- rows in use are read and written. Definitions only.
use Rattle.std.specs.Prelude.{ℕ, ◌≤◌, ◌≡◌, Bool, true, false, cond, List, ◌++◌, map, length, replicate, leb}
use Rattle.std.proofs.lemmas.List.Edits.{sets}
use Rattle.spec.specs.Lists.{◌and◌}
use Rattle.spec.specs.Layout.Format.{number_at, bytes_of, concat_map}
use Rattle.spec.specs.Map.Tables as tables
use Rattle.spec.specs.declared.Metric.TheVariants.{Euclidean}
use Rattle.map_tables.specs.declared.NodeRow.{NodeRow}
use Rattle.map_tables.specs.declared.CollectionRow.{CollectionRow}
use Rattle.map_tables.specs.declared.ShardRow.{ShardRow}
use Rattle.map_tables.specs.declared.SessionRow.{SessionRow}
use Rattle.map_tables.specs.declared.Nodes.{Nodes}
use Rattle.map_tables.specs.declared.Collections.{Collections}
use Rattle.map_tables.specs.declared.Shards.{Shards}
use Rattle.map_tables.specs.declared.Sessions.{Sessions}
use Rattle.map_tables.specs.declared.ShardMap.{ShardMap}
use Rattle.std.specs.Prelude.{None}
use Rattle.map_tables.specs.declared.Outcome.TheVariants.{Applied}
use Rattle.map_tables.specs.View.{view_map}
use Rattle.image_map.specs.declared.Lent.{Lent}
use Rattle.image_parts.specs.Shape.{in_use, rows_at, codes_below}
use Rattle.image_parts.specs.Codes.{id_of, epoch_of}
use Rattle.image_parts.specs.Parts.{no_name, no_key, no_replica}
use Rattle.image_parts.specs.Canon.{padded}
use Rattle.image_map_form.specs.Canon.{image_node, image_collection, image_shard, image_session}
use Rattle.image_map_row.specs.Rows.{node_at, node_bytes, collection_at, collection_bytes, shard_at, shard_bytes, session_at, session_bytes}

-- ---- rows that say nothing, in the places past a count

unfoldable pub no_node : NodeRow
no_node = record { node = id_of 0; address = record { bytes = replicate 64 0; len = 0 }; incarnation = 0; alive = false }

unfoldable pub no_collection : CollectionRow
no_collection = record { name = no_name; spec = record { dimension = 0; metric = Euclidean; shards = 0; replication = 0 } }

unfoldable pub no_shard : ShardRow
no_shard = record {
  key = no_key;
  replicas = record { items = replicate 8 no_replica; count = 0 };
  primary = None;
  insync = record { items = replicate 8 (id_of 0); count = 0 };
  epoch = epoch_of 0;
}

unfoldable pub no_session : SessionRow
no_session = record { client = 0; seq = 0; outcome = Applied; key = no_key }

unfoldable pub no_nodes : Nodes
no_nodes = record { items = replicate 32 no_node; count = 0 }

unfoldable pub no_collections : Collections
no_collections = record { items = replicate 16 no_collection; count = 0 }

unfoldable pub no_shards : Shards
no_shards = record { items = replicate 64 no_shard; count = 0 }

unfoldable pub no_sessions : Sessions
no_sessions = record { items = replicate 64 no_session; count = 0 }

-- a map without rows
unfoldable pub no_map : ShardMap
no_map = record { version = 0; nodes = no_nodes; collections = no_collections; shards = no_shards; sessions = no_sessions }

-- ---- what the bytes are read as

abbrev pub nodes_at : List ℕ → Nodes
nodes_at s = record { items = rows_at 32 (in_use 32 (number_at 8 s 8)) (node_at s) no_node 96 40; count = number_at 8 s 8 }

abbrev pub collections_at : List ℕ → Collections
collections_at s = record { items = rows_at 16 (in_use 16 (number_at 8 s 16)) (collection_at s) no_collection 56 3112; count = number_at 8 s 16 }

abbrev pub shards_at : List ℕ → Shards
shards_at s = record { items = rows_at 64 (in_use 64 (number_at 8 s 24)) (shard_at s) no_shard 272 4008; count = number_at 8 s 24 }

abbrev pub sessions_at : List ℕ → Sessions
sessions_at s = record { items = rows_at 64 (in_use 64 (number_at 8 s 32)) (session_at s) no_session 80 21416; count = number_at 8 s 32 }

unfoldable pub map_at : List ℕ → ShardMap
map_at s = record {
  version = number_at 8 s 0;
  nodes = nodes_at s;
  collections = collections_at s;
  shards = shards_at s;
  sessions = sessions_at s;
}

-- every code of a row in use is listed: alive, metric, primary, outcome
unfoldable pub codes_listed : List ℕ → Bool
codes_listed s =
    codes_below 2 96 s (in_use 32 (number_at 8 s 8)) 56
    and (codes_below 2 56 s (in_use 16 (number_at 8 s 16)) 3156
    and (codes_below 2 272 s (in_use 64 (number_at 8 s 24)) 4052 and codes_below 17 80 s (in_use 64 (number_at 8 s 32)) 21476))

-- a map is lent: the buffer holds an image, in which every code is listed
unfoldable pub map_lent : List ℕ → Bool
map_lent s = leb 26536 (length s) and codes_listed s

abbrev pub lent_map : List ℕ → Lent
lent_map s = record { found = map_lent s; map = cond (map_lent s) (map_at s) no_map }

-- ---- what a write makes of an image: version, counts and the rows in use are stored, all other bytes stay

abbrev pub head_image : tables.Map → List ℕ
head_image x =
    (((bytes_of 8 x.version ++ bytes_of 8 (length x.nodes)) ++ bytes_of 8 (length x.collections)) ++ bytes_of 8 (length x.shards))
    ++ bytes_of 8 (length x.sessions)

-- the image of a map of `spec`, stored over bytes
unfoldable pub map_stored : List ℕ → tables.Map → List ℕ
map_stored s x =
    sets
    (sets
    (sets (sets (sets s 0 (head_image x)) 40 (concat_map node_bytes (map image_node x.nodes))) 3112 (concat_map collection_bytes (map image_collection x.collections)))
    4008 (concat_map shard_bytes (map image_shard x.shards)))
    21416 (concat_map session_bytes (map image_session x.sessions))

abbrev pub map_put : List ℕ → ShardMap → List ℕ
map_put s m = map_stored s (view_map m)

-- a buffer that is shorter than an image stays as it was
unfoldable pub map_written : List ℕ → ShardMap → List ℕ
map_written s m = cond (leb 26536 (length s)) (map_put s m) s

-- ---- the tables that such an image is read as: the rows from the start of their arrays on, past them rows that say nothing

abbrev pub image_map : tables.Map → ShardMap
image_map x = record {
  version = x.version;
  nodes = record { items = padded 32 no_node (map image_node x.nodes); count = length x.nodes };
  collections = record { items = padded 16 no_collection (map image_collection x.collections); count = length x.collections };
  shards = record { items = padded 64 no_shard (map image_shard x.shards); count = length x.shards };
  sessions = record { items = padded 64 no_session (map image_session x.sessions); count = length x.sessions };
}

-- ---- what the bytes at exit are, of those at entry and a map of `spec`: every byte, the tables that they lend, and that these are the map

pub record MapBecomes (s t : List ℕ) (x : tables.Map) : Type 0 where
  pub bytes : t ≡ map_stored s x
  pub lent : map_lent t ≡ true
  pub held : map_at t ≡ image_map x
  pub read : view_map (map_at t) ≡ x

-- what a write promises: of a map that the code holds the image is that of the map that it is read as
pub record MapWrites (s t : List ℕ) (m : ShardMap) : Type 0 where
  pub image : t ≡ map_written s m
  pub becomes : 26536 ≤ length s → MapBecomes s t (view_map m)
