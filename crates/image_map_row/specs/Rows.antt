-- The rows of a map's image (docs/IMAGES.md): for each the shape of its fields in their order, what a value of the shape is read as
-- (`..Of`), and the value that a row is written as (`..Value`). Definitions only.
use Rattle.std.specs.Prelude.{ℕ, ◌+◌, List, map}
use Rattle.spec.specs.Layout.Format.{number_at}
use Rattle.spec.specs.Layout.Parts.{metric_of, metric_code}
use Rattle.map_tables.specs.declared.NodeRow.{NodeRow}
use Rattle.map_tables.specs.declared.CollectionRow.{CollectionRow}
use Rattle.map_tables.specs.declared.Holders.{Holders}
use Rattle.map_tables.specs.declared.InSync.{InSync}
use Rattle.map_tables.specs.declared.ShardRow.{ShardRow}
use Rattle.map_tables.specs.declared.SessionRow.{SessionRow}
use Rattle.image_parts.specs.Shape.{Shape, Value, rep, ◌▸◌, u32, u64, value, encode}
use Rattle.image_parts.specs.Parts.{name_f, name_of, name_value, address_f, address_of, address_value, key_f, key_of, key_value, replica_f, replica_read, replica_value, id_value, replicas_at, ids_at}
use Rattle.image_parts.specs.Codes.{id_of, epoch_of, flag_of, flag_code, primary_of, primary_code, primary_node, coded, outcome_of, outcome_coded}

-- ---- rows

-- node, incarnation, alive, 0, address
abbrev pub node_f : Shape
node_f = u64 ▸ u64 ▸ u32 ▸ u32 ▸ address_f

abbrev pub node_of : Value node_f → NodeRow
node_of ((((node, incarnation), alive), unused), address) =
    record { node = id_of node; address = address_of address; incarnation = incarnation; alive = flag_of alive }

abbrev pub node_value : NodeRow → Value node_f
node_value r = ((((r.node.0, r.incarnation), flag_code r.alive), 0), address_value r.address)

-- name, dimension, metric, shards, replication
abbrev pub collection_f : Shape
collection_f = name_f ▸ u32 ▸ u32 ▸ u32 ▸ u32

abbrev pub collection_of : Value collection_f → CollectionRow
collection_of ((((name, dimension), metric), shards), replication) =
    record { name = name_of name; spec = record { dimension = dimension; metric = metric_of metric; shards = shards; replication = replication } }

abbrev pub collection_value : CollectionRow → Value collection_f
collection_value c =
    ((((name_value c.name, c.spec.dimension), metric_code c.spec.metric), c.spec.shards), c.spec.replication)

-- key, primary's code and node, epoch, how many holders, how many in sync, the holders, those in sync
abbrev pub shard_f : Shape
shard_f = key_f ▸ u32 ▸ u64 ▸ u64 ▸ u64 ▸ u64 ▸ rep 8 replica_f ▸ rep 8 u64

abbrev pub shard_row_of : Value shard_f → ShardRow
shard_row_of (((((((key, code), node), epoch), holders), synced), replicas), insync) = record {
  key = key_of key;
  replicas = record { items = map replica_read replicas; count = holders };
  primary = primary_of code node;
  insync = record { items = map id_of insync; count = synced };
  epoch = epoch_of epoch;
}

abbrev pub shard_value : ShardRow → Value shard_f
shard_value s = (
  (
    (((((key_value s.key, primary_code s.primary), primary_node s.primary), s.epoch.0), s.replicas.count), s.insync.count),
    map replica_value s.replicas.items,
  ),
  map id_value s.insync.items,
)

-- client, seq, the key beside the outcome, the outcome's code and its two operands
abbrev pub session_f : Shape
session_f = u64 ▸ u64 ▸ key_f ▸ u32 ▸ u64 ▸ u64

abbrev pub session_of : Value session_f → SessionRow
session_of (((((client, seq), key), code), first), second) =
    record { client = client; seq = seq; outcome = outcome_of (coded code first second); key = key_of key }

abbrev pub session_value : SessionRow → Value session_f
session_value r =
    (((((r.client, r.seq), key_value r.key), (outcome_coded r.outcome).code), (outcome_coded r.outcome).first), (outcome_coded r.outcome).second)

-- ---- the same at a position of an image, and as bytes

unfoldable pub holders_at : List ℕ → ℕ → Holders
holders_at s at = record { items = replicas_at s (at + 80); count = number_at 8 s (at + 64) }

unfoldable pub in_sync_at : List ℕ → ℕ → InSync
in_sync_at s at = record { items = ids_at s (at + 208); count = number_at 8 s (at + 72) }

unfoldable pub node_at : List ℕ → ℕ → NodeRow
node_at s at = node_of (value node_f s at)

unfoldable pub node_bytes : NodeRow → List ℕ
node_bytes r = encode node_f (node_value r)

unfoldable pub collection_at : List ℕ → ℕ → CollectionRow
collection_at s at = collection_of (value collection_f s at)

unfoldable pub collection_bytes : CollectionRow → List ℕ
collection_bytes c = encode collection_f (collection_value c)

unfoldable pub shard_at : List ℕ → ℕ → ShardRow
shard_at s at = shard_row_of (value shard_f s at)

unfoldable pub shard_bytes : ShardRow → List ℕ
shard_bytes r = encode shard_f (shard_value r)

unfoldable pub session_at : List ℕ → ℕ → SessionRow
session_at s at = session_of (value session_f s at)

unfoldable pub session_bytes : SessionRow → List ℕ
session_bytes r = encode session_f (session_value r)
