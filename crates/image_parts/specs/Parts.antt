-- The parts that the images share (docs/IMAGES.md): a name, an address, a key, the copies of a shard. For each the shape of its fields in
-- their order, what a value of the shape is read as (`..Of`), and the value that it is written as (`..Value`). Definitions only.
use Rattle.std.specs.Prelude.{ℕ, List, map, replicate}
use Rattle.spec.specs.Layout.Format.{bytes_of}
use Rattle.spec.specs.declared.DataNodeId.{DataNodeId}
use Rattle.spec.specs.declared.Replica.{Replica}
use Rattle.map_tables.specs.declared.Name.{Name}
use Rattle.map_tables.specs.declared.Address.{Address}
use Rattle.map_tables.specs.declared.ShardKey.{ShardKey}
use Rattle.image_parts.specs.Shape.{Shape, Value, byte, rep, ◌▸◌, u32, u64, value, encode}
use Rattle.image_parts.specs.Codes.{id_of}

-- length, bytes
abbrev pub name_f : Shape
name_f = u64 ▸ rep 32 byte

abbrev pub name_of : Value name_f → Name
name_of v = record { len = v.0; bytes = v.1 }

abbrev pub name_value : Name → Value name_f
name_value n = (n.len, n.bytes)

-- length, bytes
abbrev pub address_f : Shape
address_f = u64 ▸ rep 64 byte

abbrev pub address_of : Value address_f → Address
address_of v = record { len = v.0; bytes = v.1 }

abbrev pub address_value : Address → Value address_f
address_value a = (a.len, a.bytes)

-- collection, shard
abbrev pub key_f : Shape
key_f = name_f ▸ u32

abbrev pub key_of : Value key_f → ShardKey
key_of v = record { collection = name_of v.0; shard = v.1 }

abbrev pub key_value : ShardKey → Value key_f
key_value k = (name_value k.collection, k.shard)

-- node, incarnation
abbrev pub replica_f : Shape
replica_f = u64 ▸ u64

abbrev pub replica_read : Value replica_f → Replica
replica_read v = record { node = id_of v.0; incarnation = v.1 }

abbrev pub replica_value : Replica → Value replica_f
replica_value r = (r.node.0, r.incarnation)

abbrev pub no_replica : Replica
no_replica = record { node = id_of 0; incarnation = 0 }

abbrev pub id_value : DataNodeId → ℕ
id_value n = n.0

-- ---- the same at a position of an image, and as bytes

unfoldable pub name_at : List ℕ → ℕ → Name
name_at s at = name_of (value name_f s at)

unfoldable pub name_bytes : Name → List ℕ
name_bytes n = encode name_f (name_value n)

unfoldable pub address_at : List ℕ → ℕ → Address
address_at s at = address_of (value address_f s at)

unfoldable pub address_bytes : Address → List ℕ
address_bytes a = encode address_f (address_value a)

unfoldable pub key_at : List ℕ → ℕ → ShardKey
key_at s at = key_of (value key_f s at)

unfoldable pub key_bytes : ShardKey → List ℕ
key_bytes k = encode key_f (key_value k)

unfoldable pub replica_at : List ℕ → ℕ → Replica
replica_at s at = replica_read (value replica_f s at)

unfoldable pub replica_bytes : Replica → List ℕ
replica_bytes r = encode replica_f (replica_value r)

abbrev pub id_bytes : DataNodeId → List ℕ
id_bytes n = bytes_of 8 n.0

unfoldable pub replicas_at : List ℕ → ℕ → List Replica
replicas_at s at = map replica_read (value (rep 8 replica_f) s at)

unfoldable pub replicas_bytes : List Replica → List ℕ
replicas_bytes rs = encode (rep 8 replica_f) (map replica_value rs)

unfoldable pub ids_at : List ℕ → ℕ → List DataNodeId
ids_at s at = map id_of (value (rep 8 u64) s at)

unfoldable pub ids_bytes : List DataNodeId → List ℕ
ids_bytes ns = encode (rep 8 u64) (map id_value ns)

-- ---- a name and a key that say nothing

unfoldable pub no_name : Name
no_name = record { bytes = replicate 32 0; len = 0 }

unfoldable pub no_key : ShardKey
no_key = record { collection = no_name; shard = 0 }
