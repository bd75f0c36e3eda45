-- Paper 01, 'Who is turned down', Create (state.rs, create_collection): its answer, which is a function of the map, the name, the
-- spec and the placement alone, and the collection and shards that it makes. Definitions only.
use Rattle.std.specs.Prelude.{ℕ, zero, suc, Bool, true, false, cond, not, length, eqb, leb, ltb}
use mathlib.Core.List.{List, [], ◌∷◌, map, flatten}
use Rattle.std.proofs.Math.Option.{Option, none, some}
use Rattle.spec.specs.Lists.{◌and◌, ◌or◌, nth, every, any, find, put}
use Rattle.spec.specs.Limits.{max_collections, max_shards}
use Rattle.spec.specs.Keys.{Name, Key, name_below, same_name, key_below}
use Rattle.spec.specs.Refusals.{exists, zero_spec, placement_mismatch, not_alive, no_room}
use Rattle.spec.specs.Map.Tables.{NodeInfo, Spec, Collection, ShardInfo, Map, Answer, refused}
use Rattle.spec.specs.Map.Change.{accepts, rejects, node_id, id_below}
use Rattle.spec.specs.declared.DataNodeId.{DataNodeId}
use Rattle.spec.specs.declared.Replica.{Replica}

-- 'Bytes on the wire', Create: for each shard its nodes, the primary first
abbrev pub Placement : Type 0
Placement = List (List ℕ)

-- the row of that node
abbrev pub is_node : ℕ → NodeInfo → Bool
is_node n i = eqb i.node n

-- state.rs, map.nodes.get
unfoldable pub node_at : List NodeInfo → ℕ → Option NodeInfo
node_at ns n = find (is_node n) ns

-- 5: a node that the map knows, and knows alive
abbrev pub is_alive : Option NodeInfo → Bool
is_alive none = false
is_alive (some i) = i.alive

-- a collection of that name
abbrev pub is_named : Name → Collection → Bool
is_named name c = same_name c.name name

-- 2: a collection of that name
unfoldable pub has_collection : Name → List Collection → Bool
has_collection name cs = any (is_named name) cs

-- 3: a zero in dimension, shards or replication
unfoldable pub zero_in : Spec → Bool
zero_in s = eqb s.dimension 0 or eqb s.shards 0 or eqb s.replication 0

-- state.rs: a list has at least one node, and no more than the replication
abbrev pub list_matches : ℕ → List ℕ → Bool
list_matches replication l = ltb 0 (length l) and leb (length l) replication

-- 4: as many lists as shards, each with as many nodes as it may have
unfoldable pub matches : Spec → Placement → Bool
matches s p = eqb (length p) s.shards and every (list_matches s.replication) p

-- 5: the first node not alive, in placement order
unfoldable pub first_not_alive : List NodeInfo → Placement → Option ℕ
first_not_alive ns p = find (λ n. not (is_alive (node_at ns n))) (flatten p)

-- state.rs, collect into a BTreeSet: the nodes of a list added to a set one after the other
unfoldable pub add_all : List DataNodeId → List ℕ → List DataNodeId
add_all ds [] = ds
add_all ds (n ∷ ns) = add_all (put id_below (node_id n) ds) ns

-- state.rs: the incarnation that the map knows
abbrev pub incarnation_of : Option NodeInfo → ℕ
incarnation_of none = 0
incarnation_of (some i) = i.incarnation

-- state.rs: a replica is listed under the incarnation that the map knows
abbrev pub replica_of : List NodeInfo → ℕ → Replica
replica_of ns n = record { node = node_id n; incarnation = incarnation_of (node_at ns n) }

-- state.rs: one new shard. A repeated node is one more replica, and once in the set
unfoldable pub new_shard : List NodeInfo → Name → ℕ → List ℕ → ShardInfo
new_shard ns name number l = record {
  key = record { collection = name; shard = number };
  replicas = map (replica_of ns) l;
  primary = nth l 0;
  insync = add_all [] l;
  epoch = 1;
}

-- 'sorted keys': shards by key
abbrev pub shard_below : ShardInfo → ShardInfo → Bool
shard_below a b = key_below a.key b.key

-- state.rs, map.shards.extend: the shards of a placement, numbered from a number on, each put in
unfoldable pub with_shards : List ShardInfo → List NodeInfo → Name → ℕ → Placement → List ShardInfo
with_shards ss ns name number [] = ss
with_shards ss ns name number (l ∷ ls) = with_shards (put shard_below (new_shard ns name number l) ss) ns name (suc number) ls

-- the shards after the collection was created
unfoldable pub created_shards : Map → Name → Placement → List ShardInfo
created_shards m name p = with_shards m.shards m.nodes name 0 p

-- 'sorted keys': collections by name
abbrev pub collection_below : Collection → Collection → Bool
collection_below a b = name_below a.name b.name

-- the collections after it was created
unfoldable pub created_collections : Map → Name → Spec → List Collection
created_collections m name spec = put collection_below (record { name = name; spec = spec }) m.collections

-- 23: a 17th collection or a 65th shard
unfoldable pub create_room : Map → Name → Placement → Bool
create_room m name p = ltb (length m.collections) max_collections and leb (length (created_shards m name p)) max_shards

-- 5, then 23
unfoldable pub create_on : Map → Name → Placement → Option ℕ → Answer
create_on m name p (some n) = rejects (not_alive n)
create_on m name p none = cond (create_room m name p) accepts (refused no_room)

-- 'Who is turned down', Create: 2, 3, 4, 5, 23
unfoldable pub create_answer : Map → Name → Spec → Placement → Answer
create_answer m name spec p =
    cond (has_collection name m.collections) (rejects (exists name))
    (cond (zero_in spec) (rejects zero_spec)
    (cond (matches spec p) (create_on m name p (first_not_alive m.nodes p)) (rejects placement_mismatch)))
