-- Paper 01, 'Who is broken down', 24: for each clause a lent state that just keeps it, and one that just breaks it. That every row holds
-- is computed in proofs/Cases/Malformed.antt. Definitions only.
use Rattle.std.specs.Prelude.{ℕ, zero, suc, Bool, true, false, List, [], ◌∷◌, ◌++◌, replicate}
use Rattle.std.proofs.Math.Option.{none}
use Rattle.spec.specs.Keys.{Name}
use Rattle.spec.specs.Refusals.{Rejection, exists, no_collection, no_shard, other_epoch}
use Rattle.spec.specs.Log.{Log, Entry, upsert, delete, Vectors, ShardReplica}
use Rattle.spec.specs.Map.Tables.{NodeInfo, Collection, ShardInfo, rejected, Session, Map}
use Rattle.spec.specs.Node.Held.{Node}
use Rattle.spec.specs.Starred.{floats}
use Rattle.spec.specs.declared.DataNodeId.{DataNodeId}
use Rattle.spec.specs.declared.Metric.TheVariants.{Euclidean}
use Rattle.spec.specs.declared.Peer.{Peer}
use Rattle.spec.specs.declared.Replica.{Replica}
use Rattle.spec.specs.declared.Role.TheVariants.{Primary}
use Rattle.spec.specs.Cases.Commands.{node, on, id, shard, session, sized, base, c, d}
use Rattle.spec.specs.Cases.Full.{collections_from, shards_from, replicas_from, sizes, only, holding, held_from, keeper}

-- a lent state, and whether it is well formed
pub record Row (A : Type 0) : Type 0 where
  pub lent : A
  pub well : Bool

-- a state that a call takes
abbrev pub formed : {A : Type 0} → A → Row A
formed a = record { lent = a; well = true }

-- a state that a call refuses with 24
abbrev pub broken : {A : Type 0} → A → Row A
broken a = record { lent = a; well = false }

-- ---- the map

-- a text of so many bytes
abbrev pub text : ℕ → Name
text n = replicate n 0x63

-- maps of one table each
abbrev pub with_nodes : List NodeInfo → Map
with_nodes ns = record { version = 0; nodes = ns; collections = []; shards = []; sessions = [] }

-- a map of those collections
abbrev pub with_collections : List Collection → Map
with_collections cs = record { version = 0; nodes = []; collections = cs; shards = []; sessions = [] }

-- a map of those shards
abbrev pub with_shards : List ShardInfo → Map
with_shards ss = record { version = 0; nodes = []; collections = []; shards = ss; sessions = [] }

-- a map of those clients
abbrev pub with_sessions : List Session → Map
with_sessions ss = record { version = 0; nodes = []; collections = []; shards = []; sessions = ss }

-- a map that remembers one rejection
abbrev pub remembering : Rejection → Map
remembering why = with_sessions (session 1 1 (rejected why) ∷ [])

-- a shard of nodes 1, 2 and 3, with those in sync
abbrev pub syncing : List DataNodeId → Map
syncing ds = with_shards (shard only (on 1 1 ∷ on 2 1 ∷ on 3 1 ∷ []) 1 ds ∷ [])

-- 'a count over its limit'
abbrev pub counts : List (Row Map)
counts =
    formed base
    ∷ formed (sizes 32 (collections_from 0x21 16) (shards_from 0x21 0 64) 64)
    ∷ broken (sizes 33 [] [] 1)
    ∷ broken (sizes 1 (collections_from 0x21 17) [] 1)
    ∷ broken (sizes 1 [] (shards_from 0x21 0 65) 1)
    ∷ broken (sizes 1 [] [] 65)
    ∷ formed (holding 8)
    ∷ broken (holding 9)
    ∷ formed (with_nodes (node 1 (text 64) 1 true ∷ []))
    ∷ broken (with_nodes (node 1 (text 65) 1 true ∷ []))
    ∷ formed (with_collections (record { name = text 32; spec = sized 0 0 0 } ∷ []))
    ∷ broken (with_collections (record { name = text 33; spec = sized 1 1 1 } ∷ []))
    ∷ formed (with_shards (shard (record { collection = text 32; shard = 0 }) [] 1 [] ∷ []))
    ∷ broken (with_shards (shard (record { collection = text 33; shard = 0 }) [] 1 [] ∷ []))
    ∷ []

-- 'sorted keys that do not rise', each table and the in_sync_lem nodes; names by their bytes, then the shorter first
abbrev pub orders : List (Row Map)
orders =
    broken (with_nodes (node 2 [] 1 true ∷ node 1 [] 1 true ∷ []))
    ∷ broken (with_nodes (node 2 [] 1 true ∷ node 2 [] 2 true ∷ []))
    ∷ formed (with_collections (record { name = c; spec = sized 1 1 1 } ∷ record { name = 0x63 ∷ 0x20 ∷ []; spec = sized 1 1 1 } ∷ record { name = d; spec = sized 1 1 1 } ∷ []))
    ∷ broken (with_collections (record { name = d; spec = sized 1 1 1 } ∷ record { name = c; spec = sized 1 1 1 } ∷ []))
    ∷ broken (with_collections (record { name = d; spec = sized 1 1 1 } ∷ record { name = d; spec = sized 1 1 1 } ∷ []))
    ∷ formed (with_shards (shard (record { collection = c; shard = 9 }) [] 1 [] ∷ shard (record { collection = d; shard = 0 }) [] 1 [] ∷ []))
    ∷ broken (with_shards (shard (record { collection = c; shard = 9 }) [] 1 [] ∷ shard (record { collection = c; shard = 9 }) [] 1 [] ∷ []))
    ∷ broken (with_shards (shard (record { collection = c; shard = 9 }) [] 1 [] ∷ shard (record { collection = c; shard = 8 }) [] 1 [] ∷ []))
    ∷ broken (with_sessions (session 2 1 (rejected (exists [])) ∷ session 1 1 (rejected (exists [])) ∷ []))
    ∷ formed (syncing (id 1 ∷ id 2 ∷ id 3 ∷ []))
    ∷ broken (syncing (id 2 ∷ id 1 ∷ []))
    ∷ broken (syncing (id 2 ∷ id 2 ∷ []))
    ∷ []

-- 'an in_sync_lem node that is not a holder'; none in sync is none that is not
abbrev pub in_sync : List (Row Map)
in_sync = broken (syncing (id 1 ∷ id 4 ∷ [])) ∷ formed (syncing []) ∷ []

-- 'an unlisted code': of a remembered reason all but 1 are listed; a name among its operands keeps its limit
abbrev pub reasons : List Bool
reasons = false ∷ replicate 15 true

-- names among the operands
abbrev pub operands : List (Row Map)
operands =
    formed (remembering (exists (text 32)))
    ∷ broken (remembering (exists (text 33)))
    ∷ formed (remembering (no_collection (text 32)))
    ∷ broken (remembering (no_collection (text 33)))
    ∷ formed (remembering (no_shard (record { collection = text 32; shard = 0 })))
    ∷ broken (remembering (no_shard (record { collection = text 33; shard = 0 })))
    ∷ formed (remembering (other_epoch (record { collection = text 32; shard = 0 }) 1 2))
    ∷ broken (remembering (other_epoch (record { collection = text 33; shard = 0 }) 1 2))
    ∷ []

-- ---- a node's header

-- rows of so many peers, from a number on, each with that ack
abbrev pub peers_from : (acked node count : ℕ) → List Peer
peers_from a k zero = []
peers_from a k (suc n) =
    record {
      node = record { 0 = k };
      acked = record { 0 = a };
      aligned = false;
      behind = false;
      since = 0;
      proposing = false;
      member = false;
    }
    ∷ peers_from a (suc k) n

-- a node with one shard: its name, its holders, how many entries its log has, its peers
abbrev pub heading : Name → List Replica → (entries : ℕ) → List Peer → Node
heading name hs n ps = record {
  id = 1;
  incarnation = 1;
  expiry = none;
  version = 0;
  held =
      record {
        key = record { collection = name; shard = 0 };
        replica = record { epoch = 1; metric = Euclidean; log = replicate n (record { epoch = 1; offset = 0; op = delete 0 }); vectors = [] };
        holders = hs;
        role = Primary (record { 0 = 1 }) (record { 0 = 0 });
        own = true;
        peers = ps;
      }
      ∷ [];
}

-- counts, keys that rise, acks up to 2^62
abbrev pub headers : List (Row Node)
headers =
    formed (keeper 8)
    ∷ broken (keeper 9)
    ∷ broken (record { id = 1; incarnation = 1; expiry = none; version = 0; held = held_from 1 1 ++ held_from 0 1 })
    ∷ formed (heading (text 32) (replicas_from 1 8) 1024 (peers_from 4611686018427387904 1 32))
    ∷ broken (heading (text 33) [] 0 [])
    ∷ broken (heading [] (replicas_from 1 9) 0 [])
    ∷ broken (heading [] [] 1025 [])
    ∷ broken (heading [] [] 0 (peers_from 0 1 33))
    ∷ broken (heading [] [] 0 (peers_from 4611686018427387905 1 1))
    ∷ broken (heading [] [] 0 (peers_from 0 2 1 ++ peers_from 0 1 1))
    ∷ broken (heading [] [] 0 (peers_from 0 2 1 ++ peers_from 0 2 1))
    ∷ []

-- ---- a log and its vectors

-- a replica at epoch 1
abbrev pub replica : Log → Vectors → ShardReplica
replica l vs = record { epoch = 1; metric = Euclidean; log = l; vectors = vs }

-- the entry at an offset that sets a vector, by its bits; one that deletes
abbrev pub sets : (offset id : ℕ) → List ℕ → Entry
sets o n bits = record { epoch = 1; offset = o; op = upsert n (floats bits) }

-- the entry at an offset that deletes
abbrev pub deletes : (offset id : ℕ) → Entry
deletes o n = record { epoch = 1; offset = o; op = delete n }

-- a log of one entry that sets id 7, with the table that follows
abbrev pub vector_of : List ℕ → ShardReplica
vector_of bits = replica (sets 1 7 bits ∷ []) (record { id = 7; components = floats bits } ∷ [])

-- offsets 1, 2, 3; components up to 2^32, which is 4F800000; 1 to 32 of them; the table that the log plays, by rising id
abbrev pub logs : List (Row ShardReplica)
logs =
    formed (replica [] [])
    ∷ formed (replica (deletes 1 7 ∷ deletes 2 7 ∷ []) [])
    ∷ broken (replica (deletes 0 7 ∷ []) [])
    ∷ broken (replica (deletes 1 7 ∷ deletes 3 7 ∷ []) [])
    ∷ formed (vector_of (0x4F800000 ∷ 0xCF800000 ∷ []))
    ∷ broken (vector_of (0x4F800001 ∷ []))
    ∷ broken (vector_of (0 ∷ 0xCF800001 ∷ []))
    ∷ broken (vector_of (0x7F800000 ∷ []))
    ∷ broken (vector_of (0x7FC00000 ∷ []))
    ∷ broken (vector_of [])
    ∷ formed (vector_of (replicate 32 0))
    ∷ broken (vector_of (replicate 33 0))
    ∷ broken (replica (sets 1 7 (0 ∷ []) ∷ []) [])
    ∷ broken (replica [] (record { id = 7; components = floats (0 ∷ []) } ∷ []))
    ∷ broken (replica (sets 1 7 (0 ∷ []) ∷ []) (record { id = 8; components = floats (0 ∷ []) } ∷ []))
    ∷ broken (replica (sets 1 7 (0 ∷ []) ∷ []) (record { id = 7; components = floats (0x80000000 ∷ []) } ∷ []))
    ∷ broken (replica (sets 1 7 (0 ∷ []) ∷ []) (record { id = 7; components = floats (0 ∷ 0 ∷ []) } ∷ []))
    ∷ formed
    (replica (sets 1 7 (0 ∷ []) ∷ sets 2 5 (0 ∷ []) ∷ [])
    (record { id = 5; components = floats (0 ∷ []) } ∷ record { id = 7; components = floats (0 ∷ []) } ∷ []))
    ∷ broken
    (replica (sets 1 7 (0 ∷ []) ∷ sets 2 5 (0 ∷ []) ∷ [])
    (record { id = 7; components = floats (0 ∷ []) } ∷ record { id = 5; components = floats (0 ∷ []) } ∷ []))
    ∷ []
