-- Paper 01, 'Near misses': five small cases, each of which a plausible wrong definition gets wrong. That all of them pass is computed in
-- proofs/Cases/NearMisses.antt. Definitions only.
use Rattle.std.specs.Prelude.{ℕ, Bool, true, false, not, List, [], ◌∷◌, map, eqb, length}
use Rattle.std.proofs.Math.Option.{Option, none, some}
use Rattle.spec.specs.Lists.{◌and◌, every, any}
use Rattle.spec.specs.Keys.{Key}
use Rattle.spec.specs.Refusals.{reason_of}
use Rattle.spec.specs.Nearest.Search.{Vector, hits}
use Rattle.spec.specs.Log.{Entry, delete, last_offset}
use Rattle.spec.specs.Map.Tables.{Map, empty_map, ShardInfo, Answer, outcome, refused, applied, rejected}
use Rattle.spec.specs.Map.Apply.{Applied, apply}
use Rattle.spec.specs.Map.Change.{in_sync, is_id}
use Rattle.spec.specs.Layout.Request.{Command, create, register, remove_replica, Request}
use Rattle.spec.specs.Layout.Message.{reply_stored}
use Rattle.spec.specs.Node.Held.{Held}
use Rattle.spec.specs.Node.Ack.{sent_replicate, ack_held}
use Rattle.spec.specs.Node.Backup.{copy_held}
use Rattle.spec.specs.Starred.{backup_at, floats}
use Rattle.spec.specs.declared.Metric.TheVariants.{Euclidean}
use Rattle.spec.specs.declared.Neighbor.{Neighbor}
use Rattle.spec.specs.declared.Peer.{Peer}
use Rattle.spec.specs.declared.Role.TheVariants.{Primary}

-- ---- 'taking entries of a higher epoch without alignment'

-- a backup at epoch 2 is sent an entry of epoch 3: it stores nothing
unfoldable pub higher_epoch_waits : Bool
higher_epoch_waits =
    eqb
    (last_offset (copy_held 3 (record { epoch = 3; offset = 4; op = delete 0 } ∷ []) (backup_at 2 (1 ∷ 1 ∷ 2 ∷ []))).after.replica)
    3

-- ---- 'cutting an ordinary ack to the log's end (only alignment does)'

-- a primary with one entry, and one aligned peer
unfoldable pub primary_of_one : Held
primary_of_one =
    let h = backup_at 1 (1 ∷ []) in
    record {
      key = h.key;
      replica = h.replica;
      holders = [];
      role = Primary (record { 0 = 1 }) (record { 0 = 0 });
      own = true;
      peers =
          record {
            node = record { 0 = 7 };
            acked = record { 0 = 0 };
            aligned = true;
            behind = false;
            since = 0;
            proposing = false;
            member = true;
          }
          ∷ [];
    }

-- a row whose ack is that number
abbrev pub ack_is : ℕ → Peer → Bool
ack_is n p = eqb p.acked.0 n

-- its peer says that it stored five: five they are
unfoldable pub ack_as_said : Bool
ack_as_said = every (ack_is 5) (ack_held 1 7 sent_replicate (reply_stored 5) primary_of_one).after.peers

-- ---- 'forgetting a rejected command'

-- a request of client 9
abbrev pub asks : (seq : ℕ) → Command → Request
asks seq c = record { index = seq; client = 9; seq = seq; command = c }

-- the map after requests, one by one
unfoldable pub after : Map → List Request → Map
after m [] = m
after m (r ∷ rs) = after (apply m r).map rs

-- an answer with that reason, 0 if applied
abbrev pub reason_is : ℕ → Answer → Bool
reason_is n (outcome applied) = eqb 0 n
reason_is n (outcome (rejected r)) = eqb (reason_of r) n
reason_is n (refused r) = false

-- Register of node 1
abbrev pub node1 : (incarnation : ℕ) → Command
node1 i = register 1 [] i

-- node 1 at 4, again at 4 (rejected, 7), and under that seq once more at 5: the rejection is repeated
unfoldable pub rejection_stays : Bool
rejection_stays =
    reason_is 7 (apply (after empty_map (asks 1 (node1 4) ∷ asks 2 (node1 4) ∷ [])) (asks 2 (node1 5))).answer

-- ---- 'breaking equal distances by which was stored first'

-- a neighbour of that id
abbrev pub id_is : ℕ → Neighbor → Bool
id_is n x = eqb x.id n

-- the first two ids of an answer
abbrev pub ids_are : (first second : ℕ) → List Neighbor → Bool
ids_are a b [] = false
ids_are a b (x ∷ []) = false
ids_are a b (x ∷ y ∷ zs) = id_is a x and id_is b y

-- id 2 is stored before id 1, both at the same place: 1 comes first
unfoldable pub lower_id_first : Bool
lower_id_first =
    ids_are 1 2
    (hits Euclidean (floats (0 ∷ []))
    (record { id = 2; components = floats (0x3F800000 ∷ []) } ∷ record { id = 1; components = floats (0x3F800000 ∷ []) } ∷ [])
    2)

-- ---- 'letting a removed replica stay in sync'

-- the node is not in sync
abbrev pub lacks : ℕ → ShardInfo → Bool
lacks n s = not (in_sync n s.insync)

-- the key of the only shard
abbrev pub shard0 : Key
shard0 = record { collection = []; shard = 0 }

-- a shard on nodes 1 and 2, of which 2 is removed
unfoldable pub removed_leaves : Bool
removed_leaves =
    let m =
    after empty_map
    (asks 1 (node1 4)
    ∷ asks 2 (register 2 [] 4)
    ∷ asks 3 (create [] (record { dimension = 1; metric = Euclidean; shards = 1; replication = 2 }) ((1 ∷ 2 ∷ []) ∷ []))
    ∷ asks 4 (remove_replica shard0 2 1)
    ∷ []) in
    any (lacks 2) m.shards and every (lacks 2) m.shards

-- the five, in the paper's order
unfoldable pub near_misses : List Bool
near_misses = higher_epoch_waits ∷ ack_as_said ∷ rejection_stays ∷ lower_id_first ∷ removed_leaves ∷ []
