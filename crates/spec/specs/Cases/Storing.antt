-- Paper 01, 'The log' and 'Who is turned down', Replicate, CopyShard, NewEpoch (shard.rs, node.rs): what a backup answers, what a primary sends,
-- and what every call is asked first. That every row holds is computed in proofs/Cases/Storing.antt. Definitions only.
use Rattle.std.specs.Prelude.{ℕ, true, List, [], ◌∷◌}
use Rattle.std.proofs.Math.Option.{Option, none, some}
use Rattle.spec.specs.Refusals.{Refusal, unknown_shard, undecodable, outside_domain, malformed}
use Rattle.spec.specs.Log.{Entry, delete}
use Rattle.spec.specs.Map.Tables.{Map}
use Rattle.spec.specs.Layout.Parts.{wire_delete}
use Rattle.spec.specs.Layout.Message.{Reply, reply_stored, reply_gap, reply_stale, encode_search}
use Rattle.spec.specs.Node.Held.{Held, Node, empty_node}
use Rattle.spec.specs.Node.Worker.{Step, stop, wait, align, send, Message, new_epoch_message, replicate_message, copy_message}
use Rattle.spec.specs.Starred.{entries_of, up_to}
use Rattle.spec.specs.declared.DataNodeId.{DataNodeId}
use Rattle.spec.specs.declared.Metric.TheVariants.{Angular}
use Rattle.spec.specs.declared.Role.TheVariants.{Primary}
use Rattle.spec.specs.Cases.Commands.{on, id, part, shard}
use Rattle.spec.specs.Cases.Full.{collections_from, shards_from, keeper, only}
use Rattle.spec.specs.Cases.Malformed.{peers_from}
use Rattle.spec.specs.Cases.Placing.{live_to}

-- ---- a backup at epoch 2 whose log has entries of epochs 1, 1 and 2

-- Replicate: epoch, offset, reply
pub record StoreRow : Type 0 where
  pub epoch : ℕ
  pub offset : ℕ
  pub reply : Reply

-- a row
abbrev pub stores : (epoch offset : ℕ) → Reply → StoreRow
stores e o r = record { epoch = e; offset = o; reply = r }

-- the next offset is stored, one that is held is acknowledged again, a later one is a gap; another epoch is StaleEpoch own
abbrev pub storing : List StoreRow
storing =
    stores 2 4 (reply_stored 4)
    ∷ stores 2 3 (reply_stored 3)
    ∷ stores 2 1 (reply_stored 3)
    ∷ stores 2 6 (reply_gap 4)
    ∷ stores 1 4 (reply_stale 2)
    ∷ stores 3 4 (reply_stale 2)
    ∷ []

-- CopyShard: epoch, the offsets of its entries, reply
pub record CopyRow : Type 0 where
  pub epoch : ℕ
  pub offsets : List ℕ
  pub reply : Reply

-- a row
abbrev pub copies : (epoch : ℕ) → List ℕ → Reply → CopyRow
copies e os r = record { epoch = e; offsets = os; reply = r }

-- an empty one is Stored at any epoch; entries past a gap are not stored
abbrev pub copying : List CopyRow
copying =
    copies 2 [] (reply_stored 3)
    ∷ copies 9 [] (reply_stored 3)
    ∷ copies 9 (4 ∷ []) (reply_stale 2)
    ∷ copies 1 (4 ∷ []) (reply_stale 2)
    ∷ copies 2 (4 ∷ 5 ∷ []) (reply_stored 5)
    ∷ copies 2 (3 ∷ 4 ∷ []) (reply_stored 4)
    ∷ copies 2 (5 ∷ 6 ∷ []) (reply_stored 3)
    ∷ []

-- the entry at an offset, of epoch 2
abbrev pub second : ℕ → Entry
second o = record { epoch = 2; offset = o; op = delete 0 }

-- ---- what the primary of Serving sends

-- the step, and the request
pub record SendRow : Type 0 where
  pub step : Step
  pub message : Option Message

-- a row
abbrev pub sends : Step → Option Message → SendRow
sends s m = record { step = s; message = m }

-- an alignment tells the log that the epoch began with; a lone entry of the primary's epoch goes as Replicate, one of an older epoch as
-- CopyShard, and so do several; entries keep their own epochs in a CopyShard
abbrev pub sending : List SendRow
sending =
    sends stop none
    ∷ sends wait none
    ∷ sends align (some (new_epoch_message (record { key = part 0; epoch = 3; end = 2; table = up_to 1 2 ∷ []; metric = Angular })))
    ∷ sends (send 3 1 3) (some (replicate_message (record { key = part 0; epoch = 3; offset = 3; op = wire_delete 3 })))
    ∷ sends (send 2 1 1)
    (some (copy_message (record { key = part 0; epoch = 3; entries = record { epoch = 1; offset = 2; op = wire_delete 2 } ∷ [] })))
    ∷ sends (send 2 2 1)
    (some
    (copy_message
    (record {
      key = part 0;
      epoch = 3;
      entries = record { epoch = 1; offset = 2; op = wire_delete 2 } ∷ record { epoch = 3; offset = 3; op = wire_delete 3 } ∷ [];
    })))
    ∷ []

-- a primary at epoch 3 whose log has an entry of epoch 4: a lent state that no run reaches
abbrev pub ahead : Held
ahead = record {
  key = part 0;
  replica = record { epoch = 3; metric = Angular; log = entries_of 1 (4 ∷ []); vectors = [] };
  holders = on 1 1 ∷ on 2 1 ∷ [];
  role = Primary (record { 0 = 3 }) (record { 0 = 1 });
  own = true;
  peers = [];
}

-- its lone entry keeps its epoch too
abbrev pub newer : Message
newer = copy_message (record { key = part 0; epoch = 3; entries = record { epoch = 4; offset = 1; op = wire_delete 1 } ∷ [] })

-- ---- 21, then 22, then 24, before the call's own list

-- a node, a time, the bytes of a Search, and the refusal
pub record FirstRow : Type 0 where
  pub node : Node
  pub now : ℕ
  pub bytes : List ℕ
  pub refusal : Refusal

-- a row
abbrev pub first : Node → (now : ℕ) → List ℕ → Refusal → FirstRow
first n now bytes r = record { node = n; now = now; bytes = bytes; refusal = r }

-- a Search for a vector of one component, by its bits
abbrev pub asks : ℕ → List ℕ
asks bits = encode_search (record { key = part 0; epoch = 1; k = 1; bits = bits ∷ [] })

-- 2^32 is 4F800000; a time of 2^62 is the last; nine shards are malformed
abbrev pub asking : List FirstRow
asking =
    first (empty_node 1 1) 4611686018427387904 (asks 0x4F800000) unknown_shard
    ∷ first (empty_node 1 1) 4611686018427387905 (asks 0x4F800000) undecodable
    ∷ first (keeper 9) 0 [] undecodable
    ∷ first (keeper 9) 4611686018427387905 (asks 0x4F800001) undecodable
    ∷ first (empty_node 1 1) 0 (asks 0x4F800001) outside_domain
    ∷ first (keeper 9) 0 (asks 0x4F800001) outside_domain
    ∷ first (keeper 9) 0 (asks 0x4F800000) malformed
    ∷ []

-- ---- 23 of a map shown

-- a map with so many shards on node 1
abbrev pub listing : (shards : ℕ) → Map
listing n = record {
  version = 1;
  nodes = live_to 1 1;
  collections = collections_from 0x21 1;
  shards = shards_from 0x21 0 n;
  sessions = [];
}

-- a map with one shard on nodes 1 and 200, of which those are in sync
abbrev pub newcomer : List DataNodeId → Map
newcomer ds = record {
  version = 1;
  nodes = live_to 1 1;
  collections = collections_from 0x21 1;
  shards = shard only (on 1 1 ∷ on 200 1 ∷ []) 1 ds ∷ [];
  sessions = [];
}

-- the primary of that shard, with so many workers, for the nodes from 100 on
abbrev pub working : (workers : ℕ) → Node
working n = record {
  id = 1;
  incarnation = 1;
  expiry = none;
  version = 1;
  held =
      record {
        key = only;
        replica = record { epoch = 1; metric = Angular; log = []; vectors = [] };
        holders = on 1 1 ∷ [];
        role = Primary (record { 0 = 1 }) (record { 0 = 0 });
        own = true;
        peers = peers_from 0 100 n;
      }
      ∷ [];
}
