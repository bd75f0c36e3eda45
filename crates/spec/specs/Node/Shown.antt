-- Paper 01, 'The node', 'Map shown' (node.rs, on_map): what a node makes of a map, and which workers it starts. The checks before it (24)
-- are in Calls.antt. Definitions only.
use Rattle.std.specs.Prelude.{ℕ, Bool, true, false, cond, not, List, [], ◌∷◌, ◌++◌, map, eqb, leb, ltb, length}
use Rattle.std.proofs.Math.Option.{Option, none, some}
use Rattle.spec.specs.Lists.{◌and◌, ◌or◌, any, find, collect, put}
use Rattle.spec.specs.Limits.{max_held, max_workers}
use Rattle.spec.specs.Keys.{Name, Key, same_name}
use Rattle.spec.specs.Refusals.{Refusal, no_room}
use Rattle.spec.specs.Log.{promote, last_offset}
use Rattle.spec.specs.Map.Tables.{Map, NodeInfo, Collection, ShardInfo}
use Rattle.spec.specs.Node.Held.{Held, Node, empty_node}
use Rattle.spec.specs.Node.Shards.{Result, gives, held_shard, leads_at, row_below, of_node, on_node, demoted, begun}
use Rattle.spec.specs.declared.Metric.{Metric}
use Rattle.spec.specs.declared.DataNodeId.{DataNodeId}
use Rattle.spec.specs.declared.Replica.{Replica}
use Rattle.spec.specs.declared.Peer.{Peer}
use Rattle.spec.specs.declared.Role.{Role}
use Rattle.spec.specs.declared.Role.TheVariants.{Backup, Primary}

-- 'The node': a worker to start: the record's epoch, and the metric of the collection in that map
pub record Worker : Type 0 where
  pub key : Key
  pub peer : DataNodeId
  pub epoch : ℕ
  pub metric : Metric

-- the workers to start, by shard key and then node; or 23, 24
pub data ShownAnswer : Type 0 where
  shown : List Worker → ShownAnswer
  shown_refused : Refusal → ShownAnswer

-- ---- rows

-- that node
abbrev pub is_node : ℕ → DataNodeId → Bool
is_node k n = eqb n.0 k

-- node.rs, on_map: what is known of a peer whose worker starts
abbrev pub new_row : DataNodeId → (member : Bool) → Peer
new_row n m = record {
  node = n;
  acked = record { 0 = 0 };
  aligned = false;
  behind = false;
  since = 0;
  proposing = false;
  member = m;
}

-- node.rs, `workers.insert`: a row for one holder, unless it is this node or has one; in the ack set if it is among `sync`
unfoldable pub with_row : ℕ → List DataNodeId → DataNodeId → List Peer → List Peer
with_row me sync n rows =
    cond (eqb n.0 me or any (of_node n.0) rows) rows (put row_below (new_row n (any (is_node n.0) sync)) rows)

-- node.rs, on_map: a row for every other holder
unfoldable pub with_rows : ℕ → List DataNodeId → List Replica → List Peer → List Peer
with_rows me sync [] rows = rows
with_rows me sync (r ∷ rs) rows = with_rows me sync rs (with_row me sync r.node rows)

-- node.rs, `ack_set.retain`: a peer that the shard no longer lists leaves the ack set; its row stays
unfoldable pub retained : List Replica → Peer → Peer
retained rs p = record {
  node = p.node;
  acked = p.acked;
  aligned = p.aligned;
  behind = p.behind;
  since = p.since;
  proposing = p.proposing;
  member = p.member and any (on_node p.node.0) rs;
}

-- a row that was not there before
abbrev pub is_new : List Peer → Peer → Bool
is_new old p = not (any (of_node p.node.0) old)

-- the worker of a row
abbrev pub worker_for : Key → ℕ → Metric → Peer → Worker
worker_for k epoch metric p = record { key = k; peer = p.node; epoch = epoch; metric = metric }

-- 'Map shown': the workers of the rows that are new
unfoldable pub starts : Key → ℕ → Metric → (old rows : List Peer) → List Worker
starts k epoch metric old rows = collect (is_new old) (worker_for k epoch metric) rows

-- ---- one shard

-- a shard after the map, with the workers to start
pub record Showing : Type 0 where
  pub held : Held
  pub start : List Worker

-- a shard for which no worker starts
abbrev pub still : Held → Showing
still h = record { held = h; start = [] }

-- node.rs, `state.map = map`: the replicas that the last shown map lists
abbrev pub refreshed : ShardInfo → Held → Held
refreshed i h = record { key = h.key; replica = h.replica; holders = i.replicas; role = h.role; own = h.own; peers = h.peers }

-- node.rs, on_map: the map names this node primary
abbrev pub is_primary : Option ℕ → ℕ → Bool
is_primary none me = false
is_primary (some p) me = eqb p me

-- node.rs, on_map: promotion, or the first epoch of a new shard
abbrev pub promotes : Held → ShardInfo → Bool
promotes h i = not (leads_at h.role i.epoch) and leb h.replica.epoch i.epoch

-- node.rs, on_map: a new record; its ack set is the map's in_sync_lem set, as far as these are holders
unfoldable pub promoted_to : ℕ → ShardInfo → Metric → Held → Showing
promoted_to me i metric h =
    let rows = with_rows me i.insync i.replicas [] in
    record {
      held = record {
        key = h.key;
        replica = promote h.replica i.epoch;
        holders = i.replicas;
        role = Primary (record { 0 = i.epoch }) (record { 0 = last_offset h.replica });
        own = any (is_node me) i.insync;
        peers = rows;
      };
      start = starts h.key i.epoch metric [] rows;
    }

-- node.rs, on_map: a record that stays; a holder that it has no worker for gets one and is not in the ack set
unfoldable pub kept_as : ℕ → ShardInfo → Metric → Held → Role → Showing
kept_as me i metric h Backup = still (refreshed i h)
kept_as me i metric h (Primary e o) =
    let rows = with_rows me [] i.replicas (map (retained i.replicas) h.peers) in
    record {
      held = record {
        key = h.key;
        replica = h.replica;
        holders = i.replicas;
        role = Primary e o;
        own = h.own;
        peers = rows;
      };
      start = starts h.key e.0 metric h.peers rows;
    }

-- node.rs, on_map: a shard whose collection the map has
unfoldable pub show_held : ℕ → ShardInfo → Metric → Held → Showing
show_held me i metric h =
    cond (is_primary i.primary me)
    (cond (promotes h i) (promoted_to me i metric h) (kept_as me i metric h h.role))
    (still (demoted (refreshed i h)))

-- node.rs, on_map: a shard that lists this node. Where the map lacks the collection, none begins and a held one only learns its replicas
unfoldable pub show_listed : ℕ → ShardInfo → Option Metric → Option Held → Option Showing
show_listed me i none none = none
show_listed me i none (some h) = some (still (refreshed i h))
show_listed me i (some metric) none = some (show_held me i metric (begun i.key metric))
show_listed me i (some metric) (some h) = some (show_held me i metric h)

-- ---- the whole map

-- node.rs, on_map: a replica on this node, under its incarnation
abbrev pub listed_as : (id incarnation : ℕ) → Replica → Bool
listed_as id incarnation r = eqb r.node.0 id and eqb r.incarnation incarnation

-- a collection of that name
abbrev pub named : Name → Collection → Bool
named k c = same_name c.name k

-- a collection's metric, if the map has it
abbrev pub metric_of : Option Collection → Option Metric
metric_of none = none
metric_of (some c) = some c.spec.metric

-- node.rs, on_map: the metric of the shard's collection
abbrev pub collection_metric : Map → Name → Option Metric
collection_metric m k = metric_of (find (named k) m.collections)

-- node.rs, on_map: one shard of the map; one that does not list this node under its incarnation is not held (any more)
unfoldable pub show_shard : Node → Map → ShardInfo → Option Showing
show_shard n m i =
    cond (any (listed_as n.id n.incarnation) i.replicas)
    (show_listed n.id i (collection_metric m i.key.collection) (held_shard n i.key))
    none

-- one more shard, if it is held
abbrev pub or_not : Option Showing → List Showing → List Showing
or_not none l = l
or_not (some s) l = s ∷ l

-- node.rs, on_map: every shard held after, in the map's order
unfoldable pub showings : Node → Map → List ShardInfo → List Showing
showings n m [] = []
showings n m (i ∷ is) = or_not (show_shard n m i) (showings n m is)

-- 'Map shown': the workers to start, by shard key and then node
unfoldable pub all_starts : List Showing → List Worker
all_starts [] = []
all_starts (s ∷ ss) = s.start ++ all_starts ss

-- the shard of a showing
abbrev pub held_of : Showing → Held
held_of s = s.held

-- 'Map shown': a 33rd worker
abbrev pub overworked : Showing → Bool
overworked s = ltb max_workers (length s.held.peers)

-- 'Map shown': 23 if a ninth shard would be held after removals, or a 33rd worker
abbrev pub too_many : List Showing → Bool
too_many ss = ltb max_held (length ss) or any overworked ss

-- node.rs, on_map: the map is taken
unfoldable pub take_map : Node → Map → Result ShownAnswer Node
take_map n m =
    let ss = showings n m m.shards in
    cond (too_many ss) (gives (shown_refused no_room) n)
    (gives (shown (all_starts ss))
    (record { id = n.id; incarnation = n.incarnation; expiry = n.expiry; version = m.version; held = map held_of ss }))

-- node.rs, on_map: this node's own incarnation, marked dead
abbrev pub dead_as : Node → NodeInfo → Bool
dead_as n i = eqb i.node n.id and eqb i.incarnation n.incarnation and not i.alive

-- 'Map shown': an older version is ignored; a node listed dead starts over under the fresh incarnation
unfoldable pub on_map : Node → (fresh : ℕ) → Map → Result ShownAnswer Node
on_map n fresh m =
    cond (ltb m.version n.version) (gives (shown []) n)
    (cond (any (dead_as n) m.nodes) (gives (shown []) (empty_node n.id fresh))
    (take_map n m))
