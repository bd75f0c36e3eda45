-- What a map changes nothing of. Definitions only.
use Rattle.std.specs.Prelude.{ℕ, Bool, true, false, not, ◌≡◌, List, [], map, take}
use Rattle.spec.specs.Lists.{◌and◌, any}
use Rattle.spec.specs.Keys.{Key}
use Rattle.spec.specs.Log.{Log, Vectors}
use Rattle.spec.specs.Node.Shards.{on_node}
use Rattle.spec.specs.Node.Shown as show
use Rattle.spec.specs.declared.Metric.{Metric}
use Rattle.spec.specs.declared.Replica.{Replica}
use Rattle.spec.specs.declared.Peer.{Peer}
use Rattle.spec.specs.declared.Role.TheVariants.{Backup}
use Rattle.map_tables.specs.declared.Holders.{Holders}
use Rattle.map_tables.specs.declared.ShardRow.{ShardRow}
use Rattle.map_tables.specs.declared.ShardMap.{ShardMap}
use Rattle.map_tables.specs.View.{view_holders, view_primary, view_shard}
use Rattle.node_shard.specs.declared.Held.{Held}
use Rattle.node_shard.specs.View.{view_held}
use Rattle.node_shard.specs.Shows.{rises}
use Rattle.node_header.specs.declared.Node.{Node}
use Rattle.node_header.specs.View.{Stores, view_node}
use Rattle.node_show.specs.Walks.{shards_after}

-- a peer that is in the ack set though the shard does not list it
abbrev pub lost : List Replica → Peer → Bool
lost rs p = p.member and not (any (on_node p.node.0) rs)

-- the shard has these replicas
abbrev pub HoldsAs : Held → Holders → Type 0
HoldsAs h l = take h.holders h.replicas ≡ view_holders l

-- a record that the map leaves as it is, where it names this node primary
pub record LedOn (h : Held) (me : ℕ) (row : ShardRow) : Type 0 where
  pub stays : rises h.role h.epoch.0 row.epoch.0 ≡ false
  pub members : any (lost (view_holders row.replicas)) (take h.count h.peers) ≡ false
  pub rows : show.with_rows me [] (view_holders row.replicas) (take h.count h.peers) ≡ take h.count h.peers

-- a backup that tracks nothing
pub record LeftOn (h : Held) : Type 0 where
  pub role : h.role ≡ Backup
  pub own : h.own ≡ false
  pub count : h.count ≡ 0

-- the shard is after the row what it was, and no worker starts
pub record QuietRow (h : Held) (me : ℕ) (row : ShardRow) : Type 0 where
  pub holders : HoldsAs h row.replicas
  pub same : (k : Key) (l : Log) (v : Vectors) (metric : Metric)
      → show.show_held me (view_shard row) metric (view_held k l v h) ≡ show.still (view_held k l v h)

-- every shard held is, and no other
pub record QuietMap (n : Node) (m : ShardMap) : Type 0 where
  pub same : (s : Stores) → shards_after s n m ≡ map show.still (view_node s n).held
