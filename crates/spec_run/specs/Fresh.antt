-- Paper 01, 'Rules of a run', Fresh: one shard, created with distinct live holders, each listed under its own incarnation; all have been
-- shown that map, with no earlier history; nothing is under way or acknowledged. Ids, incarnations, key, metric, leases, versions, other
-- nodes, collections and sessions are free, but that no other node has a holder's id. Definitions only.
use Rattle.std.specs.Prelude.{ℕ, ◌<◌, ◌^◌, Bool, true, false, cond, not, ◌≡◌, List, [], ◌∷◌, eqb}
use Rattle.std.proofs.Math.Option.{Option, some}
use Rattle.spec.specs.Lists.{nth}
use Rattle.spec.specs.Map.Tables.{Map, ShardInfo, NodeInfo}
use Rattle.spec.specs.Map.Change.{holds, in_sync}
use Rattle.spec.specs.Map.Create.{node_at}
use Rattle.spec.specs.Map.WellFormed.{well_formed_map}
use Rattle.spec.specs.Layout.Writable.{GoodKey, U64}
use Rattle.spec.specs.Node.Held.{Node, empty_node}
use Rattle.spec.specs.Node.Shown.{take_map, collection_metric}
use Rattle.spec.specs.declared.DataNodeId.{DataNodeId}
use Rattle.spec.specs.declared.Replica.{Replica}
use Rattle.spec.specs.declared.Metric.{Metric}
use Rattle.spec_run.specs.State.{State}

-- no node is listed twice
abbrev pub Distinct : List Replica → Type 0
Distinct [] = Unit {0}
Distinct (r ∷ rs) = (holds r.node.0 rs ≡ false) × Distinct rs

-- a holder is alive in the map, under the incarnation that the shard lists
abbrev pub Live : Map → Replica → Type 0
Live m r = (i : NodeInfo) × (node_at m.nodes r.node.0 ≡ some i) × (i.alive ≡ true) × (i.incarnation ≡ r.incarnation)

-- 'Fresh': every holder is live
abbrev pub AllLive : Map → List Replica → Type 0
AllLive m [] = Unit {0}
AllLive m (r ∷ rs) = Live m r × U64 r.node.0 × AllLive m rs

-- 'Fresh': one shard, as Create leaves it
pub record Created (m : Map) (i : ShardInfo) : Type 0 where
  pub well_formed : well_formed_map m ≡ true
  pub only : m.shards ≡ i ∷ []
  pub key : GoodKey i.key
  pub metric : (x : Metric) × (collection_metric m i.key.collection ≡ some x)
  pub distinct : Distinct i.replicas
  pub live : AllLive m i.replicas
  pub first : (r : Replica) × (nth i.replicas 0 ≡ some r) × (i.primary ≡ some r.node.0)
  pub everyone : (n : ℕ) → in_sync n i.insync ≡ holds n i.replicas
  pub epoch : i.epoch ≡ 1

-- whether the node of a number may have an id: a holder's id is its number, and no other node has a holder's. Another's id need not be its
-- number, for a run numbers its nodes without end, and ids are u64
unfoldable pub proper_id : List Replica → (number id : ℕ) → Bool
proper_id rs n id = cond (holds n rs) (eqb id n) (not (holds id rs))

-- 'Fresh': a node that has been shown the map, with no earlier history. One that is no holder holds nothing, whether it has been or not.
-- Its lease and the version it knows are free
pub record Shown (m : Map) (i : ShardInfo) (me : ℕ) (n : Node) : Type 0 where
  pub id : proper_id i.replicas me n.id ≡ true
  pub held : n.held ≡ (take_map (empty_node me n.incarnation) m).after.held
  pub listed : (r : Replica) (place : ℕ) → nth i.replicas place ≡ some r → r.node.0 ≡ me → n.incarnation ≡ r.incarnation

-- 'Fresh'
pub record Fresh (s : State) : Type 0 where
  pub shard : ShardInfo
  pub created : Created s.map shard
  pub shown : (n : ℕ) → Shown s.map shard n (s.nodes n)
  pub clients : (n : ℕ) → U64 (s.clients n)
  pub requests : (a b : ℕ) → s.requests a b ≡ []
  pub replies : s.replies ≡ []
  pub offers : s.offers ≡ []
  pub outcomes : s.outcomes ≡ []
  pub accepted : s.accepted ≡ []
  pub acknowledged : s.acknowledged ≡ []
