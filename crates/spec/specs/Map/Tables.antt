-- Paper 01, 'The shard map' (state.rs, rpc/lib.rs): what the shard map holds. Definitions only.
use Rattle.std.specs.Prelude.{ℕ, Bool, List, []}
use Rattle.std.proofs.Math.Option.{Option}
use Rattle.spec.specs.Keys.{Name, Key}
use Rattle.spec.specs.Refusals.{Rejection, Refusal}
use Rattle.spec.specs.declared.Metric.{Metric}
use Rattle.spec.specs.declared.DataNodeId.{DataNodeId}
use Rattle.spec.specs.declared.Replica.{Replica}

-- rpc/lib.rs, DataNodeInfo, with its id
pub record NodeInfo : Type 0 where
  pub node : ℕ
  pub address : Name
  pub incarnation : ℕ
  pub alive : Bool

-- rpc/lib.rs, CollectionSpec
pub record Spec : Type 0 where
  pub dimension : ℕ
  pub metric : Metric
  pub shards : ℕ
  pub replication : ℕ

-- a collection: its name and its spec
pub record Collection : Type 0 where
  pub name : Name
  pub spec : Spec

-- rpc/lib.rs, ShardInfo, with its key. Replicas keep their order; in_sync_lem nodes rise
pub record ShardInfo : Type 0 where
  pub key : Key
  pub replicas : List Replica
  pub primary : Option ℕ
  pub insync : List DataNodeId
  pub epoch : ℕ

-- rpc/lib.rs, Outcome, with the source's operands instead of its words
pub data Outcome : Type 0 where
  applied : Outcome
  rejected : Rejection → Outcome

-- what is remembered of a client: its last sequence number and that command's outcome
pub record Session : Type 0 where
  pub client : ℕ
  pub seq : ℕ
  pub outcome : Outcome

-- state.rs, StateMachine: the map and the sessions; every table by its rising key
pub record Map : Type 0 where
  pub version : ℕ
  pub nodes : List NodeInfo
  pub collections : List Collection
  pub shards : List ShardInfo
  pub sessions : List Session

-- 'Program applymap': the empty map
abbrev pub empty_map : Map
empty_map = record { version = 0; nodes = []; collections = []; shards = []; sessions = [] }

-- what a request is answered: an outcome, or one of 21 to 25
pub data Answer : Type 0 where
  outcome : Outcome → Answer
  refused : Refusal → Answer
