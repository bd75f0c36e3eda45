-- Paper 01, 'The node' (node.rs): what a data node holds. Definitions only.
use Rattle.std.specs.Prelude.{ℕ, Bool, List, []}
use Rattle.std.proofs.Math.Option.{Option, none}
use Rattle.spec.specs.Keys.{Key}
use Rattle.spec.specs.Log.{ShardReplica}
use Rattle.spec.specs.declared.Replica.{Replica}
use Rattle.spec.specs.declared.Peer.{Peer}
use Rattle.spec.specs.declared.Role.{Role}

-- node.rs, Local, with its key. `holders` are the replicas that the last shown map lists; `own` says whether this node is in its own
-- ack set; a peer's row exists exactly for a started worker. A backup has no rows and `own` is false
pub record Held : Type 0 where
  pub key : Key
  pub replica : ShardReplica
  pub holders : List Replica
  pub role : Role
  pub own : Bool
  pub peers : List Peer

-- node.rs, State, with the node's id: `expiry` is the lease's end, `version` that of the last shown map, shards by rising key
pub record Node : Type 0 where
  pub id : ℕ
  pub incarnation : ℕ
  pub expiry : Option ℕ
  pub version : ℕ
  pub held : List Held

-- node.rs, Node::new
abbrev pub empty_node : ℕ → ℕ → Node
empty_node id incarnation = record { id = id; incarnation = incarnation; expiry = none; version = 0; held = [] }
