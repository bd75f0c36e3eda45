-- How the code's tables are read as the shard map of `spec`: of each array the part in use. Definitions only.
use Rattle.std.specs.Prelude.{ℕ, List, map, take}
use Rattle.std.proofs.Math.Option.{Option, none, some}
use Rattle.spec.specs.Keys as keys
use Rattle.spec.specs.Refusals as said
use Rattle.spec.specs.Map.Tables as tables
use Rattle.spec.specs.Map.Change as change
use Rattle.spec.specs.Layout.Request as request
use Rattle.spec.specs.declared.DataNodeId.{DataNodeId}
use Rattle.spec.specs.declared.Replica.{Replica}
use Rattle.map_tables.specs.Names.{view_name, view_address, view_key}
use Rattle.map_tables.specs.declared.NodeRow.{NodeRow}
use Rattle.map_tables.specs.declared.Spec.{Spec}
use Rattle.map_tables.specs.declared.CollectionRow.{CollectionRow}
use Rattle.std.specs.declared.option.Option as option
use Rattle.std.specs.Prelude.{None, Some}
use Rattle.map_tables.specs.declared.Holders.{Holders}
use Rattle.map_tables.specs.declared.InSync.{InSync}
use Rattle.map_tables.specs.declared.ShardRow.{ShardRow}
use Rattle.map_tables.specs.declared.Rejection.{Rejection}
use Rattle.map_tables.specs.declared.Rejection.TheVariants.{
  Older,
  Exists,
  ZeroSpec,
  PlacementMismatch,
  NotAlive,
  NoCollection,
  KnownIncarnation,
  NotAtIncarnation,
  NoShard,
  OtherEpoch,
  AlreadyHeld,
  RemovesPrimary,
  NotHeld,
  NotInSync,
  ShrinksPrimary,
  AlreadyInSync,
}
use Rattle.map_tables.specs.declared.Outcome.{Outcome}
use Rattle.map_tables.specs.declared.Outcome.TheVariants.{Applied, Rejected}
use Rattle.map_tables.specs.declared.Refusal.{Refusal}
use Rattle.map_tables.specs.declared.Refusal.TheVariants.{Undecodable, NoRoom, Malformed, LastEpoch}
use Rattle.std.specs.Prelude.{Result}
use Rattle.std.specs.Prelude.{Ok, Err}
use Rattle.map_tables.specs.declared.Verdict.{Verdict}
use Rattle.map_tables.specs.declared.SessionRow.{SessionRow}
use Rattle.map_tables.specs.declared.Change.{Change}
use Rattle.map_tables.specs.declared.Change.TheVariants.{Add, Remove, Promote, Shrink, Expand}
use Rattle.map_tables.specs.declared.Command.{Command}
use Rattle.map_tables.specs.declared.Command.TheVariants.{Create, Drop, Register, MarkNodeDead, OfShard, Bench}
use Rattle.map_tables.specs.declared.Request.{Request}
use Rattle.map_tables.specs.declared.ShardKey.{ShardKey}
use Rattle.map_tables.specs.declared.Nodes.{Nodes}
use Rattle.map_tables.specs.declared.Collections.{Collections}
use Rattle.map_tables.specs.declared.Shards.{Shards}
use Rattle.map_tables.specs.declared.Sessions.{Sessions}
use Rattle.map_tables.specs.declared.ShardMap.{ShardMap}
use Rattle.map_tables.specs.declared.NodeList.{NodeList}
use Rattle.map_tables.specs.declared.Placement.{Placement}

-- ---- rows

abbrev pub view_node : NodeRow → tables.NodeInfo
view_node r = record { node = r.node.0; address = view_address r.address; incarnation = r.incarnation; alive = r.alive }

abbrev pub view_spec : Spec → tables.Spec
view_spec s = record { dimension = s.dimension; metric = s.metric; shards = s.shards; replication = s.replication }

abbrev pub view_collection : CollectionRow → tables.Collection
view_collection c = record { name = view_name c.name; spec = view_spec c.spec }

abbrev pub view_primary : option.Option DataNodeId → Option ℕ
view_primary None = none
view_primary (Some n) = some n.0

abbrev pub view_holders : Holders → List Replica
view_holders h = take h.count h.items

abbrev pub view_in_sync : InSync → List DataNodeId
view_in_sync s = take s.count s.items

abbrev pub view_shard : ShardRow → tables.ShardInfo
view_shard s = record {
  key = view_key s.key;
  replicas = view_holders s.replicas;
  primary = view_primary s.primary;
  insync = view_in_sync s.insync;
  epoch = s.epoch.0;
}

-- ---- answers: the paper's number and values of each case, by `spec`'s Refusals

abbrev pub rejection_of : Rejection → keys.Key → said.Rejection
rejection_of Older k = said.older
rejection_of Exists k = said.exists k.collection
rejection_of ZeroSpec k = said.zero_spec
rejection_of PlacementMismatch k = said.placement_mismatch
rejection_of (NotAlive n) k = said.not_alive n.0
rejection_of NoCollection k = said.no_collection k.collection
rejection_of (KnownIncarnation n i) k = said.known_incarnation n.0 i
rejection_of (NotAtIncarnation n i) k = said.not_at_incarnation n.0 i
rejection_of NoShard k = said.no_shard k
rejection_of (OtherEpoch own given) k = said.other_epoch k own.0 given.0
rejection_of (AlreadyHeld n) k = said.already_held n.0
rejection_of RemovesPrimary k = said.removes_primary
rejection_of (NotHeld n) k = said.not_held n.0
rejection_of (NotInSync n) k = said.not_in_sync n.0
rejection_of ShrinksPrimary k = said.shrinks_primary
rejection_of (AlreadyInSync n) k = said.already_in_sync n.0

abbrev pub outcome_of : Outcome → keys.Key → tables.Outcome
outcome_of Applied k = tables.applied
outcome_of (Rejected r) k = tables.rejected (rejection_of r k)

abbrev pub refusal_of : Refusal → said.Refusal
refusal_of Undecodable = said.undecodable
refusal_of NoRoom = said.no_room
refusal_of Malformed = said.malformed
refusal_of LastEpoch = said.last_epoch

abbrev pub answer_in : Result Outcome Refusal → keys.Key → tables.Answer
answer_in (Ok o) k = tables.outcome (outcome_of o k)
answer_in (Err r) k = tables.refused (refusal_of r)

abbrev pub answer_of : Verdict → tables.Answer
answer_of v = answer_in v.answer (view_key v.key)

abbrev pub view_session : SessionRow → tables.Session
view_session s = record { client = s.client; seq = s.seq; outcome = outcome_of s.outcome (view_key s.key) }

-- ---- changes

abbrev pub change_of : Change → change.Change
change_of (Add n i) = change.add n.0 i
change_of (Remove n) = change.remove n.0
change_of (Promote n) = change.promote n.0
change_of (Shrink n) = change.shrink n.0
change_of (Expand n) = change.expand n.0

-- the command that asks for a change
abbrev pub change_command : keys.Key → (epoch : ℕ) → change.Change → request.Command
change_command k e (change.add n i) = request.add_replica k n i e
change_command k e (change.remove n) = request.remove_replica k n e
change_command k e (change.promote n) = request.promote_primary k n e
change_command k e (change.shrink n) = request.shrink_in_sync k n e
change_command k e (change.expand n) = request.expand_in_sync k n e

-- ---- tables

abbrev pub view_nodes : Nodes → List tables.NodeInfo
view_nodes t = map view_node (take t.count t.items)

abbrev pub view_collections : Collections → List tables.Collection
view_collections t = map view_collection (take t.count t.items)

abbrev pub view_shards : Shards → List tables.ShardInfo
view_shards t = map view_shard (take t.count t.items)

abbrev pub view_sessions : Sessions → List tables.Session
view_sessions t = map view_session (take t.count t.items)

abbrev pub view_map : ShardMap → tables.Map
view_map m = record {
  version = m.version;
  nodes = view_nodes m.nodes;
  collections = view_collections m.collections;
  shards = view_shards m.shards;
  sessions = view_sessions m.sessions;
}

-- ---- placements

abbrev pub view_list : NodeList → List ℕ
view_list l = map (λ (n : DataNodeId). n.0) (take l.count l.nodes)

abbrev pub view_placement : Placement → List (List ℕ)
view_placement p = map view_list (take p.count p.lists)

-- ---- requests. The bytes of a Bench are not kept: nothing depends on them

abbrev pub command_in : Command → keys.Key → (address : keys.Name) → List (List ℕ) → (padding : List ℕ) → request.Command
command_in (Create s) k a p bs = request.create k.collection (view_spec s) p
command_in Drop k a p bs = request.drop_collection k.collection
command_in (Register n i) k a p bs = request.register n.0 a i
command_in (MarkNodeDead n i) k a p bs = request.mark_dead n.0 i
command_in (OfShard c e) k a p bs = change_command k e.0 (change_of c)
command_in Bench k a p bs = request.bench bs

abbrev pub view_command : Request → List ℕ → request.Command
view_command r bs = command_in r.command (view_key r.key) (view_address r.address) (view_placement r.placement) bs

abbrev pub view_request : Request → List ℕ → request.Request
view_request r bs = record { index = r.index; client = r.client; seq = r.seq; command = view_command r bs }

-- what is remembered of a request
abbrev pub session_of : Request → Outcome → ShardKey → tables.Session
session_of r o k = record { client = r.client; seq = r.seq; outcome = outcome_of o (view_key k) }
