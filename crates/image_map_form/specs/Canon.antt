-- The row in which each row of `spec`'s map is written (docs/IMAGES.md): names, addresses, replicas and ids stand at the start of their arrays
-- with zeros past them, and of a session's key there is what its outcome has among its operands. So a row's bytes depend on what it is read
-- as, and on nothing else. Definitions only.
use Rattle.std.specs.Prelude.{ℕ, List, [], length}
use Rattle.std.proofs.Math.Option.{Option, none, some}
use Rattle.spec.specs.Keys as keys
use Rattle.spec.specs.Refusals as said
use Rattle.spec.specs.Map.Tables as tables
use Rattle.spec.specs.declared.DataNodeId.{DataNodeId}
use Rattle.spec.specs.declared.Replica.{Replica}
use Rattle.map_tables.specs.declared.NodeRow.{NodeRow}
use Rattle.map_tables.specs.declared.CollectionRow.{CollectionRow}
use Rattle.std.specs.declared.option.Option as option
use Rattle.std.specs.Prelude.{None, Some}
use Rattle.map_tables.specs.declared.Holders.{Holders}
use Rattle.map_tables.specs.declared.InSync.{InSync}
use Rattle.map_tables.specs.declared.ShardRow.{ShardRow}
use Rattle.map_tables.specs.declared.Rejection.{Rejection}
use Rattle.map_tables.specs.declared.Rejection.TheVariants.{
  Older,
  Exists,
  ZeroSpec,
  PlacementMismatch,
  NotAlive,
  NoCollection,
  KnownIncarnation,
  NotAtIncarnation,
  NoShard,
  OtherEpoch,
  AlreadyHeld,
  RemovesPrimary,
  NotHeld,
  NotInSync,
  ShrinksPrimary,
  AlreadyInSync,
}
use Rattle.map_tables.specs.declared.Outcome.{Outcome}
use Rattle.map_tables.specs.declared.Outcome.TheVariants.{Applied, Rejected}
use Rattle.map_tables.specs.declared.SessionRow.{SessionRow}
use Rattle.image_parts.specs.Codes.{id_of, epoch_of}
use Rattle.image_parts.specs.Parts.{no_replica}
use Rattle.image_parts.specs.Canon.{padded, image_name, image_address, image_key}

-- ---- nodes, collections, shards

abbrev pub image_node : tables.NodeInfo → NodeRow
image_node x = record { node = id_of x.node; address = image_address x.address; incarnation = x.incarnation; alive = x.alive }

abbrev pub image_collection : tables.Collection → CollectionRow
image_collection x = record {
  name = image_name x.name;
  spec = record {
    dimension = x.spec.dimension;
    metric = x.spec.metric;
    shards = x.spec.shards;
    replication = x.spec.replication;
  };
}

abbrev pub image_primary : Option ℕ → option.Option DataNodeId
image_primary none = None
image_primary (some n) = Some (id_of n)

abbrev pub image_holders : List Replica → Holders
image_holders l = record { items = padded 8 no_replica l; count = length l }

abbrev pub image_in_sync : List DataNodeId → InSync
image_in_sync l = record { items = padded 8 (id_of 0) l; count = length l }

abbrev pub image_shard : tables.ShardInfo → ShardRow
image_shard x = record {
  key = image_key x.key;
  replicas = image_holders x.replicas;
  primary = image_primary x.primary;
  insync = image_in_sync x.insync;
  epoch = epoch_of x.epoch;
}

-- ---- sessions

abbrev pub image_rejection : said.Rejection → Rejection
image_rejection said.older = Older
image_rejection (said.exists n) = Exists
image_rejection said.zero_spec = ZeroSpec
image_rejection said.placement_mismatch = PlacementMismatch
image_rejection (said.not_alive n) = NotAlive (id_of n)
image_rejection (said.no_collection n) = NoCollection
image_rejection (said.known_incarnation n i) = KnownIncarnation (id_of n) i
image_rejection (said.not_at_incarnation n i) = NotAtIncarnation (id_of n) i
image_rejection (said.no_shard k) = NoShard
image_rejection (said.other_epoch k own given) = OtherEpoch (epoch_of own) (epoch_of given)
image_rejection (said.already_held n) = AlreadyHeld (id_of n)
image_rejection said.removes_primary = RemovesPrimary
image_rejection (said.not_held n) = NotHeld (id_of n)
image_rejection (said.not_in_sync n) = NotInSync (id_of n)
image_rejection said.shrinks_primary = ShrinksPrimary
image_rejection (said.already_in_sync n) = AlreadyInSync (id_of n)

abbrev pub image_outcome : tables.Outcome → Outcome
image_outcome tables.applied = Applied
image_outcome (tables.rejected r) = Rejected (image_rejection r)

-- the key beside an outcome: the key among its operands, a collection's name, or neither, with zeros for what it has not
abbrev pub key_of_name : keys.Name → keys.Key
key_of_name n = record { collection = n; shard = 0 }

abbrev pub key_of_none : keys.Key
key_of_none = key_of_name []

abbrev pub rejection_key : said.Rejection → keys.Key
rejection_key said.older = key_of_none
rejection_key (said.exists n) = key_of_name n
rejection_key said.zero_spec = key_of_none
rejection_key said.placement_mismatch = key_of_none
rejection_key (said.not_alive n) = key_of_none
rejection_key (said.no_collection n) = key_of_name n
rejection_key (said.known_incarnation n i) = key_of_none
rejection_key (said.not_at_incarnation n i) = key_of_none
rejection_key (said.no_shard k) = k
rejection_key (said.other_epoch k own given) = k
rejection_key (said.already_held n) = key_of_none
rejection_key said.removes_primary = key_of_none
rejection_key (said.not_held n) = key_of_none
rejection_key (said.not_in_sync n) = key_of_none
rejection_key said.shrinks_primary = key_of_none
rejection_key (said.already_in_sync n) = key_of_none

abbrev pub outcome_key : tables.Outcome → keys.Key
outcome_key tables.applied = key_of_none
outcome_key (tables.rejected r) = rejection_key r

abbrev pub image_session : tables.Session → SessionRow
image_session x = record {
  client = x.client;
  seq = x.seq;
  outcome = image_outcome x.outcome;
  key = image_key (outcome_key x.outcome);
}
