-- Paper 01, 'Who is turned down', 24, of one row: the counts beside its arrays are within them, and the row that it is read as is well
-- formed. Definitions only.
use Rattle.std.specs.Prelude.{ℕ, Bool, true, eqb, leb}
use Rattle.spec.specs.Lists.{◌and◌, ◌or◌, every, rising}
use Rattle.spec.specs.Limits.{max_name, max_address}
use Rattle.spec.specs.Map.Change.{id_below, holds}
use Rattle.spec.specs.Map.Create.{collection_below, shard_below}
use Rattle.spec.specs.Map.Apply.{node_below, session_below}
use Rattle.spec.specs.Map.WellFormed.{node_fits, collection_fits, shard_fits, rejection_fits, session_fits}
use Rattle.spec.specs.declared.DataNodeId.{DataNodeId}
use Rattle.map_tables.specs.Names.{view_key}
use Rattle.map_tables.specs.View.{view_node, view_collection, view_shard, view_session, view_holders, view_in_sync, rejection_of}
use Rattle.map_tables.specs.Counted.{row_counted}
use Rattle.map_tables.specs.declared.Name.{Name}
use Rattle.map_tables.specs.declared.NodeRow.{NodeRow}
use Rattle.map_tables.specs.declared.CollectionRow.{CollectionRow}
use Rattle.map_tables.specs.declared.Holders.{Holders}
use Rattle.map_tables.specs.declared.InSync.{InSync}
use Rattle.map_tables.specs.declared.ShardKey.{ShardKey}
use Rattle.map_tables.specs.declared.ShardRow.{ShardRow}
use Rattle.map_tables.specs.declared.SessionRow.{SessionRow}
use Rattle.map_tables.specs.declared.Outcome.{Outcome}
use Rattle.map_tables.specs.declared.Outcome.TheVariants.{Applied, Rejected}
use Rattle.map_tables.specs.declared.Rejection.{Rejection}
use Rattle.map_tables.specs.declared.Rejection.TheVariants.{
  Older,
  Exists,
  ZeroSpec,
  PlacementMismatch,
  NotAlive,
  NoCollection,
  KnownIncarnation,
  NotAtIncarnation,
  NoShard,
  OtherEpoch,
  AlreadyHeld,
  RemovesPrimary,
  NotHeld,
  NotInSync,
  ShrinksPrimary,
  AlreadyInSync,
}

-- ---- 'a count over its limit', of the arrays

abbrev pub name_counted : Name → Bool
name_counted n = leb n.len max_name

abbrev pub node_counted : NodeRow → Bool
node_counted r = leb r.address.len max_address

abbrev pub collection_counted : CollectionRow → Bool
collection_counted c = name_counted c.name

abbrev pub shard_counted : ShardRow → Bool
shard_counted s = name_counted s.key.collection and row_counted s

-- the name beside a rejection is free, unless it is among the operands
abbrev pub rejection_counted : Rejection → Name → Bool
rejection_counted Older n = true
rejection_counted Exists n = name_counted n
rejection_counted ZeroSpec n = true
rejection_counted PlacementMismatch n = true
rejection_counted (NotAlive i) n = true
rejection_counted NoCollection n = name_counted n
rejection_counted (KnownIncarnation i k) n = true
rejection_counted (NotAtIncarnation i g) n = true
rejection_counted NoShard n = name_counted n
rejection_counted (OtherEpoch o g) n = name_counted n
rejection_counted (AlreadyHeld i) n = true
rejection_counted RemovesPrimary n = true
rejection_counted (NotHeld i) n = true
rejection_counted (NotInSync i) n = true
rejection_counted ShrinksPrimary n = true
rejection_counted (AlreadyInSync i) n = true

abbrev pub outcome_counted : Outcome → Name → Bool
outcome_counted Applied n = true
outcome_counted (Rejected r) n = rejection_counted r n

abbrev pub session_counted : SessionRow → Bool
session_counted s = outcome_counted s.outcome s.key.collection

-- ---- a row by itself

abbrev pub node_ok : NodeRow → Bool
node_ok r = node_counted r and node_fits (view_node r)

abbrev pub collection_ok : CollectionRow → Bool
collection_ok r = collection_counted r and collection_fits (view_collection r)

abbrev pub shard_ok : ShardRow → Bool
shard_ok r = shard_counted r and shard_fits (view_shard r)

abbrev pub session_ok : SessionRow → Bool
session_ok r = session_counted r and session_fits (view_session r)

-- of a remembered rejection with the key beside it
abbrev pub rejection_ok : Rejection → ShardKey → Bool
rejection_ok r k = rejection_counted r k.collection and rejection_fits (rejection_of r (view_key k))

-- 'an in_sync_lem node that is not a holder'
abbrev pub is_held : Holders → DataNodeId → Bool
is_held h d = holds d.0 (view_holders h)

-- 'sorted keys that do not rise', 'an in_sync_lem node that is not a holder', of the in_sync_lem ids of a shard
abbrev pub in_sync_fits : Holders → InSync → Bool
in_sync_fits h s = rising id_below (view_in_sync s) and every (is_held h) (view_in_sync s)

-- ---- a row and the one before it: 'sorted keys that do not rise'

abbrev pub node_under : NodeRow → NodeRow → Bool
node_under a b = node_below (view_node a) (view_node b)

abbrev pub collection_under : CollectionRow → CollectionRow → Bool
collection_under a b = collection_below (view_collection a) (view_collection b)

abbrev pub shard_under : ShardRow → ShardRow → Bool
shard_under a b = shard_below (view_shard a) (view_shard b)

abbrev pub session_under : SessionRow → SessionRow → Bool
session_under a b = session_below (view_session a) (view_session b)

-- the row at a place stands above the one before it, if there is one, and is right by itself
unfoldable pub follows {ℓ} : {A : Type ℓ} → (A → A → Bool) → (A → Bool) → ℕ → A → A → Bool
follows lt ok i before row = (eqb i 0 or lt before row) and ok row
