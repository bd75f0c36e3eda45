-- Paper 01, 'Who is turned down', 24: what a malformed map is, and nothing else. Codes that are no case of a type here (a metric, alive
-- or dead) are a matter of the code's arrays and images. Definitions only.
use Rattle.std.specs.Prelude.{ℕ, Bool, true, false, List, length, leb}
use Rattle.spec.specs.Lists.{◌and◌, every, rising}
use Rattle.spec.specs.Limits.{max_nodes, max_collections, max_shards, max_replicas, max_clients, max_name, max_address, max_listed}
use Rattle.spec.specs.Keys.{Name, Key}
use Rattle.spec.specs.Refusals.{
  Rejection,
  older,
  exists,
  zero_spec,
  placement_mismatch,
  not_alive,
  no_collection,
  known_incarnation,
  not_at_incarnation,
  no_shard,
  other_epoch,
  already_held,
  removes_primary,
  not_held,
  not_in_sync,
  shrinks_primary,
  already_in_sync,
}
use Rattle.spec.specs.Map.Tables.{NodeInfo, Collection, ShardInfo, Outcome, applied, rejected, Session, Map}
use Rattle.spec.specs.Map.Change.{id_below, holds}
use Rattle.spec.specs.Map.Create.{shard_below, collection_below}
use Rattle.spec.specs.Map.Apply.{node_below, session_below}
use Rattle.spec.specs.Layout.Request.{
  Command,
  create,
  drop_collection,
  register,
  mark_dead,
  add_replica,
  remove_replica,
  promote_primary,
  shrink_in_sync,
  expand_in_sync,
  bench,
}
use Rattle.spec.specs.declared.DataNodeId.{DataNodeId}

-- 'a count over its limit': the bytes of a name
abbrev pub name_fits : Name → Bool
name_fits n = leb (length n) max_name

-- 'a count over its limit': the bytes of an address
abbrev pub node_fits : NodeInfo → Bool
node_fits i = leb (length i.address) max_address

-- 'a count over its limit': the bytes of a collection's name
abbrev pub collection_fits : Collection → Bool
collection_fits c = name_fits c.name

-- 'a count over its limit', 'sorted keys that do not rise', 'an in_sync_lem node that is not a holder'. In-sync nodes that rise and hold are
-- no more than the replicas
unfoldable pub shard_fits : ShardInfo → Bool
shard_fits s =
    name_fits s.key.collection and leb (length s.replicas) max_replicas and rising id_below s.insync
    and every (λ d. holds d.0 s.replicas) s.insync

-- 'an unlisted code': 1 is never remembered; and the names among the operands
abbrev pub rejection_fits : Rejection → Bool
rejection_fits older = false
rejection_fits (exists n) = name_fits n
rejection_fits zero_spec = true
rejection_fits placement_mismatch = true
rejection_fits (not_alive n) = true
rejection_fits (no_collection n) = name_fits n
rejection_fits (known_incarnation n i) = true
rejection_fits (not_at_incarnation n i) = true
rejection_fits (no_shard k) = name_fits k.collection
rejection_fits (other_epoch k o g) = name_fits k.collection
rejection_fits (already_held n) = true
rejection_fits removes_primary = true
rejection_fits (not_held n) = true
rejection_fits (not_in_sync n) = true
rejection_fits shrinks_primary = true
rejection_fits (already_in_sync n) = true

-- 'an unlisted code': a remembered reason is 0 or 2 to 16
abbrev pub outcome_fits : Outcome → Bool
outcome_fits applied = true
outcome_fits (rejected r) = rejection_fits r

-- the same of a session
abbrev pub session_fits : Session → Bool
session_fits s = outcome_fits s.outcome

-- 'a count over its limit', 'sorted keys that do not rise', and each row
unfoldable pub table_fits {ℓ} : {A : Type ℓ} → ℕ → (A → A → Bool) → (A → Bool) → List A → Bool
table_fits limit lt row l = leb (length l) limit and rising lt l and every row l

-- 'Who is turned down', 24, of a map
unfoldable pub well_formed_map : Map → Bool
well_formed_map m =
    table_fits max_nodes node_below node_fits m.nodes and table_fits max_collections collection_below collection_fits m.collections
    and table_fits max_shards shard_below shard_fits m.shards and table_fits max_clients session_below session_fits m.sessions

-- 'Bytes on the wire': a command whose names, addresses and lists are within their limits, as every one that decodes is
unfoldable pub command_fits : Command → Bool
command_fits (create name spec p) = name_fits name and every (λ l. leb (length l) max_listed) p
command_fits (drop_collection name) = name_fits name
command_fits (register n a i) = leb (length a) max_address
command_fits (mark_dead n i) = true
command_fits (add_replica k n i e) = name_fits k.collection
command_fits (remove_replica k n e) = name_fits k.collection
command_fits (promote_primary k n e) = name_fits k.collection
command_fits (shrink_in_sync k n e) = name_fits k.collection
command_fits (expand_in_sync k n e) = name_fits k.collection
command_fits (bench bs) = true
