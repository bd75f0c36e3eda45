-- Paper 01, 'The node' (node.rs): the words that the calls share: one shard found by its key and changed in its place, one peer's row,
-- the role. The calls themselves are in the files beside this one. Definitions only.
use Rattle.std.specs.Prelude.{ℕ, Bool, true, false, cond, List, [], ◌∷◌, eqb, ltb}
use Rattle.std.proofs.Math.Option.{Option, none, some}
use Rattle.spec.specs.Lists.{find}
use Rattle.spec.specs.Keys.{Key, key_below, same_key}
use Rattle.spec.specs.Log.{ShardReplica, empty_replica}
use Rattle.spec.specs.Map.Apply.{update}
use Rattle.spec.specs.Node.Held.{Held, Node}
use Rattle.spec.specs.declared.Metric.{Metric}
use Rattle.spec.specs.declared.Replica.{Replica}
use Rattle.spec.specs.declared.Peer.{Peer}
use Rattle.spec.specs.declared.Role.{Role}
use Rattle.spec.specs.declared.Role.TheVariants.{Backup, Primary}

-- what a call answers, and what it leaves
pub record Result (A S : Type 0) : Type 0 where
  pub answer : A
  pub after : S

-- an answer with what is left
abbrev pub gives : {A S : Type 0} → A → S → Result A S
gives a s = record { answer = a; after = s }

-- 'The node': shards by rising key, rows by rising node
abbrev pub held_below : Held → Held → Bool
held_below a b = key_below a.key b.key

-- 'The node': rows by rising node
abbrev pub row_below : Peer → Peer → Bool
row_below a b = ltb a.node.0 b.node.0

-- the shard of a key
abbrev pub of_key : Key → Held → Bool
of_key k h = same_key h.key k

-- the row of a node
abbrev pub of_node : ℕ → Peer → Bool
of_node k p = eqb p.node.0 k

-- a replica on a node
abbrev pub on_node : ℕ → Replica → Bool
on_node k r = eqb r.node.0 k

-- node.rs, `state.shards.get`
unfoldable pub held_shard : Node → Key → Option Held
held_shard n k = find (of_key k) n.held

-- the node with other shards
abbrev pub with_held : Node → List Held → Node
with_held n l = record { id = n.id; incarnation = n.incarnation; expiry = n.expiry; version = n.version; held = l }

-- a call on a shard that may not be held
abbrev pub at_found : {A : Type 0} → Node → Key → A → (Held → Result A Held) → Option Held → Result A Node
at_found n k absent f none = gives absent n
at_found n k absent f (some h) = gives (f h).answer (with_held n (update (of_key k) (λ x. (f x).after) n.held))

-- a call on the one shard that it names; `absent` is the answer of a node without that shard
unfoldable pub at_shard : {A : Type 0} → Node → Key → A → (Held → Result A Held) → Result A Node
at_shard n k absent f = at_found n k absent f (held_shard n k)

-- node.rs, `primary.filter(|p| p.epoch == epoch)`
abbrev pub leads_at : Role → ℕ → Bool
leads_at Backup e = false
leads_at (Primary p o) e = eqb p.0 e

-- the shard with another log and vectors
abbrev pub with_replica : Held → ShardReplica → Held
with_replica h r = record { key = h.key; replica = r; holders = h.holders; role = h.role; own = h.own; peers = h.peers }

-- the shard with other rows
abbrev pub with_peers : Held → List Peer → Held
with_peers h l = record { key = h.key; replica = h.replica; holders = h.holders; role = h.role; own = h.own; peers = l }

-- node.rs, `primary = None`: nothing of the record stays
abbrev pub demoted : Held → Held
demoted h = record { key = h.key; replica = h.replica; holders = h.holders; role = Backup; own = false; peers = [] }

-- node.rs, `or_insert_with`: a shard that a map or NewEpoch begins, with no replicas known until a map lists them
abbrev pub begun : Key → Metric → Held
begun k m = record { key = k; replica = empty_replica 0 m; holders = []; role = Backup; own = false; peers = [] }
