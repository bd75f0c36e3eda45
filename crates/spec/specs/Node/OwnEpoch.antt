-- Paper 02, request 2.3: a replica's own epoch is that of its beginning, of its last alignment or of its own time as primary. What each call
-- may make of it; that no call does more is in crate spec_laws, Node/OwnEpoch.antt. Definitions only.
use Rattle.std.specs.Prelude.{ℕ, ◌≡◌, true, ◌⊎◌}
use Rattle.std.proofs.Math.Option.{Option, none, some}
use Rattle.spec.specs.Keys.{Key}
use Rattle.spec.specs.Lists.{nth}
use Rattle.spec.specs.Map.Tables.{Map, ShardInfo}
use Rattle.spec.specs.Layout.Message.{NewEpoch, reply_adopted}
use Rattle.spec.specs.Node.Held.{Held, Node}
use Rattle.spec.specs.Node.Shards.{Result, held_shard, leads_at}
use Rattle.spec.specs.Node.Backup.{BackupAnswer, replied}
use Rattle.spec.specs.Node.Shown.{is_primary}

-- the own epoch of a shard that may not be held
abbrev pub epoch_in : Option Held → Option ℕ
epoch_in none = none
epoch_in (some h) = some h.replica.epoch

-- a node's own epoch in a shard
unfoldable pub own_epoch : Node → Key → Option ℕ
own_epoch n k = epoch_in (held_shard n k)

-- of its last alignment: a NewEpoch of that shard and epoch, answered as Adopted
pub record Aligned (m : Option NewEpoch) (k : Key) (r : Result BackupAnswer Node) : Type 0 where
  pub message : NewEpoch
  pub decoded : m ≡ some message
  pub key : message.key ≡ k
  pub offset : ℕ
  pub answer : r.answer ≡ replied (reply_adopted offset)
  pub epoch : own_epoch r.after k ≡ some message.epoch

-- after NewEpoch: as it was, or of that alignment
abbrev pub AfterNewEpoch : Node → Option NewEpoch → Key → Result BackupAnswer Node → Type 0
AfterNewEpoch n m k r = (own_epoch r.after k ≡ own_epoch n k) ⊎ Aligned m k r

-- of its beginning: the shard was not held
pub record Begins (n : Node) (k : Key) (h : Held) : Type 0 where
  pub new : held_shard n k ≡ none
  pub epoch : h.replica.epoch ≡ 0

-- of its own time as primary: the map names this node for the shard, at that epoch, and the node leads at it
pub record Leads (n : Node) (m : Map) (k : Key) (h : Held) : Type 0 where
  pub shard : ShardInfo
  pub place : ℕ
  pub listed : nth m.shards place ≡ some shard
  pub key : shard.key ≡ k
  pub named : is_primary shard.primary n.id ≡ true
  pub role : leads_at h.role shard.epoch ≡ true
  pub epoch : h.replica.epoch ≡ shard.epoch

-- after a map shown, of a shard that is held: as it was, of its beginning, or of its time as primary
abbrev pub AfterMap : Node → Map → Key → Option Held → Type 0
AfterMap n m k none = Unit {0}
AfterMap n m k (some h) = (own_epoch n k ≡ some h.replica.epoch) ⊎ Begins n k h ⊎ Leads n m k h
