-- Demand 3: what every run from a fresh state keeps. Definitions only.
use Rattle.std.specs.Prelude.{ℕ, Bool, true, false, ◌≡◌, List, [], ◌∷◌}
use Rattle.std.proofs.Math.Option.{Option, none, some}
use Rattle.spec.specs.Keys.{Key}
use Rattle.spec.specs.Lists.{nth}
use Rattle.spec.specs.Log.{Log, Entry, entry_at, Vectors, play}
use Rattle.spec.specs.Map.Tables.{Map, ShardInfo}
use Rattle.spec.specs.Map.Change.{in_sync}
use Rattle.spec.specs.Map.Apply.{shard_at}
use Rattle.spec.specs.Node.Held.{Held, Node}
use Rattle.spec.specs.Node.Shards.{held_shard}
use Rattle.spec_run.specs.State.{State, Write}

-- the in_sync_lem set of a shard that the map may lack
abbrev pub listed_in : Option ShardInfo → ℕ → Bool
listed_in none n = false
listed_in (some i) n = in_sync n i.insync

-- 'In sync are those whom the map lists so after the commands that reached it'
unfoldable pub in_sync_at : Map → Key → ℕ → Bool
in_sync_at m k n = listed_in (shard_at m.shards k) n

-- the log of a shard that may not be held
abbrev pub log_in : Option Held → Log
log_in none = []
log_in (some h) = h.replica.log

-- a node's log of a shard
unfoldable pub log_of : Node → Key → Log
log_of n k = log_in (held_shard n k)

-- the vectors of a shard that may not be held
abbrev pub vectors_in : Option Held → Vectors
vectors_in none = []
vectors_in (some h) = h.replica.vectors

-- a node's vectors of a shard
unfoldable pub vectors_of : Node → Key → Vectors
vectors_of n k = vectors_in (held_shard n k)

-- an acknowledged write stands in a log, with its offset and its operation
pub record Stands (w : Write) (l : Log) : Type 0 where
  pub entry : Entry
  pub found : entry_at l w.offset ≡ some entry
  pub offset : entry.offset ≡ w.offset
  pub op : entry.op ≡ w.op

-- demand 3, of one state: every acknowledged write stands in the log of each node that the map lists in sync, and that node's vectors
-- are its log played from the start
pub record Durable (s : State) : Type 0 where
  pub stands : (w : Write) (place : ℕ) → nth s.acknowledged place ≡ some w
      → (n : ℕ) → in_sync_at s.map w.key n ≡ true → Stands w (log_of (s.nodes n) w.key)
  pub played : (k : Key) (n : ℕ) → in_sync_at s.map k n ≡ true
      → vectors_of (s.nodes n) k ≡ play (log_of (s.nodes n) k)

-- request 2.5, of one state: entries of any two nodes with equal offset and epoch are equal, in sync or not. Who holds nothing has an empty
-- log
pub record Alike (s : State) : Type 0 where
  pub entries : (k : Key) (n m o : ℕ) (x y : Entry) → entry_at (log_of (s.nodes n) k) o ≡ some x → entry_at (log_of (s.nodes m) k) o ≡ some y
      → x.epoch ≡ y.epoch → x ≡ y

-- the entry at an offset is an accepted Write
pub record Origin (s : State) (k : Key) (o : ℕ) (x : Entry) : Type 0 where
  pub place : ℕ
  pub write : Write
  pub found : nth s.accepted place ≡ some write
  pub key : write.key ≡ k
  pub epoch : write.epoch ≡ x.epoch
  pub offset : write.offset ≡ o
  pub numbered : x.offset ≡ o
  pub op : write.op ≡ x.op

-- request 2.5, of one state: an entry's epoch never changes on the way. Each entry of any log is a Write that was accepted in that epoch,
-- at that offset, with that operation
pub record Written (s : State) : Type 0 where
  pub entries : (k : Key) (n o : ℕ) (x : Entry) → entry_at (log_of (s.nodes n) k) o ≡ some x → Origin s k o x
