-- Paper 01, 'The log' (shard.rs): one replica's log, its vectors, and what is done to them. Definitions only.
use Rattle.std.specs.Prelude.{ℕ, zero, suc, ◌+◌, ◌-◌, max, Bool, true, false, cond, List, [], ◌∷◌, ◌++◌, length, take, drop, eqb, leb, ltb, Float}
use Rattle.std.proofs.Math.Option.{Option, none, some}
use Rattle.spec.specs.Lists.{◌and◌, nth, filter, put}
use Rattle.spec.specs.Nearest.Search.{Vector}
use Rattle.spec.specs.declared.Metric.{Metric}

-- 'Bytes on the wire', Op: sets its id's vector, or removes its id
pub data Op : Type 0 where
  upsert : (id : ℕ) → List Float → Op
  delete : (id : ℕ) → Op

-- 'The log': one entry
pub record Entry : Type 0 where
  pub epoch : ℕ
  pub offset : ℕ
  pub op : Op

-- 'The log': entries in order of offset
abbrev pub Log : Type 0
Log = List Entry

-- 'The log': offsets start at 1
unfoldable pub entry_at : Log → ℕ → Option Entry
entry_at l zero = none
entry_at l (suc i) = nth l i

-- 'Bytes on the wire', 21: a pair of an epoch table, an epoch with the last offset written in it
pub record End : Type 0 where
  pub epoch : ℕ
  pub end : ℕ

-- 'The log': vectors by rising id
abbrev pub Vectors : Type 0
Vectors = List Vector

-- 'The log': the order of stored vectors, by id
abbrev pub vector_below : Vector → Vector → Bool
vector_below v w = ltb v.id w.id

-- 'The log': a vector of another id stays
abbrev pub other_id : ℕ → Vector → Bool
other_id id v = cond (eqb v.id id) false true

-- 'The log': a Delete removes its id, the other operation sets its id's vector
unfoldable pub apply_op : Vectors → Op → Vectors
apply_op vs (upsert id xs) = put vector_below (record { id = id; components = xs }) vs
apply_op vs (delete id) = filter (other_id id) vs

-- 'The log': operations played in order
unfoldable pub play_from : Vectors → Log → Vectors
play_from vs [] = vs
play_from vs (e ∷ es) = play_from (apply_op vs e.op) es

-- 'The log': vectors are the log's operations played in order from none
unfoldable pub play : Log → Vectors
play l = play_from [] l

-- 'The log': an operation's components; a Delete has none
abbrev pub components : Op → List Float
components (upsert id xs) = xs
components (delete id) = []

-- 'The log': those of an entry that may be missing
abbrev pub components_at : Option Entry → List Float
components_at none = []
components_at (some e) = components e.op

-- 'The log': the components of the entry at an offset; none for a Delete or an offset that the log lacks
unfoldable pub lookup : Log → ℕ → List Float
lookup l o = components_at (entry_at l o)

-- shard.rs, ShardReplica. The vectors are kept beside the log, changed by each operation and rebuilt after a cut
pub record ShardReplica : Type 0 where
  pub epoch : ℕ
  pub metric : Metric
  pub log : Log
  pub vectors : Vectors

-- shard.rs, new
abbrev pub empty_replica : ℕ → Metric → ShardReplica
empty_replica e m = record { epoch = e; metric = m; log = []; vectors = [] }

-- shard.rs, last_offset
abbrev pub last_offset : ShardReplica → ℕ
last_offset r = length r.log

-- a replica with one entry more, and its operation applied
unfoldable pub push : ShardReplica → Entry → ShardReplica
push r e = record {
  epoch = r.epoch;
  metric = r.metric;
  log = r.log ++ (e ∷ []);
  vectors = apply_op r.vectors e.op;
}

-- shard.rs, append: a new write of the primary, at the next offset, under the replica's epoch
unfoldable pub append : ShardReplica → Op → ShardReplica
append r op = push r (record { epoch = r.epoch; offset = last_offset r + 1; op = op })

-- shard.rs, Stored: what became of an entry that arrived
pub data Stored : Type 0 where
  through : ℕ → Stored
  gap : ℕ → Stored
  stale : ℕ → Stored

-- shard.rs, store: the answer, and the replica after
pub record StoreResult : Type 0 where
  pub answer : Stored
  pub replica : ShardReplica

-- shard.rs, store: at the replica's own epoch the next offset is taken, one already held is acknowledged again, a later one is a gap
unfoldable pub store : ShardReplica → ℕ → Entry → StoreResult
store r epoch e =
    let next = last_offset r + 1 in
    cond (eqb epoch r.epoch)
    (cond (eqb e.offset next)
    (record { answer = through next; replica = push r e })
    (cond (ltb e.offset next)
    (record { answer = through (last_offset r); replica = r })
    (record { answer = gap next; replica = r })))
    (record { answer = stale r.epoch; replica = r })

-- node.rs, on_copy: entries stored one after the other
unfoldable pub store_all : ShardReplica → ℕ → List Entry → ShardReplica
store_all r epoch [] = r
store_all r epoch (e ∷ es) = store_all (store r epoch e).replica epoch es

-- one more entry at the front of a table that is written from the back: an equal epoch there already has its later end
unfoldable pub with_end : Entry → List End → List End
with_end e [] = record { epoch = e.epoch; end = e.offset } ∷ []
with_end e (t ∷ ts) = cond (eqb e.epoch t.epoch) (t ∷ ts) (record { epoch = e.epoch; end = e.offset } ∷ t ∷ ts)

-- shard.rs, epoch_ends: for each run of equal epochs, in order, its epoch and its last offset
unfoldable pub epoch_ends : Log → List End
epoch_ends [] = []
epoch_ends (e ∷ es) = with_end e (epoch_ends es)

-- 'The log': the epoch of the first table pair with end at or above the offset
unfoldable pub epoch_at : List End → ℕ → Option ℕ
epoch_at [] o = none
epoch_at (t ∷ ts) o = cond (leb o t.end) (some t.epoch) (epoch_at ts o)

-- 'The log': the table gives the offset that epoch
abbrev pub is_epoch : Option ℕ → ℕ → Bool
is_epoch none e = false
is_epoch (some d) e = eqb d e

-- 'The log': whether the primary that sent this end and this table holds the entry too
unfoldable pub agrees : ℕ → List End → Entry → Bool
agrees end table e = leb e.offset end and is_epoch (epoch_at table e.offset) e.epoch

-- 'The log': the longest prefix that agrees
unfoldable pub keep : ℕ → List End → Log → Log
keep end table [] = []
keep end table (e ∷ es) = let r = keep end table es in cond (agrees end table e) (e ∷ r) []

-- shard.rs, adopt, at a higher epoch: the log is cut, and the vectors are played anew where it was
unfoldable pub cut_to : ShardReplica → ℕ → ℕ → List End → ShardReplica
cut_to r epoch end table =
    let kept = keep end table r.log in
    record {
      epoch = epoch;
      metric = r.metric;
      log = kept;
      vectors = cond (ltb (length kept) (last_offset r)) (play kept) r.vectors;
    }

-- shard.rs, adopt, past its test for a lower epoch; request 2.3: at the replica's own epoch the whole log stays
unfoldable pub adopted : ShardReplica → ℕ → ℕ → List End → ShardReplica
adopted r epoch end table = cond (eqb epoch r.epoch) r (cut_to r epoch end table)

-- shard.rs, promote: the whole log stays
unfoldable pub promote : ShardReplica → ℕ → ShardReplica
promote r epoch = record { epoch = max r.epoch epoch; metric = r.metric; log = r.log; vectors = r.vectors }

-- shard.rs, entries_from: up to count entries from an offset on, of which the first is 1
unfoldable pub entries_from : Log → ℕ → ℕ → Log
entries_from l from count = take count (drop (max from 1 - 1) l)
