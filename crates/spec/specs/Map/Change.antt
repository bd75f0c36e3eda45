-- Paper 01, 'Who is turned down' and 'What changes shape' (state.rs, with_shard): the commands that change one shard of the map.
-- Whether a change is taken, and what it makes of the shard, are two definitions; finding the shard is left to Apply.
-- Definitions only.
use Rattle.std.specs.Prelude.{ℕ, ◌+◌, Bool, true, false, cond, not, List, [], ◌∷◌, ◌++◌, length, eqb, leb, ltb}
use Rattle.std.proofs.Math.Option.{Option, none, some}
use Rattle.spec.specs.Lists.{any, filter, put}
use Rattle.spec.specs.Limits.{max_replicas, max_u64}
use Rattle.spec.specs.Refusals.{Rejection, already_held, removes_primary, not_held, not_in_sync, shrinks_primary, already_in_sync, Refusal, no_room, last_epoch}
use Rattle.spec.specs.Map.Tables.{ShardInfo, Outcome, applied, rejected, Answer, outcome, refused}
use Rattle.spec.specs.declared.DataNodeId.{DataNodeId}
use Rattle.spec.specs.declared.Replica.{Replica}

-- 'What changes shape': with_shard's closure as data
pub data Change : Type 0 where
  add : (node incarnation : ℕ) → Change
  remove : (node : ℕ) → Change
  promote : (node : ℕ) → Change
  shrink : (node : ℕ) → Change
  expand : (node : ℕ) → Change

-- 'Who is turned down': the command takes effect, or is rejected
abbrev pub accepts : Answer
accepts = outcome applied

-- 'Who is turned down': the command is rejected
abbrev pub rejects : Rejection → Answer
rejects r = outcome (rejected r)

-- a number as a node's id
abbrev pub node_id : ℕ → DataNodeId
node_id n = record { 0 = n }

-- 'sorted keys': in_sync_lem nodes by id
abbrev pub id_below : DataNodeId → DataNodeId → Bool
id_below a b = ltb a.0 b.0

-- the node of that number
abbrev pub is_id : ℕ → DataNodeId → Bool
is_id n d = eqb d.0 n

-- a replica on that node
abbrev pub is_on : ℕ → Replica → Bool
is_on n r = eqb r.node.0 n

-- state.rs: some replica of the shard is on the node
unfoldable pub holds : ℕ → List Replica → Bool
holds n rs = any (is_on n) rs

-- state.rs: the in_sync_lem set has the node
unfoldable pub in_sync : ℕ → List DataNodeId → Bool
in_sync n ds = any (is_id n) ds

-- state.rs: the set without the node
unfoldable pub without : ℕ → List DataNodeId → List DataNodeId
without n ds = filter (λ d. not (is_id n d)) ds

-- state.rs: the shard's primary is that node
abbrev pub is_primary : ℕ → Option ℕ → Bool
is_primary n none = false
is_primary n (some p) = eqb p n

-- 'Who is turned down': Add 11, 23; Remove 12, 13; Promote 14, 25; Shrink 15, 14; Expand 13, 16
unfoldable pub decide_change : ShardInfo → Change → Answer
decide_change s (add n i) =
    cond (holds n s.replicas) (rejects (already_held n))
    (cond (leb max_replicas (length s.replicas)) (refused no_room) accepts)
decide_change s (remove n) =
    cond (is_primary n s.primary) (rejects removes_primary) (cond (holds n s.replicas) accepts (rejects (not_held n)))
decide_change s (promote n) =
    cond (in_sync n s.insync) (cond (eqb s.epoch max_u64) (refused last_epoch) accepts) (rejects (not_in_sync n))
decide_change s (shrink n) =
    cond (is_primary n s.primary) (rejects shrinks_primary) (cond (in_sync n s.insync) accepts (rejects (not_in_sync n)))
decide_change s (expand n) =
    cond (holds n s.replicas) (cond (in_sync n s.insync) (rejects (already_in_sync n)) accepts) (rejects (not_held n))

-- the shard with other replicas and another in_sync_lem set
abbrev pub set_replicas : ShardInfo → List Replica → List DataNodeId → ShardInfo
set_replicas s rs ds = record { key = s.key; replicas = rs; primary = s.primary; insync = ds; epoch = s.epoch }

-- state.rs, PromotePrimary: another node that was primary leaves the set
unfoldable pub deposed : ℕ → Option ℕ → List DataNodeId → List DataNodeId
deposed n none ds = ds
deposed n (some p) ds = cond (eqb p n) ds (without p ds)

-- state.rs: what a change that is taken makes of the shard
unfoldable pub changed : ShardInfo → Change → ShardInfo
changed s (add n i) = set_replicas s (s.replicas ++ (record { node = node_id n; incarnation = i } ∷ [])) s.insync
changed s (remove n) = set_replicas s (filter (λ r. not (is_on n r)) s.replicas) (without n s.insync)
changed s (promote n) = record {
  key = s.key;
  replicas = s.replicas;
  primary = some n;
  insync = deposed n s.primary s.insync;
  epoch = s.epoch + 1;
}
changed s (shrink n) = set_replicas s s.replicas (without n s.insync)
changed s (expand n) = set_replicas s s.replicas (put id_below (node_id n) s.insync)
