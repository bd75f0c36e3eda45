-- Paper 01, 'Bytes on the wire': what may be written, in plain ranges: numbers that their words hold, names and
-- addresses of 20 to 7E, counts within their limits. The laws of every message are stated over these.
-- Definitions only.
use Rattle.std.specs.Prelude.{ℕ, ◌^◌, ◌≤◌, ◌<◌, true, ◌≡◌, List, length}
use Rattle.spec.specs.Keys.{Name, Key}
use Rattle.spec.specs.Limits.{max_name, max_address, max_components, max_lists, max_listed, max_table, max_batch, max_bench}
use Rattle.spec.specs.Log.{End}
use Rattle.spec.specs.Map.Tables.{Spec}
use Rattle.spec.specs.Layout.Format.{All, in_range}
use Rattle.spec.specs.Layout.Parts.{WireOp, wire_upsert, wire_delete, WireEntry}
use Rattle.spec.specs.Layout.Request.{Command, create, drop_collection, register, mark_dead, add_replica, remove_replica, promote_primary, shrink_in_sync, expand_in_sync, bench, Request}
use Rattle.spec.specs.Layout.Message.{Replicated, NewEpoch, Copied, Write, Query, Reply, reply_stored, reply_gap, reply_stale, reply_adopted}

-- numbers of 8, 4 and 1 bytes
abbrev pub U64 : ℕ → Type 0
U64 n = n < 2 ^ 64

-- a number of 4 bytes
abbrev pub U32 : ℕ → Type 0
U32 n = n < 2 ^ 32

-- a byte
abbrev pub U8 : ℕ → Type 0
U8 n = n < 256

-- 'of 20 to 7E hexadecimal'
abbrev pub Printable : List ℕ → Type 0
Printable s = in_range 0x20 0x7E s ≡ true

-- 'names 0 to 32 bytes'
abbrev pub GoodName : Name → Type 0
GoodName n = (length n ≤ max_name) × Printable n

-- 'addresses 0 to 64'
abbrev pub GoodAddress : Name → Type 0
GoodAddress n = (length n ≤ max_address) × Printable n

-- Key
abbrev pub GoodKey : Key → Type 0
GoodKey k = GoodName k.collection × U32 k.shard

-- 'a count of 0 or above 32 does not decode'
abbrev pub GoodBits : List ℕ → Type 0
GoodBits bits = (1 ≤ length bits) × (length bits ≤ max_components) × All U32 bits

-- Op
abbrev pub GoodOp : WireOp → Type 0
GoodOp (wire_upsert id bits) = U64 id × GoodBits bits
GoodOp (wire_delete id) = U64 id

-- 22: an entry
abbrev pub GoodEntry : WireEntry → Type 0
GoodEntry e = U64 e.epoch × U64 e.offset × GoodOp e.op

-- 21: a pair
abbrev pub GoodEnd : End → Type 0
GoodEnd t = U64 t.epoch × U64 t.end

-- 10: dimension, shards, replication
abbrev pub GoodSpec : Spec → Type 0
GoodSpec s = U32 s.dimension × U32 s.shards × U32 s.replication

-- 10: a list of at most 8 nodes
abbrev pub GoodList : List ℕ → Type 0
GoodList ns = (length ns ≤ max_listed) × All U64 ns

-- 10: at most 16 lists
abbrev pub GoodPlacement : List (List ℕ) → Type 0
GoodPlacement p = (length p ≤ max_lists) × All GoodList p

-- 10 to 19
abbrev pub GoodCommand : Command → Type 0
GoodCommand (create n s p) = GoodName n × GoodSpec s × GoodPlacement p
GoodCommand (drop_collection n) = GoodName n
GoodCommand (register n a i) = U64 n × GoodAddress a × U64 i
GoodCommand (mark_dead n i) = U64 n × U64 i
GoodCommand (add_replica k n i e) = GoodKey k × U64 n × U64 i × U64 e
GoodCommand (remove_replica k n e) = GoodKey k × U64 n × U64 e
GoodCommand (promote_primary k n e) = GoodKey k × U64 n × U64 e
GoodCommand (shrink_in_sync k n e) = GoodKey k × U64 n × U64 e
GoodCommand (expand_in_sync k n e) = GoodKey k × U64 n × U64 e
GoodCommand (bench bs) = (length bs ≤ max_bench) × All U8 bs

-- 01
abbrev pub GoodRequest : Request → Type 0
GoodRequest r = U64 r.index × U64 r.client × U64 r.seq × GoodCommand r.command

-- 20
abbrev pub GoodReplicated : Replicated → Type 0
GoodReplicated m = GoodKey m.key × U64 m.epoch × U64 m.offset × GoodOp m.op

-- 21: at most 1,024 pairs
abbrev pub GoodNewEpoch : NewEpoch → Type 0
GoodNewEpoch m = GoodKey m.key × U64 m.epoch × U64 m.end × (length m.table ≤ max_table) × All GoodEnd m.table

-- 22: at most 256 entries
abbrev pub GoodCopied : Copied → Type 0
GoodCopied m = GoodKey m.key × U64 m.epoch × (length m.entries ≤ max_batch) × All GoodEntry m.entries

-- 23
abbrev pub GoodWrite : Write → Type 0
GoodWrite m = GoodKey m.key × U64 m.epoch × GoodOp m.op

-- 24
abbrev pub GoodQuery : Query → Type 0
GoodQuery m = GoodKey m.key × U64 m.epoch × U32 m.k × GoodBits m.bits

-- 30 to 33
abbrev pub GoodReply : Reply → Type 0
GoodReply (reply_stored n) = U64 n
GoodReply (reply_gap n) = U64 n
GoodReply (reply_stale n) = U64 n
GoodReply (reply_adopted n) = U64 n
