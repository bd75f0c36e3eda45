-- Paper 01, 'Bytes on the wire': the parts that several messages share, as formats and as plain data, and the step
-- between the two (`..Of` of a format's value, `..Value` of the data). Whole messages are in Request.antt and
-- Message.antt. Definitions only.
use Rattle.std.specs.Prelude.{ℕ, zero, suc, Bool, true, false, List}
use Rattle.std.proofs.Common.{inl, inr}
use Rattle.std.proofs.Math.Option.{Option, none, some}
use Rattle.spec.specs.Keys.{Key}
use Rattle.spec.specs.Limits.{max_name, max_address, max_components, max_lists, max_listed, max_table, max_batch}
use Rattle.spec.specs.Log.{End}
use Rattle.spec.specs.declared.Metric.{Metric}
use Rattle.spec.specs.declared.Metric.TheVariants.{Euclidean, Angular}
use Rattle.spec.specs.Layout.Format.{Format, code, word, below, text, ◌▸◌, many, either, Value}

-- Op: 'components as bits', since one outside the domain is read too
pub data WireOp : Type 0 where
  wire_upsert : (id : ℕ) (bits : List ℕ) → WireOp
  wire_delete : (id : ℕ) → WireOp

-- 22: an entry
pub record WireEntry : Type 0 where
  pub epoch : ℕ
  pub offset : ℕ
  pub op : WireOp

-- 'indexes, clients, seqs, ids, incarnations, epochs, offsets, ends: u64'; dimension, shards, replication, k: u32
abbrev pub u64 : Format
u64 = word 8

-- dimension, shards, replication, k: u32
abbrev pub u32 : Format
u32 = word 4

-- 'Name: length byte, 32 bytes'
abbrev pub name_f : Format
name_f = text max_name

-- 'Address: length byte, 64 bytes'
abbrev pub address_f : Format
address_f = text max_address

-- 'Key: name, u32'
abbrev pub key_f : Format
key_f = name_f ▸ u32

-- Vector: count byte, f32 bits; a count of 0 does not decode
abbrev pub vector_f : Format
vector_f = many 1 1 max_components u32

-- Op: 1 id vector, or 2 id
abbrev pub op_f : Format
op_f = either 1 (u64 ▸ vector_f) (code 2 ▸ u64)

-- Metric: 0 Euclidean, 1 Angular
abbrev pub metric_f : Format
metric_f = below 2

-- 10: count byte, then for each list a count byte and nodes
abbrev pub placement_f : Format
placement_f = many 1 0 max_lists (many 1 0 max_listed u64)

-- 21: u16 count, (epoch, end) pairs
abbrev pub table_f : Format
table_f = many 2 0 max_table (u64 ▸ u64)

-- 22: entries (epoch offset op)
abbrev pub entry_f : Format
entry_f = u64 ▸ u64 ▸ op_f

-- 22: u16 count up to 256, entries
abbrev pub entries_f : Format
entries_f = many 2 0 max_batch entry_f

-- ---- the parts as data, and back

-- Metric: the metric of a code
abbrev pub metric_of : ℕ → Metric
metric_of zero = Euclidean
metric_of (suc n) = Angular

-- Metric: the code of a metric
abbrev pub metric_code : Metric → ℕ
metric_code Euclidean = 0
metric_code Angular = 1

-- Key: as data
abbrev pub key_of : Value key_f → Key
key_of v = record { collection = v.0; shard = v.1 }

-- Key: as a value of its format
abbrev pub key_value : Key → Value key_f
key_value k = (k.collection, k.shard)

-- Op: as data
abbrev pub op_of : Value op_f → WireOp
op_of (inl v) = wire_upsert v.0 v.1
op_of (inr v) = wire_delete v.1

-- Op: as a value of its format
abbrev pub op_value : WireOp → Value op_f
op_value (wire_upsert id bits) = inl (id, bits)
op_value (wire_delete id) = inr (tt, id)

-- 22: an entry as data
abbrev pub entry_of : Value entry_f → WireEntry
entry_of v = record { epoch = v.0; offset = v.1.0; op = op_of v.1.1 }

-- 22: an entry as a value of its format
abbrev pub entry_value : WireEntry → Value entry_f
entry_value e = (e.epoch, (e.offset, op_value e.op))

-- 21: a pair as data
abbrev pub end_of : Value (u64 ▸ u64) → End
end_of v = record { epoch = v.0; end = v.1 }

-- 21: a pair as a value of its format
abbrev pub end_value : End → Value (u64 ▸ u64)
end_value t = (t.epoch, t.end)

module _ {A : Type 0} where
  -- an answer where the test holds
  abbrev pub whenever : Bool → A → Option A
  whenever true a = some a
  whenever false a = none
