-- Paper 01, 'Bytes on the wire': the messages between nodes and from clients, 20 to 24, and the replies, 30 to 33.
--
--   data      Replicated (20), NewEpoch (21), Copied (22), Write (23), Query (24), Reply (30 to 33: reply_stored,
--             reply_gap, reply_stale, reply_adopted); operations and entries are Parts' WireOp (wire_upsert, wire_delete)
--             and WireEntry, with components as u32 bits
--   formats   replicate_f, new_epoch_f, copy_shard_f, write_f, search_f, reply_f
--   reading   decode_replicate, decode_new_epoch, decode_copy_shard, decode_write, decode_search, decode_reply
--             : List ℕ → Option .. : only what the writer writes is read; bytes left over refuse
--   writing   encode_replicate, encode_new_epoch, encode_copy_shard, encode_write, encode_search, encode_reply
--
-- A component outside the domain is read: its refusal (22) is the calls' own. Definitions only.
use Rattle.std.specs.Prelude.{ℕ, List, map}
use Rattle.std.proofs.Common.{inl, inr}
use Rattle.std.proofs.Math.Option.{Option}
use Rattle.spec.specs.Keys.{Key}
use Rattle.spec.specs.Log.{End}
use Rattle.spec.specs.declared.Metric.{Metric}
use Rattle.spec.specs.Layout.Format.{Format, code, ◌▸◌, either, Value, encode, value, whole}
use Rattle.spec.specs.Layout.Parts.{WireOp, WireEntry, u64, u32, key_f, op_f, vector_f, metric_f, table_f, entries_f, metric_of, metric_code, key_of, key_value, op_of, op_value, entry_of, entry_value, end_of, end_value, whenever}

-- ---- 20: key epoch offset op

-- 20: the message as data
pub record Replicated : Type 0 where
  pub key : Key
  pub epoch : ℕ
  pub offset : ℕ
  pub op : WireOp

-- 20: its format
abbrev pub replicate_f : Format
replicate_f = code 0x20 ▸ key_f ▸ u64 ▸ u64 ▸ op_f

-- 20: a value of the format as data
abbrev pub replicate_of : Value replicate_f → Replicated
replicate_of v =
    record { key = key_of v.1.0; epoch = v.1.1.0; offset = v.1.1.1.0; op = op_of v.1.1.1.1 }

-- 20: data as a value of the format
abbrev pub replicate_value : Replicated → Value replicate_f
replicate_value m = (tt, (key_value m.key, (m.epoch, (m.offset, op_value m.op))))

-- 20: what the writer writes
unfoldable pub encode_replicate : Replicated → List ℕ
encode_replicate m = encode replicate_f (replicate_value m)

-- 20: only what the writer writes is read; bytes left over refuse
unfoldable pub decode_replicate : List ℕ → Option Replicated
decode_replicate s = whenever (whole replicate_f s) (replicate_of (value replicate_f s 0))

-- ---- 21: key epoch end_offset, table, metric

-- 21: the message as data
pub record NewEpoch : Type 0 where
  pub key : Key
  pub epoch : ℕ
  pub end : ℕ
  pub table : List End
  pub metric : Metric

-- 21: its format
abbrev pub new_epoch_f : Format
new_epoch_f = code 0x21 ▸ key_f ▸ u64 ▸ u64 ▸ table_f ▸ metric_f

-- 21: a value of the format as data
abbrev pub new_epoch_of : Value new_epoch_f → NewEpoch
new_epoch_of v = record {
  key = key_of v.1.0;
  epoch = v.1.1.0;
  end = v.1.1.1.0;
  table = map end_of v.1.1.1.1.0;
  metric = metric_of v.1.1.1.1.1;
}

-- 21: data as a value of the format
abbrev pub new_epoch_value : NewEpoch → Value new_epoch_f
new_epoch_value m = (tt, (key_value m.key, (m.epoch, (m.end, (map end_value m.table, metric_code m.metric)))))

-- 21: what the writer writes
unfoldable pub encode_new_epoch : NewEpoch → List ℕ
encode_new_epoch m = encode new_epoch_f (new_epoch_value m)

-- 21: only what the writer writes is read; bytes left over refuse
unfoldable pub decode_new_epoch : List ℕ → Option NewEpoch
decode_new_epoch s = whenever (whole new_epoch_f s) (new_epoch_of (value new_epoch_f s 0))

-- ---- 22: key epoch, entries

-- 22: the message as data
pub record Copied : Type 0 where
  pub key : Key
  pub epoch : ℕ
  pub entries : List WireEntry

-- 22: its format
abbrev pub copy_shard_f : Format
copy_shard_f = code 0x22 ▸ key_f ▸ u64 ▸ entries_f

-- 22: a value of the format as data
abbrev pub copy_shard_of : Value copy_shard_f → Copied
copy_shard_of v = record { key = key_of v.1.0; epoch = v.1.1.0; entries = map entry_of v.1.1.1 }

-- 22: data as a value of the format
abbrev pub copy_shard_value : Copied → Value copy_shard_f
copy_shard_value m = (tt, (key_value m.key, (m.epoch, map entry_value m.entries)))

-- 22: what the writer writes
unfoldable pub encode_copy_shard : Copied → List ℕ
encode_copy_shard m = encode copy_shard_f (copy_shard_value m)

-- 22: only what the writer writes is read; bytes left over refuse
unfoldable pub decode_copy_shard : List ℕ → Option Copied
decode_copy_shard s = whenever (whole copy_shard_f s) (copy_shard_of (value copy_shard_f s 0))

-- ---- 23: key epoch op

-- 23: the message as data
pub record Write : Type 0 where
  pub key : Key
  pub epoch : ℕ
  pub op : WireOp

-- 23: its format
abbrev pub write_f : Format
write_f = code 0x23 ▸ key_f ▸ u64 ▸ op_f

-- 23: a value of the format as data
abbrev pub write_of : Value write_f → Write
write_of v = record { key = key_of v.1.0; epoch = v.1.1.0; op = op_of v.1.1.1 }

-- 23: data as a value of the format
abbrev pub write_value : Write → Value write_f
write_value m = (tt, (key_value m.key, (m.epoch, op_value m.op)))

-- 23: what the writer writes
unfoldable pub encode_write : Write → List ℕ
encode_write m = encode write_f (write_value m)

-- 23: only what the writer writes is read; bytes left over refuse
unfoldable pub decode_write : List ℕ → Option Write
decode_write s = whenever (whole write_f s) (write_of (value write_f s 0))

-- ---- 24: key epoch, k u32, vector

-- 24: the message as data
pub record Query : Type 0 where
  pub key : Key
  pub epoch : ℕ
  pub k : ℕ
  pub bits : List ℕ

-- 24: its format
abbrev pub search_f : Format
search_f = code 0x24 ▸ key_f ▸ u64 ▸ u32 ▸ vector_f

-- 24: a value of the format as data
abbrev pub search_of : Value search_f → Query
search_of v = record { key = key_of v.1.0; epoch = v.1.1.0; k = v.1.1.1.0; bits = v.1.1.1.1 }

-- 24: data as a value of the format
abbrev pub search_value : Query → Value search_f
search_value m = (tt, (key_value m.key, (m.epoch, (m.k, m.bits))))

-- 24: what the writer writes
unfoldable pub encode_search : Query → List ℕ
encode_search m = encode search_f (search_value m)

-- 24: only what the writer writes is read; bytes left over refuse
unfoldable pub decode_search : List ℕ → Option Query
decode_search s = whenever (whole search_f s) (search_of (value search_f s 0))

-- ---- 30 Stored, 31 Gap, 32 StaleEpoch, 33 Adopted: one u64

-- 30 to 33: the message as data
pub data Reply : Type 0 where
  reply_stored : ℕ → Reply
  reply_gap : ℕ → Reply
  reply_stale : ℕ → Reply
  reply_adopted : ℕ → Reply

-- 30 to 33: its format
abbrev pub reply_f : Format
reply_f = either 0x30 u64 (either 0x31 u64 (either 0x32 u64 (code 0x33 ▸ u64)))

-- 30 to 33: a value of the format as data
abbrev pub reply_of : Value reply_f → Reply
reply_of (inl n) = reply_stored n
reply_of (inr (inl n)) = reply_gap n
reply_of (inr (inr (inl n))) = reply_stale n
reply_of (inr (inr (inr v))) = reply_adopted v.1

-- 30 to 33: data as a value of the format
abbrev pub reply_value : Reply → Value reply_f
reply_value (reply_stored n) = inl n
reply_value (reply_gap n) = inr (inl n)
reply_value (reply_stale n) = inr (inr (inl n))
reply_value (reply_adopted n) = inr (inr (inr (tt, n)))

-- 30 to 33: what the writer writes
unfoldable pub encode_reply : Reply → List ℕ
encode_reply r = encode reply_f (reply_value r)

-- 30 to 33: only what the writer writes is read; bytes left over refuse
unfoldable pub decode_reply : List ℕ → Option Reply
decode_reply s = whenever (whole reply_f s) (reply_of (value reply_f s 0))
