-- Paper 01, 'Bytes on the wire', 01: a request to the shard map, with its command 10 to 19.
--
--   data      Request { index; client; seq; command }, Command
--   format    request_f
--   reading   decode_request : List ℕ → Option Request, of all the bytes; request_at : List ℕ → ℕ → Option (Request × ℕ),
--             at a position, with the position after it
--   writing   encode_request : Request → List ℕ
--
-- Definitions only.
use Rattle.std.specs.Prelude.{ℕ, List}
use Rattle.std.proofs.Common.{inl, inr}
use Rattle.std.proofs.Math.Option.{Option}
use Rattle.spec.specs.Keys.{Name, Key}
use Rattle.spec.specs.Limits.{max_bench}
use Rattle.spec.specs.Map.Tables.{Spec}
use Rattle.spec.specs.Layout.Format.{Format, code, word, ◌▸◌, many, either, Value, encode, fits, next, value, whole}
use Rattle.spec.specs.Layout.Parts.{u64, u32, name_f, address_f, key_f, metric_f, placement_f, metric_of, metric_code, key_of, key_value, whenever}

-- the commands 10 to 19; the nodes of a placement are ids
pub data Command : Type 0 where
  create : Name → Spec → (placement : List (List ℕ)) → Command
  drop_collection : Name → Command
  register : (node : ℕ) (address : Name) (incarnation : ℕ) → Command
  mark_dead : (node incarnation : ℕ) → Command
  add_replica : Key → (node incarnation epoch : ℕ) → Command
  remove_replica : Key → (node epoch : ℕ) → Command
  promote_primary : Key → (node epoch : ℕ) → Command
  shrink_in_sync : Key → (node epoch : ℕ) → Command
  expand_in_sync : Key → (node epoch : ℕ) → Command
  bench : List ℕ → Command

-- 01: index client seq command
pub record Request : Type 0 where
  pub index : ℕ
  pub client : ℕ
  pub seq : ℕ
  pub command : Command

-- 10: name; dimension, metric, shards, replication; placement
abbrev pub create_f : Format
create_f = name_f ▸ u32 ▸ metric_f ▸ u32 ▸ u32 ▸ placement_f

-- 12: node address incarnation
abbrev pub register_f : Format
register_f = u64 ▸ address_f ▸ u64

-- 14: key node incarnation epoch
abbrev pub add_f : Format
add_f = key_f ▸ u64 ▸ u64 ▸ u64

-- 15 to 18: key node epoch
abbrev pub ownership_f : Format
ownership_f = key_f ▸ u64 ▸ u64

-- 19: u16 length, bytes
abbrev pub bench_f : Format
bench_f = many 2 0 max_bench (word 1)

-- 10 to 19: the format of a command, by its code
abbrev pub command_f : Format
command_f =
    either 0x10 create_f
    (either 0x11 name_f
    (either 0x12 register_f
    (either 0x13 (u64 ▸ u64)
    (either 0x14 add_f
    (either 0x15 ownership_f
    (either 0x16 ownership_f
    (either 0x17 ownership_f
    (either 0x18 ownership_f
    (code 0x19 ▸ bench_f)))))))))

-- 01: the format of a request
abbrev pub request_f : Format
request_f = code 0x01 ▸ u64 ▸ u64 ▸ u64 ▸ command_f

-- 10: as data
abbrev pub create_of : Value create_f → Command
create_of v =
    create v.0
    (record { dimension = v.1.0; metric = metric_of v.1.1.0; shards = v.1.1.1.0; replication = v.1.1.1.1.0 })
    v.1.1.1.1.1

-- 10 to 19: a command as data
abbrev pub command_of : Value command_f → Command
command_of (inl v) = create_of v
command_of (inr (inl v)) = drop_collection v
command_of (inr (inr (inl v))) = register v.0 v.1.0 v.1.1
command_of (inr (inr (inr (inl v)))) = mark_dead v.0 v.1
command_of (inr (inr (inr (inr (inl v))))) = add_replica (key_of v.0) v.1.0 v.1.1.0 v.1.1.1
command_of (inr (inr (inr (inr (inr (inl v)))))) = remove_replica (key_of v.0) v.1.0 v.1.1
command_of (inr (inr (inr (inr (inr (inr (inl v))))))) = promote_primary (key_of v.0) v.1.0 v.1.1
command_of (inr (inr (inr (inr (inr (inr (inr (inl v)))))))) = shrink_in_sync (key_of v.0) v.1.0 v.1.1
command_of (inr (inr (inr (inr (inr (inr (inr (inr (inl v))))))))) = expand_in_sync (key_of v.0) v.1.0 v.1.1
command_of (inr (inr (inr (inr (inr (inr (inr (inr (inr v))))))))) = bench v.1

-- 10 to 19: a command as a value of its format
abbrev pub command_value : Command → Value command_f
command_value (create n s p) =
    inl (n, (s.dimension, (metric_code s.metric, (s.shards, (s.replication, p)))))
command_value (drop_collection n) = inr (inl n)
command_value (register n a i) = inr (inr (inl (n, (a, i))))
command_value (mark_dead n i) = inr (inr (inr (inl (n, i))))
command_value (add_replica k n i e) = inr (inr (inr (inr (inl (key_value k, (n, (i, e)))))))
command_value (remove_replica k n e) = inr (inr (inr (inr (inr (inl (key_value k, (n, e)))))))
command_value (promote_primary k n e) = inr (inr (inr (inr (inr (inr (inl (key_value k, (n, e))))))))
command_value (shrink_in_sync k n e) = inr (inr (inr (inr (inr (inr (inr (inl (key_value k, (n, e)))))))))
command_value (expand_in_sync k n e) = inr (inr (inr (inr (inr (inr (inr (inr (inl (key_value k, (n, e))))))))))
command_value (bench bs) = inr (inr (inr (inr (inr (inr (inr (inr (inr (tt, bs)))))))))

-- 01: a request as data
abbrev pub request_of : Value request_f → Request
request_of v = record { index = v.1.0; client = v.1.1.0; seq = v.1.1.1.0; command = command_of v.1.1.1.1 }

-- 01: a request as a value of its format
abbrev pub request_value : Request → Value request_f
request_value r = (tt, (r.index, (r.client, (r.seq, command_value r.command))))

-- 01: what the writer writes
unfoldable pub encode_request : Request → List ℕ
encode_request r = encode request_f (request_value r)

-- 01: only what the writer writes is read; bytes left over refuse
unfoldable pub decode_request : List ℕ → Option Request
decode_request s = whenever (whole request_f s) (request_of (value request_f s 0))

-- 'Program applymap': requests that follow one another, each taken by its own length
unfoldable pub request_at : List ℕ → ℕ → Option (Request × ℕ)
request_at s at = whenever (fits request_f s at) (request_of (value request_f s at), next request_f s at)
