-- Paper 01, 'Bytes on the wire': each message and each command with the bytes that carry it, written out; and what does not decode, one
-- past each limit. That every row holds, for writer and reader, is computed in proofs/Cases/Bytes.antt. Definitions only.
use Rattle.std.specs.Prelude.{ℕ, replicate}
use mathlib.Core.List.{List, [], ◌∷◌, ◌++◌, flatten}
use Rattle.std.proofs.Math.Option.{Option, none, some}
use Rattle.spec.specs.Keys.{Key}
use Rattle.spec.specs.Layout.Parts.{WireOp, wire_upsert, wire_delete, WireEntry}
use Rattle.spec.specs.Layout.Request.{Command, create, drop_collection, register, mark_dead, add_replica, remove_replica, promote_primary, shrink_in_sync, expand_in_sync, bench, Request, encode_request, decode_request}
use Rattle.spec.specs.Layout.Message.{
  Replicated,
  NewEpoch,
  Copied,
  Write,
  Query,
  Reply,
  reply_stored,
  reply_gap,
  reply_stale,
  reply_adopted,
  encode_replicate,
  decode_replicate,
  encode_new_epoch,
  decode_new_epoch,
  encode_copy_shard,
  decode_copy_shard,
  encode_write,
  decode_write,
  encode_search,
  decode_search,
  encode_reply,
  decode_reply,
}
use Rattle.spec.specs.Starred.{up_to}
use Rattle.spec.specs.declared.Metric.TheVariants.{Euclidean, Angular}

-- ---- any message

-- 01, and 20 to 24 and 30 to 33
pub data Message : Type 0 where
  request : Request → Message
  replicated : Replicated → Message
  new_epoch : NewEpoch → Message
  copied : Copied → Message
  write : Write → Message
  query : Query → Message
  reply : Reply → Message

-- what its writer writes
abbrev pub written : Message → List ℕ
written (request m) = encode_request m
written (replicated m) = encode_replicate m
written (new_epoch m) = encode_new_epoch m
written (copied m) = encode_copy_shard m
written (write m) = encode_write m
written (query m) = encode_search m
written (reply m) = encode_reply m

-- what was read, as a message
abbrev pub read_as : {A : Type 0} → (A → Message) → Option A → Option Message
read_as f none = none
read_as f (some a) = some (f a)

-- what the reader of that kind reads
abbrev pub read : Message → List ℕ → Option Message
read (request m) s = read_as request (decode_request s)
read (replicated m) s = read_as replicated (decode_replicate s)
read (new_epoch m) s = read_as new_epoch (decode_new_epoch s)
read (copied m) s = read_as copied (decode_copy_shard s)
read (write m) s = read_as write (decode_write s)
read (query m) s = read_as query (decode_search s)
read (reply m) s = read_as reply (decode_reply s)

-- a row: a message, and its bytes
pub record Row : Type 0 where
  pub message : Message
  pub bytes : List ℕ

-- ---- parts as bytes

-- a number below 256 in eight bytes, least significant first; in four; in two
abbrev pub eight : ℕ → List ℕ
eight n = n ∷ replicate 7 0

-- in four bytes
abbrev pub four : ℕ → List ℕ
four n = n ∷ replicate 3 0

-- in two bytes
abbrev pub two : ℕ → List ℕ
two n = n ∷ 0 ∷ []

-- the name 'ab': length byte, 32 bytes, of which the unused are zero
abbrev pub ab : List ℕ
ab = 2 ∷ 0x61 ∷ 0x62 ∷ replicate 30 0

-- the key of its shard 5
abbrev pub ab_key : List ℕ
ab_key = ab ++ four 5

-- the same as data
abbrev pub key : Key
key = record { collection = 0x61 ∷ 0x62 ∷ []; shard = 5 }

-- 1 and −2 as f32 bits: 3F800000, C0000000
abbrev pub two_floats : List ℕ
two_floats = 2 ∷ 0 ∷ 0 ∷ 0x80 ∷ 0x3F ∷ 0 ∷ 0 ∷ 0 ∷ 0xC0 ∷ []

-- ---- 01 and the commands 10 to 19

-- index 0807060504030201 hexadecimal, client 2, seq 3
abbrev pub asking : Command → Message
asking c = request (record { index = 0x0807060504030201; client = 2; seq = 3; command = c })

-- its bytes before the command's
abbrev pub head : List ℕ
head = 0x01 ∷ 1 ∷ 2 ∷ 3 ∷ 4 ∷ 5 ∷ 6 ∷ 7 ∷ 8 ∷ eight 2 ++ eight 3

-- a command, with its own bytes
abbrev pub ordered : Command → List ℕ → Row
ordered c bytes = record { message = asking c; bytes = head ++ bytes }

-- each command by its code
abbrev pub commands : List Row
commands =
    ordered
    (create (0x61 ∷ 0x62 ∷ []) (record { dimension = 7; metric = Angular; shards = 2; replication = 4 }) ((9 ∷ 8 ∷ []) ∷ (6 ∷ []) ∷ []))
    (0x10 ∷ ab ++ four 7 ++ (1 ∷ four 2 ++ four 4 ++ (2 ∷ 2 ∷ eight 9 ++ eight 8 ++ (1 ∷ eight 6))))
    ∷ ordered
    (create (0x61 ∷ 0x62 ∷ []) (record { dimension = 7; metric = Euclidean; shards = 2; replication = 4 }) [])
    (0x10 ∷ ab ++ four 7 ++ (0 ∷ four 2 ++ four 4 ++ (0 ∷ [])))
    ∷ ordered (drop_collection (0x61 ∷ 0x62 ∷ [])) (0x11 ∷ ab)
    ∷ ordered (register 9 (0x20 ∷ 0x7E ∷ []) 4) (0x12 ∷ eight 9 ++ (2 ∷ 0x20 ∷ 0x7E ∷ replicate 62 0) ++ eight 4)
    ∷ ordered (mark_dead 9 4) (0x13 ∷ eight 9 ++ eight 4)
    ∷ ordered (add_replica key 9 4 6) (0x14 ∷ ab_key ++ eight 9 ++ eight 4 ++ eight 6)
    ∷ ordered (remove_replica key 9 6) (0x15 ∷ ab_key ++ eight 9 ++ eight 6)
    ∷ ordered (promote_primary key 9 6) (0x16 ∷ ab_key ++ eight 9 ++ eight 6)
    ∷ ordered (shrink_in_sync key 9 6) (0x17 ∷ ab_key ++ eight 9 ++ eight 6)
    ∷ ordered (expand_in_sync key 9 6) (0x18 ∷ ab_key ++ eight 9 ++ eight 6)
    ∷ ordered (bench (0 ∷ 255 ∷ 7 ∷ [])) (0x19 ∷ two 3 ++ (0 ∷ 255 ∷ 7 ∷ []))
    ∷ []

-- ---- 20 to 24, 30 to 33

-- Op 1: id 3 with those floats; Op 2: id 3
abbrev pub put : WireOp
put = wire_upsert 3 (0x3F800000 ∷ 0xC0000000 ∷ [])

-- its bytes
abbrev pub put_bytes : List ℕ
put_bytes = 1 ∷ eight 3 ++ two_floats

-- Op 2: id 3
abbrev pub removed : List ℕ
removed = 2 ∷ eight 3

-- an entry that deletes id 3
abbrev pub entry : WireEntry
entry = record { epoch = 1; offset = 2; op = wire_delete 3 }

-- each message by its code
abbrev pub messages : List Row
messages =
    record {
      message = replicated (record { key = key; epoch = 6; offset = 4; op = put });
      bytes = 0x20 ∷ ab_key ++ eight 6 ++ eight 4 ++ put_bytes;
    }
    ∷ record {
      message = new_epoch (record { key = key; epoch = 6; end = 4; table = up_to 1 2 ∷ up_to 5 4 ∷ []; metric = Angular });
      bytes = 0x21 ∷ ab_key ++ eight 6 ++ eight 4 ++ two 2 ++ eight 1 ++ eight 2 ++ eight 5 ++ eight 4 ++ (1 ∷ []);
    }
    ∷ record {
      message =
          copied
          (record {
            key = key;
            epoch = 6;
            entries = entry ∷ record { epoch = 5; offset = 4; op = put } ∷ [];
          });
      bytes = 0x22 ∷ ab_key ++ eight 6 ++ two 2 ++ eight 1 ++ eight 2 ++ removed ++ eight 5 ++ eight 4 ++ put_bytes;
    }
    ∷ record { message = write (record { key = key; epoch = 6; op = wire_delete 3 }); bytes = 0x23 ∷ ab_key ++ eight 6 ++ removed }
    ∷ record {
      message = query (record { key = key; epoch = 6; k = 4; bits = 0x3F800000 ∷ 0xC0000000 ∷ [] });
      bytes = 0x24 ∷ ab_key ++ eight 6 ++ four 4 ++ two_floats;
    }
    ∷ record { message = reply (reply_stored 7); bytes = 0x30 ∷ eight 7 }
    ∷ record { message = reply (reply_gap 7); bytes = 0x31 ∷ eight 7 }
    ∷ record { message = reply (reply_stale 7); bytes = 0x32 ∷ eight 7 }
    ∷ record { message = reply (reply_adopted 7); bytes = 0x33 ∷ eight 7 }
    ∷ []

-- ---- limits

-- a name of 32 bytes, an address of 64, the most lists and nodes, the longest vector
abbrev pub at_limit : List Row
at_limit =
    ordered (drop_collection (replicate 32 0x7E)) (0x11 ∷ 32 ∷ replicate 32 0x7E)
    ∷ ordered (register 9 (replicate 64 0x20) 4) (0x12 ∷ eight 9 ++ (64 ∷ replicate 64 0x20) ++ eight 4)
    ∷ ordered
    (create (0x61 ∷ 0x62 ∷ []) (record { dimension = 7; metric = Euclidean; shards = 2; replication = 4 }) (replicate 16 []))
    (0x10 ∷ ab ++ four 7 ++ (0 ∷ four 2 ++ four 4 ++ (16 ∷ replicate 16 0)))
    ∷ ordered
    (create (0x61 ∷ 0x62 ∷ []) (record { dimension = 7; metric = Euclidean; shards = 2; replication = 4 }) (replicate 8 0 ∷ []))
    (0x10 ∷ ab ++ four 7 ++ (0 ∷ four 2 ++ four 4 ++ (1 ∷ 8 ∷ replicate 64 0)))
    ∷ ordered (bench (replicate 1024 0)) (0x19 ∷ 0 ∷ 4 ∷ replicate 1024 0)
    ∷ record {
      message = query (record { key = key; epoch = 6; k = 4; bits = replicate 32 0 });
      bytes = 0x24 ∷ ab_key ++ eight 6 ++ four 4 ++ (32 ∷ replicate 128 0);
    }
    ∷ []

-- a NewEpoch with so many pairs
abbrev pub tabled : ℕ → NewEpoch
tabled n = record { key = key; epoch = 6; end = 4; table = replicate n (up_to 1 2); metric = Euclidean }

-- a CopyShard with so many entries
abbrev pub batched : ℕ → Copied
batched n = record { key = key; epoch = 6; entries = replicate n entry }

-- bytes that the reader of that message's kind does not read
abbrev pub unread : Message → List ℕ → Row
unread m bytes = record { message = m; bytes = bytes }

-- a request, for its kind
abbrev pub a_request : Message
a_request = asking (bench [])

-- a Search, for its kind
abbrev pub a_query : Message
a_query = query (record { key = key; epoch = 6; k = 4; bits = [] })

-- a CopyShard, for its kind
abbrev pub a_copy : Message
a_copy = copied (record { key = key; epoch = 6; entries = [] })

-- a NewEpoch, for its kind
abbrev pub a_new_epoch : Message
a_new_epoch = new_epoch (record { key = key; epoch = 6; end = 4; table = []; metric = Euclidean })

-- one past a limit, with all the bytes that it would take; bytes outside 20 to 7E; unused bytes that are not zero; an unknown code,
-- metric or operation; one byte short, one byte over
abbrev pub undecoded : List Row
undecoded =
    unread a_request (head ++ (0x11 ∷ 33 ∷ replicate 33 0x63))
    ∷ unread a_request (head ++ (0x12 ∷ eight 9 ++ (65 ∷ replicate 65 0x20) ++ eight 4))
    ∷ unread a_request (head ++ (0x11 ∷ 1 ∷ 0x1F ∷ replicate 31 0))
    ∷ unread a_request (head ++ (0x11 ∷ 1 ∷ 0x7F ∷ replicate 31 0))
    ∷ unread a_request (head ++ (0x11 ∷ 1 ∷ 0x63 ∷ 0x63 ∷ replicate 30 0))
    ∷ unread a_request (head ++ (0x10 ∷ ab ++ four 7 ++ (0 ∷ four 2 ++ four 4 ++ (17 ∷ replicate 17 0))))
    ∷ unread a_request (head ++ (0x10 ∷ ab ++ four 7 ++ (0 ∷ four 2 ++ four 4 ++ (1 ∷ 9 ∷ replicate 72 0))))
    ∷ unread a_request (head ++ (0x10 ∷ ab ++ four 7 ++ (2 ∷ four 2 ++ four 4 ++ (0 ∷ []))))
    ∷ unread a_request (head ++ (0x19 ∷ 1 ∷ 4 ∷ replicate 1025 0))
    ∷ unread a_request (head ++ (0x1A ∷ []))
    ∷ unread a_request (head ++ (0x0F ∷ []))
    ∷ unread a_request (head ++ (0x19 ∷ two 1))
    ∷ unread a_request (head ++ (0x19 ∷ two 1 ++ (0 ∷ 0 ∷ [])))
    ∷ unread a_query (0x24 ∷ ab_key ++ eight 6 ++ four 4 ++ (0 ∷ []))
    ∷ unread a_query (0x24 ∷ ab_key ++ eight 6 ++ four 4 ++ (33 ∷ replicate 132 0))
    ∷ unread a_query (0x25 ∷ ab_key ++ eight 6 ++ four 4 ++ two_floats)
    ∷ unread a_copy (0x22 ∷ ab_key ++ eight 6 ++ two 1 ++ eight 1 ++ eight 2 ++ (3 ∷ eight 3))
    ∷ unread a_copy (0x22 ∷ ab_key ++ eight 6 ++ (1 ∷ 1 ∷ flatten (replicate 257 (eight 1 ++ eight 2 ++ removed))))
    ∷ unread a_new_epoch (0x21 ∷ ab_key ++ eight 6 ++ eight 4 ++ (1 ∷ 4 ∷ replicate 16401 0))
    ∷ unread (reply (reply_stored 0)) (0x34 ∷ eight 7)
    ∷ unread (reply (reply_stored 0)) (0x2F ∷ eight 7)
    ∷ []
