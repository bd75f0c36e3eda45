-- How a message that was read is shown as the enum `Message`: its numbers, and the places of its names, vectors,
-- tables, lists and entries in the bytes. What the bytes say is `spec`'s (`decode_write` and so on).
use Rattle.std.specs.Prelude.{ℕ, ◌+◌, cond, List, length, ◌==◌, slice_index_or}
use Rattle.std.specs.Prelude as prelude
use Rattle.std.proofs.Math.Option.{Option, none, some}
use Rattle.spec.specs.Keys.{Name, Key}
use Rattle.spec.specs.Log.{End}
use Rattle.spec.specs.Map.Tables.{Spec}
use Rattle.spec.specs.Layout.Format.{Value, ◌▸◌}
use Rattle.spec.specs.Layout.Parts.{u64, metric_of, key_of, WireOp, wire_upsert, wire_delete, WireEntry}
use Rattle.spec.specs.Layout.Request as request
use Rattle.spec.specs.Layout.Message as message
use Rattle.wire_read.specs.declared.Part.{Part}
use Rattle.wire_read.specs.declared.KeyPart.{KeyPart}
use Rattle.wire_read.specs.declared.OpPart.{OpPart}
use Rattle.wire_read.specs.declared.OpPart.TheVariants.{Upsert, Delete}
use Rattle.wire_read.specs.declared.EntryPart.{EntryPart}
use Rattle.wire_read.specs.declared.EndPart.{EndPart}
use Rattle.wire_read.specs.declared.CreatePart.{CreatePart}
use Rattle.wire_read.specs.declared.RegisterPart.{RegisterPart}
use Rattle.wire_read.specs.declared.DeadPart.{DeadPart}
use Rattle.wire_read.specs.declared.AddPart.{AddPart}
use Rattle.wire_read.specs.declared.ChangePart.{ChangePart}
use Rattle.wire_read.specs.declared.CommandPart.{CommandPart}
use Rattle.wire_read.specs.declared.CommandPart.TheVariants.{Create, Drop, Register, MarkNodeDead, AddReplica, Remove, Promote, Shrink, Expand, Bench}
use Rattle.wire_read.specs.declared.RequestPart.{RequestPart}
use Rattle.wire_read.specs.declared.ReplicatePart.{ReplicatePart}
use Rattle.wire_read.specs.declared.NewEpochPart.{NewEpochPart}
use Rattle.wire_read.specs.declared.CopyPart.{CopyPart}
use Rattle.wire_read.specs.declared.WritePart.{WritePart}
use Rattle.wire_read.specs.declared.SearchPart.{SearchPart}
use Rattle.wire_read.specs.declared.Message.{Message}
use Rattle.wire_read.specs.declared.Message.TheVariants.{Undecodable, Request, Replicate, NewEpoch, CopyShard, Write, Search, Stored, Gap, StaleEpoch, Adopted}
use Rattle.wire_read.specs.declared.RequestRead.{RequestRead}

-- ---- parts

abbrev pub part : (at len : ℕ) → Part
part at len = record { at = at; len = len }

-- a key at a position: a length byte stands before its name
abbrev pub key_shown : ℕ → Key → KeyPart
key_shown at k = record { name = part (at + 1) (length k.collection); shard = k.shard }

-- an operation at a position: code, id and count stand before an Upsert's components
abbrev pub op_shown : ℕ → WireOp → OpPart
op_shown at (wire_upsert id bits) = Upsert id (part (at + 1 + 8 + 1) (length bits))
op_shown at (wire_delete id) = Delete id

-- an entry at a position, with the position after it
abbrev pub entry_shown : ℕ → WireEntry → ℕ → EntryPart
entry_shown at e n =
    record { epoch = record { 0 = e.epoch }; offset = record { 0 = e.offset }; op = op_shown (at + 8 + 8) e.op; next = n }

abbrev pub end_shown : End → EndPart
end_shown t = record { epoch = record { 0 = t.epoch }; end = record { 0 = t.end } }

-- ---- 01

abbrev pub create_shown : ℕ → Name → Spec → List (List ℕ) → CreatePart
create_shown at n s p = record {
  name = part (at + 1) (length n);
  dimension = s.dimension;
  metric = s.metric;
  shards = s.shards;
  replication = s.replication;
  placement = part (at + 1 + 32 + 4 + 1 + 4 + 4 + 1) (length p);
}

abbrev pub change_shown : ℕ → Key → (node epoch : ℕ) → ChangePart
change_shown at k n e = record { key = key_shown at k; node = record { 0 = n }; epoch = record { 0 = e } }

-- the operands of 10, 12, 13, 14 and 15 to 18, as they are read at a position
abbrev pub create_part_of : ℕ → Value request.create_f → CreatePart
create_part_of at v =
    create_shown at v.0
    (record { dimension = v.1.0; metric = metric_of v.1.1.0; shards = v.1.1.1.0; replication = v.1.1.1.1.0 })
    v.1.1.1.1.1

abbrev pub register_of : ℕ → Value request.register_f → RegisterPart
register_of at v =
    record { node = record { 0 = v.0 }; address = part (at + 8 + 1) (length v.1.0); incarnation = v.1.1 }

abbrev pub dead_of : Value (u64 ▸ u64) → DeadPart
dead_of v = record { node = record { 0 = v.0 }; incarnation = v.1 }

abbrev pub add_of : ℕ → Value request.add_f → AddPart
add_of at v = record {
  key = key_shown at (key_of v.0);
  node = record { 0 = v.1.0 };
  incarnation = v.1.1.0;
  epoch = record { 0 = v.1.1.1 };
}

abbrev pub change_of : ℕ → Value request.ownership_f → ChangePart
change_of at v = change_shown at (key_of v.0) v.1.0 v.1.1

-- a command whose code stands at a position
abbrev pub command_shown : ℕ → request.Command → CommandPart
command_shown at (request.create n s p) = Create (create_shown (at + 1) n s p)
command_shown at (request.drop_collection n) = Drop (part (at + 1 + 1) (length n))
command_shown at (request.register n a i) =
    Register (record { node = record { 0 = n }; address = part (at + 1 + 8 + 1) (length a); incarnation = i })
command_shown at (request.mark_dead n i) = MarkNodeDead (record { node = record { 0 = n }; incarnation = i })
command_shown at (request.add_replica k n i e) =
    AddReplica (record { key = key_shown (at + 1) k; node = record { 0 = n }; incarnation = i; epoch = record { 0 = e } })
command_shown at (request.remove_replica k n e) = Remove (change_shown (at + 1) k n e)
command_shown at (request.promote_primary k n e) = Promote (change_shown (at + 1) k n e)
command_shown at (request.shrink_in_sync k n e) = Shrink (change_shown (at + 1) k n e)
command_shown at (request.expand_in_sync k n e) = Expand (change_shown (at + 1) k n e)
command_shown at (request.bench bs) = Bench (part (at + 1 + 2) (length bs))

-- a request at a position
abbrev pub request_part : ℕ → request.Request → RequestPart
request_part at r =
    record { index = r.index; client = r.client; seq = r.seq; command = command_shown (at + 1 + 8 + 8 + 8) r.command }

abbrev pub request_shown : ℕ → request.Request → Message
request_shown at r = Request (request_part at r)

-- ---- 20 to 24, 30 to 33

abbrev pub replicate_part : message.Replicated → ReplicatePart
replicate_part m = record {
  key = key_shown 1 m.key;
  epoch = record { 0 = m.epoch };
  offset = record { 0 = m.offset };
  op = op_shown 54 m.op;
}

abbrev pub replicate_shown : message.Replicated → Message
replicate_shown m = Replicate (replicate_part m)

abbrev pub new_epoch_part : message.NewEpoch → NewEpochPart
new_epoch_part m = record {
  key = key_shown 1 m.key;
  epoch = record { 0 = m.epoch };
  end = record { 0 = m.end };
  table = part 56 (length m.table);
  metric = m.metric;
}

abbrev pub new_epoch_shown : message.NewEpoch → Message
new_epoch_shown m = NewEpoch (new_epoch_part m)

abbrev pub copy_part : message.Copied → CopyPart
copy_part m = record { key = key_shown 1 m.key; epoch = record { 0 = m.epoch }; entries = part 48 (length m.entries) }

abbrev pub copy_shown : message.Copied → Message
copy_shown m = CopyShard (copy_part m)

abbrev pub write_part : message.Write → WritePart
write_part m = record { key = key_shown 1 m.key; epoch = record { 0 = m.epoch }; op = op_shown 46 m.op }

abbrev pub write_shown : message.Write → Message
write_shown m = Write (write_part m)

abbrev pub search_part : message.Query → SearchPart
search_part m = record { key = key_shown 1 m.key; epoch = record { 0 = m.epoch }; k = m.k; vector = part 51 (length m.bits) }

abbrev pub search_shown : message.Query → Message
search_shown m = Search (search_part m)

abbrev pub reply_shown : message.Reply → Message
reply_shown (message.reply_stored n) = Stored (record { 0 = n })
reply_shown (message.reply_gap n) = Gap (record { 0 = n })
reply_shown (message.reply_stale n) = StaleEpoch (record { 0 = n })
reply_shown (message.reply_adopted n) = Adopted (record { 0 = n })

-- ---- messages

module _ {A : Type 0} where
  abbrev pub shown_or : (A → Message) → Option A → Message
  shown_or f none = Undecodable
  shown_or f (some a) = f a

-- a value that was read, shown
module _ {A B : Type 0} where
  abbrev pub shown : (A → B) → Option A → prelude.Option B
  shown f none = prelude.None
  shown f (some a) = prelude.Some (f a)

-- 'Bytes on the wire': the message that all of the bytes are, by its code, or Undecodable
unfoldable pub message_of : List ℕ → Message
message_of s =
    let c = slice_index_or s 0 0 in
    cond (c == 0x01) (shown_or (request_shown 0) (request.decode_request s))
    (cond (c == 0x20) (shown_or replicate_shown (message.decode_replicate s))
    (cond (c == 0x21) (shown_or new_epoch_shown (message.decode_new_epoch s))
    (cond (c == 0x22) (shown_or copy_shown (message.decode_copy_shard s))
    (cond (c == 0x23) (shown_or write_shown (message.decode_write s))
    (cond (c == 0x24) (shown_or search_shown (message.decode_search s))
    (shown_or reply_shown (message.decode_reply s)))))))

abbrev pub read_or : ℕ → Option (request.Request × ℕ) → RequestRead
read_or at none = record { message = Undecodable; next = at }
read_or at (some r) = record { message = request_shown at r.0; next = r.1 }

-- 'Program applymap': the request that stands at a position, with the position after it
unfoldable pub request_read_of : List ℕ → ℕ → RequestRead
request_read_of s at = read_or at (request.request_at s at)

-- the same as a value, with the position after it
abbrev pub request_end : ℕ → request.Request × ℕ → RequestPart × ℕ
request_end at r = (request_part at r.0, r.1)

unfoldable pub request_part_of : List ℕ → ℕ → prelude.Option (RequestPart × ℕ)
request_part_of s at = shown (request_end at) (request.request_at s at)
