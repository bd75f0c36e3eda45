-- What a primary's message promises at one held shard with its lent store: the definition's answer, and the definition's shard with its
-- log and vectors, read from the store at exit, whatever the shard's key is. Definitions only.
use Rattle.std.specs.Prelude.{ℕ, ◌≡◌, Bool, true, false, List, map}
use Rattle.std.proofs.Math.Option.{some}
use Rattle.spec.specs.Keys.{Key}
use Rattle.spec.specs.Refusals.{no_room}
use Rattle.spec.specs.Layout.Message.{reply_stored, reply_gap, reply_stale, reply_adopted, decode_replicate, decode_copy_shard, decode_new_epoch}
use Rattle.spec.specs.Layout.Message as message
use Rattle.spec.specs.Node.Wire.{stored_op, stored_entry}
use Rattle.spec.specs.Node.Held as held
use Rattle.spec.specs.Node.Shards.{Result, gives}
use Rattle.spec.specs.Node.Backup.{BackupAnswer, replied, backup_refused, replicate_held, copy_held, new_epoch_held}
use Rattle.wire_read.specs.Shown.{message_of}
use Rattle.wire_read.specs.declared.ReplicatePart.{ReplicatePart}
use Rattle.wire_read.specs.declared.CopyPart.{CopyPart}
use Rattle.wire_read.specs.declared.NewEpochPart.{NewEpochPart}
use Rattle.wire_read.specs.declared.Message.TheVariants.{Replicate, NewEpoch, CopyShard}
use Rattle.node_shard.specs.declared.Held.{Held}
use Rattle.log_store.specs.Store.{Store, Sized, well_formed_store}
use Rattle.node_log_write.specs.Writes.{view_stored}
use Rattle.node_log_backup.specs.declared.Answer.{Answer}
use Rattle.node_log_backup.specs.declared.Answer.TheVariants as A
use Rattle.node_log_backup.specs.declared.Backed.{Backed}

-- 'Bytes on the wire', 30 to 33, each with its number; 'Who is turned down', 23
abbrev pub answered : Answer → BackupAnswer
answered (A.Stored o) = replied (reply_stored o.0)
answered (A.Gap o) = replied (reply_gap o.0)
answered (A.StaleEpoch e) = replied (reply_stale e.0)
answered (A.Adopted o) = replied (reply_adopted o.0)
answered A.NoRoom = backup_refused no_room

-- StaleEpoch and 23
abbrev pub turned_down : Answer → Bool
turned_down (A.Stored o) = false
turned_down (A.Gap o) = false
turned_down (A.StaleEpoch e) = true
turned_down (A.Adopted o) = false
turned_down A.NoRoom = true

-- a call on the shard h with the store s leaves the store t; turned down, it leaves every place of both as it was, the free ones too
pub record Backs (call : held.Held → Result BackupAnswer held.Held) (h : Held) (s t : Store) (r : Backed) : Type 0 where
  pub same : (k : Key) → gives (answered r.answer) (view_stored k r.held t) ≡ call (view_stored k h s)
  pub kept : turned_down r.answer ≡ true → (t ≡ s) × (r.held ≡ h)
  pub well : well_formed_store t ≡ true
  pub sized : Sized t

-- ---- what the bytes were read as, and the call that they make

abbrev pub IsReplicate : List ℕ → ReplicatePart → Type 0
IsReplicate b p = message_of b ≡ Replicate p

abbrev pub IsCopy : List ℕ → CopyPart → Type 0
IsCopy b p = message_of b ≡ CopyShard p

abbrev pub IsNewEpoch : List ℕ → NewEpochPart → Type 0
IsNewEpoch b p = message_of b ≡ NewEpoch p

-- 20
abbrev pub Replicates : List ℕ → Held → (s t : Store) → Backed → Type 0
Replicates b h s t r =
    (m : message.Replicated) → decode_replicate b ≡ some m → Backs (replicate_held m.epoch m.offset (stored_op m.op)) h s t r

-- 22
abbrev pub CopiesShard : List ℕ → Held → (s t : Store) → Backed → Type 0
CopiesShard b h s t r =
    (m : message.Copied) → decode_copy_shard b ≡ some m → Backs (copy_held m.epoch (map stored_entry m.entries)) h s t r

-- 21
abbrev pub TakesNewEpoch : List ℕ → Held → (s t : Store) → Backed → Type 0
TakesNewEpoch b h s t r =
    (m : message.NewEpoch) → decode_new_epoch b ≡ some m → Backs (new_epoch_held m.epoch m.end m.table) h s t r
