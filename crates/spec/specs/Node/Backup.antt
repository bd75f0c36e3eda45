-- Paper 01, 'The node', 'Who is turned down' (node.rs: on_replicate, on_new_epoch, on_copy): what a primary's messages do, on decoded
-- values. The checks before them (21, 22, 24) are in Calls.antt. Definitions only.
use Rattle.std.specs.Prelude.{ℕ, Bool, true, false, cond, List, [], ◌∷◌, eqb, leb, ltb, length}
use Rattle.std.proofs.Math.Option.{Option, none, some}
use Rattle.spec.specs.Lists.{put}
use Rattle.spec.specs.Limits.{max_held}
use Rattle.spec.specs.Keys.{Key}
use Rattle.spec.specs.Refusals.{Refusal, no_room}
use Rattle.spec.specs.Log.{Op, Entry, End, Stored, through, gap, stale, store, store_all, adopted, last_offset}
use Rattle.spec.specs.Layout.Message.{Reply, reply_stored, reply_gap, reply_stale, reply_adopted}
use Rattle.spec.specs.Node.Held.{Held, Node}
use Rattle.spec.specs.Node.Shards.{Result, gives, at_shard, held_shard, with_held, with_replica, held_below, demoted, begun}
use Rattle.spec.specs.Node.Client.{overfull}
use Rattle.spec.specs.declared.Metric.{Metric}
use Rattle.spec.specs.declared.Role.{Role}
use Rattle.spec.specs.declared.Role.TheVariants.{Backup, Primary}

-- a reply (30 to 33) that goes back to the primary, or 21 to 24
pub data BackupAnswer : Type 0 where
  replied : Reply → BackupAnswer
  backup_refused : Refusal → BackupAnswer

-- 'Bytes on the wire': the reply that tells what became of an entry
abbrev pub reply_of : Stored → Reply
reply_of (through t) = reply_stored t
reply_of (gap n) = reply_gap n
reply_of (stale e) = reply_stale e

-- 'Who is turned down': an unknown shard is StaleEpoch 0
abbrev pub unheld : BackupAnswer
unheld = replied (reply_stale 0)

-- ---- Replicate

-- 'The node': one entry, stored under the message's epoch; 23 if it would be number 1,025
unfoldable pub replicate_held : (epoch offset : ℕ) → Op → Held → Result BackupAnswer Held
replicate_held epoch offset op h =
    let s = store h.replica epoch (record { epoch = epoch; offset = offset; op = op }) in
    cond (overfull s.replica) (gives (backup_refused no_room) h)
    (gives (replied (reply_of s.answer)) (with_replica h s.replica))

-- 'Who is turned down', Replicate: at the shard that the message names
unfoldable pub on_replicate : Node → Key → (epoch offset : ℕ) → Op → Result BackupAnswer Node
on_replicate n k epoch offset op = at_shard n k unheld (replicate_held epoch offset op)

-- ---- NewEpoch

-- node.rs, on_new_epoch: a primary at the message's epoch or above it
abbrev pub leads_from : Role → ℕ → Bool
leads_from Backup e = false
leads_from (Primary p o) e = leb e p.0

-- 'Who is turned down', NewEpoch: StaleEpoch own; otherwise the log is aligned, and the role left
unfoldable pub new_epoch_held : (epoch end : ℕ) → List End → Held → Result BackupAnswer Held
new_epoch_held epoch end table h =
    let r = adopted h.replica epoch end table in
    let own = h.replica.epoch in
    cond (leads_from h.role epoch) (gives (replied (reply_stale own)) h)
    (cond (ltb epoch own) (gives (replied (reply_stale own)) h)
    (gives (replied (reply_adopted (last_offset r))) (demoted (with_replica h r))))

-- 'Who is turned down', NewEpoch: a shard begins with the message's metric; 23 a ninth
abbrev pub begin_epoch : Node → Key → (epoch end : ℕ) → List End → Metric → Result BackupAnswer Node
begin_epoch n k epoch end table metric =
    let r = new_epoch_held epoch end table (begun k metric) in
    cond (leb max_held (length n.held)) (gives (backup_refused no_room) n)
    (gives r.answer (with_held n (put held_below r.after n.held)))

-- NewEpoch: at a held shard, or one that begins
abbrev pub new_epoch_at : Node → Key → (epoch end : ℕ) → List End → Metric → Option Held → Result BackupAnswer Node
new_epoch_at n k epoch end table metric none = begin_epoch n k epoch end table metric
new_epoch_at n k epoch end table metric (some h) = at_shard n k unheld (new_epoch_held epoch end table)

-- 'Who is turned down', NewEpoch: at the shard that the message names
unfoldable pub on_new_epoch : Node → Key → (epoch end : ℕ) → List End → Metric → Result BackupAnswer Node
on_new_epoch n k epoch end table metric = new_epoch_at n k epoch end table metric (held_shard n k)

-- ---- CopyShard

-- CopyShard: no entries
abbrev pub is_empty : List Entry → Bool
is_empty [] = true
is_empty (e ∷ es) = false

-- 'Who is turned down', CopyShard: an empty one is Stored at any epoch; another epoch is StaleEpoch own; then, entry by entry, 23 if
-- one would be number 1,025
unfoldable pub copy_held : (epoch : ℕ) → List Entry → Held → Result BackupAnswer Held
copy_held epoch es h =
    let r = store_all h.replica epoch es in
    cond (is_empty es) (gives (replied (reply_stored (last_offset h.replica))) h)
    (cond (eqb epoch h.replica.epoch)
    (cond (overfull r) (gives (backup_refused no_room) h)
    (gives (replied (reply_stored (last_offset r))) (with_replica h r)))
    (gives (replied (reply_stale h.replica.epoch)) h))

-- 'Who is turned down', CopyShard: at the shard that the message names
unfoldable pub on_copy : Node → Key → (epoch : ℕ) → List Entry → Result BackupAnswer Node
on_copy n k epoch es = at_shard n k unheld (copy_held epoch es)
