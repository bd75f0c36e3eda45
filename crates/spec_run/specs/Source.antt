-- Two functions of node.rs and shard.rs as the source has them, which requests 2.5 and 2.3 changed; what the changes prevent is computed in
-- proofs/Cases/LoneEntry.antt and LateAlignment.antt. Definitions only.
use Rattle.std.specs.Prelude.{ℕ, cond, not, List, [], ◌∷◌, ltb}
use Rattle.std.proofs.Math.Option.{Option, none, some}
use Rattle.spec.specs.Keys.{Key}
use Rattle.spec.specs.Refusals.{undecodable, malformed}
use Rattle.spec.specs.Log.{Log, End, last_offset, entries_from, cut_to}
use Rattle.spec.specs.Layout.Message.{NewEpoch, decode_new_epoch, reply_stale, reply_adopted}
use Rattle.spec.specs.Node.Held.{Held, Node}
use Rattle.spec.specs.Node.Shards.{Result, gives, held_shard, at_shard, with_replica, demoted}
use Rattle.spec.specs.Node.Backup.{BackupAnswer, replied, backup_refused, unheld, leads_from, begin_epoch}
use Rattle.spec.specs.Node.Worker.{Step, stop, wait, align, send, on_step, Message, new_epoch_message, alignment, copy_of, lone_of}
use Rattle.spec.specs.Node.Calls.{RequestAnswer, request_refused, written_in}
use Rattle.spec.specs.Node.WellFormed.{well_formed_lent}
use Rattle.spec.specs.declared.Metric.{Metric}

-- ---- node.rs, replicate_to: a lone entry goes as Replicate whatever its epoch, and takes the primary's

-- one entry as Replicate, several as CopyShard
unfoldable pub sending : Key → (epoch : ℕ) → Log → Option Message
sending k epoch [] = none
sending k epoch (e ∷ []) = some (lone_of k epoch e)
sending k epoch (e ∷ d ∷ es) = some (copy_of k epoch (e ∷ d ∷ es))

-- the request of a step, at the shard
abbrev pub request_at : (epoch : ℕ) → Metric → Step → Option Held → Option Message
request_at epoch metric _ none = none
request_at epoch metric stop (some h) = none
request_at epoch metric wait (some h) = none
request_at epoch metric align (some h) = some (new_epoch_message (alignment h epoch metric))
request_at epoch metric (send first count e) (some h) = sending h.key epoch (entries_from h.replica.log first count)

-- the request of the worker's step, as `Calls.call_request` writes it
unfoldable pub source_request : Node → (room : ℕ) → Key → (epoch peer : ℕ) → Metric → RequestAnswer
source_request n room k epoch peer metric =
    cond (not (well_formed_lent n k)) (request_refused malformed)
    (written_in room (request_at epoch metric (on_step n k epoch peer) (held_shard n k)))

-- ---- shard.rs, adopt: the log is cut at the replica's own epoch too

-- at a held shard
unfoldable pub align_held : (epoch end : ℕ) → List End → Held → Result BackupAnswer Held
align_held epoch end table h =
    let r = cut_to h.replica epoch end table in
    let own = h.replica.epoch in
    cond (leads_from h.role epoch) (gives (replied (reply_stale own)) h)
    (cond (ltb epoch own) (gives (replied (reply_stale own)) h)
    (gives (replied (reply_adopted (last_offset r))) (demoted (with_replica h r))))

-- one that begins has nothing to cut
abbrev pub align_at : Node → NewEpoch → Option Held → Result BackupAnswer Node
align_at n m none = begin_epoch n m.key m.epoch m.end m.table m.metric
align_at n m (some h) = at_shard n m.key unheld (align_held m.epoch m.end m.table)

abbrev pub align_of : Node → Option NewEpoch → Result BackupAnswer Node
align_of n none = gives (backup_refused undecodable) n
align_of n (some m) = cond (not (well_formed_lent n m.key)) (gives (backup_refused malformed) n) (align_at n m (held_shard n m.key))

-- NewEpoch, as `Calls.call_new_epoch` answers it
unfoldable pub source_new_epoch : Node → List ℕ → Result BackupAnswer Node
source_new_epoch n bytes = align_of n (decode_new_epoch bytes)
