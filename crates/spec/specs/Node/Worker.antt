-- Paper 01, 'The node', 'Rules of a run' (node.rs, replicate_to): the worker's step, and the request that it puts under way. Definitions
-- only.
use Rattle.std.specs.Prelude.{ℕ, ◌+◌, Bool, true, false, cond, not, List, [], ◌∷◌, map, eqb, length, take}
use Rattle.std.proofs.Math.Option.{Option, none, some}
use Rattle.spec.specs.Lists.{◌or◌, any, find}
use Rattle.spec.specs.Limits.{max_batch}
use Rattle.spec.specs.Keys.{Key}
use Rattle.spec.specs.Refusals.{Refusal}
use Rattle.spec.specs.Log.{Log, Entry, entries_from, epoch_ends}
use Rattle.spec.specs.Layout.Message.{NewEpoch, Replicated, Copied, encode_new_epoch, encode_replicate, encode_copy_shard}
use Rattle.spec.specs.Node.Held.{Held, Node}
use Rattle.spec.specs.Node.Shards.{held_shard, leads_at, of_node, on_node}
use Rattle.spec.specs.Node.Wire.{wire_op, wire_entry}
use Rattle.spec.specs.declared.Metric.{Metric}
use Rattle.spec.specs.declared.Peer.{Peer}
use Rattle.spec.specs.declared.Role.{Role}
use Rattle.spec.specs.declared.Role.TheVariants.{Backup, Primary}

-- 'The node': Wait, Stop, Align, or Send: its first offset, how many entries, and the epoch of the first (which matters where it is alone)
pub data Step : Type 0 where
  stop : Step
  wait : Step
  align : Step
  send : (first count epoch : ℕ) → Step

-- node.rs, replicate_to: the entries to send, if there are any
abbrev pub send_of : ℕ → Log → Step
send_of first [] = wait
send_of first (e ∷ es) = send first (length (e ∷ es)) e.epoch

-- node.rs, replicate_to: an aligned peer gets what follows its ack, at most 256 entries
unfoldable pub step_row : Log → Option Peer → Step
step_row l none = align
step_row l (some p) =
    let first = p.acked.0 + 1 in
    cond p.aligned (send_of first (entries_from l first max_batch)) align

-- 'The node': Stop where replicate_to returns: no primary at that epoch, or the last shown map does not list the peer
unfoldable pub step_held : (epoch peer : ℕ) → Held → Step
step_held epoch peer h =
    cond (not (leads_at h.role epoch)) stop
    (cond (not (any (on_node peer) h.holders)) stop
    (step_row h.replica.log (find (of_node peer) h.peers)))

-- Stop without the shard
abbrev pub step_at : (epoch peer : ℕ) → Option Held → Step
step_at epoch peer none = stop
step_at epoch peer (some h) = step_held epoch peer h

-- 'The node': the worker's step; it changes nothing
unfoldable pub on_step : Node → Key → (epoch peer : ℕ) → Step
on_step n k epoch peer = step_at epoch peer (held_shard n k)

-- ---- the request of a step

-- the requests 20, 21 and 22
pub data Message : Type 0 where
  new_epoch_message : NewEpoch → Message
  replicate_message : Replicated → Message
  copy_message : Copied → Message

-- 'Bytes on the wire': a request's bytes
unfoldable pub message_bytes : Message → List ℕ
message_bytes (new_epoch_message m) = encode_new_epoch m
message_bytes (replicate_message m) = encode_replicate m
message_bytes (copy_message m) = encode_copy_shard m

-- node.rs, `end_offset`: the log's end when this node became primary
abbrev pub end_offset : Role → ℕ
end_offset Backup = 0
end_offset (Primary p o) = o.0

-- node.rs, `epochs`: the epochs of the log when this node became primary (no cut happens while it is)
unfoldable pub alignment : Held → (epoch : ℕ) → Metric → NewEpoch
alignment h epoch metric =
    let end = end_offset h.role in
    record { key = h.key; epoch = epoch; end = end; table = epoch_ends (take end h.replica.log); metric = metric }

-- request 2.5: an entry alone goes as CopyShard where its epoch differs from the primary's, and as Replicate otherwise
abbrev pub copies : (epoch given : ℕ) → Bool
copies epoch e = not (eqb e epoch)

-- 22: the entries as CopyShard
abbrev pub copy_of : Key → (epoch : ℕ) → Log → Message
copy_of k epoch es = copy_message (record { key = k; epoch = epoch; entries = map wire_entry es })

-- 20: one entry as Replicate, under the primary's epoch
abbrev pub lone_of : Key → (epoch : ℕ) → Entry → Message
lone_of k epoch e = replicate_message (record { key = k; epoch = epoch; offset = e.offset; op = wire_op e.op })

-- node.rs, replicate_to: one entry goes as Replicate if it is of the primary's epoch; any others as CopyShard
unfoldable pub sending : Key → (epoch : ℕ) → Log → Option Message
sending k epoch [] = none
sending k epoch (e ∷ []) = some (cond (copies epoch e.epoch) (copy_of k epoch (e ∷ [])) (lone_of k epoch e))
sending k epoch (e ∷ d ∷ es) = some (copy_of k epoch (e ∷ d ∷ es))

-- node.rs, replicate_to: the request of a step, at the shard; Stop and Wait have none
unfoldable pub request_held : (epoch : ℕ) → Metric → Held → Step → Option Message
request_held epoch metric h stop = none
request_held epoch metric h wait = none
request_held epoch metric h align = some (new_epoch_message (alignment h epoch metric))
request_held epoch metric h (send first count e) =
    sending h.key epoch (entries_from h.replica.log first count)

-- no request without the shard
abbrev pub request_at : (epoch : ℕ) → Metric → Step → Option Held → Option Message
request_at epoch metric _ none = none
request_at epoch metric step (some h) = request_held epoch metric h step

-- the request of a step that the node answered
unfoldable pub on_request : Node → Key → (epoch : ℕ) → Metric → Step → Option Message
on_request n k epoch metric step = request_at epoch metric step (held_shard n k)
