-- Paper 01, 'Who is turned down': each call of the node as its caller makes it, with the checks that come first, in their order: a message
-- that does not decode or a time above 2^62 (21), a vector outside the domain (22), a malformed lent state (24); then the call itself.
-- `..With` takes the test of the lent state as an argument, since who lends arrays has more to check; `call..` tests the node alone.
-- Definitions only.
use Rattle.std.specs.Prelude.{ℕ, Bool, true, false, cond, not, List, map, ltb, length}
use Rattle.std.proofs.Math.Option.{Option, none, some}
use Rattle.spec.specs.Lists.{◌and◌, ◌or◌, every}
use Rattle.spec.specs.Limits.{max_time}
use Rattle.spec.specs.Keys.{Key}
use Rattle.spec.specs.Refusals.{Refusal, undecodable, outside_domain, no_room, malformed}
use Rattle.spec.specs.Map.Tables.{Map}
use Rattle.spec.specs.Map.WellFormed.{well_formed_map}
use Rattle.spec.specs.Layout.Format.{value, whole}
use Rattle.spec.specs.Layout.Parts.{key_f, key_of, whenever}
use Rattle.spec.specs.Layout.Message.{Write, decode_write, Query, decode_search, Replicated, decode_replicate, NewEpoch, decode_new_epoch, Copied, decode_copy_shard, Reply, decode_reply}
use Rattle.spec.specs.Node.Held.{Node}
use Rattle.spec.specs.Node.Shards.{Result, gives}
use Rattle.spec.specs.Node.Wire.{patterns_in_domain, op_in_domain, entry_in_domain, floats_of, stored_op, stored_entry}
use Rattle.spec.specs.Node.Lease.{GrantAnswer, granted, grant_refused, grant}
use Rattle.spec.specs.Node.Client.{WriteAnswer, write_refused, on_write, SearchAnswer, search_refused, on_search, WaitAnswer, wait_refused, on_wait}
use Rattle.spec.specs.Node.Backup.{BackupAnswer, backup_refused, on_replicate, on_new_epoch, on_copy}
use Rattle.spec.specs.Node.Worker.{Step, on_step, Message, message_bytes, on_request}
use Rattle.spec.specs.Node.Ack.{AckAnswer, ack_refused, Sent, bad_reply, on_ack, OutcomeAnswer, outcome_refused, Proposal, on_outcome}
use Rattle.spec.specs.Node.Shown.{ShownAnswer, shown_refused, on_map}
use Rattle.spec.specs.Node.WellFormed.{well_formed_header, well_formed_lent}
use Rattle.spec.specs.declared.Metric.{Metric}

-- 'Who is turned down': a time above 2^62 is 21
abbrev pub late_time : ℕ → Bool
late_time t = ltb max_time t

-- 'Bytes on the wire', key: where a call gets a key alone; one that does not decode is 21
unfoldable pub decode_key : List ℕ → Option Key
decode_key s = whenever (whole key_f s) (key_of (value key_f s 0))

-- ---- Write

-- Write: 21, 22, 24, then the call
abbrev pub write_of : (Key → Bool) → Node → (now least : ℕ) → Option Write → Result WriteAnswer Node
write_of lent n now least none = gives (write_refused undecodable) n
write_of lent n now least (some m) =
    cond (not (op_in_domain m.op)) (gives (write_refused outside_domain) n)
    (cond (not (lent m.key)) (gives (write_refused malformed) n)
    (on_write n now least m.key m.epoch (stored_op m.op)))

-- 'Who is turned down', Write, of bytes
unfoldable pub write_with : (Key → Bool) → Node → (now least : ℕ) → List ℕ → Result WriteAnswer Node
write_with lent n now least s =
    cond (late_time now) (gives (write_refused undecodable) n) (write_of lent n now least (decode_write s))

-- Write, where nothing but the node is lent
unfoldable pub call_write : Node → (now least : ℕ) → List ℕ → Result WriteAnswer Node
call_write n now least s = write_with (well_formed_lent n) n now least s

-- ---- Search

-- Search: 21, 22, 24, then the call
abbrev pub search_of : (Key → Bool) → Node → (now room : ℕ) → Option Query → Result SearchAnswer Node
search_of lent n now room none = gives (search_refused undecodable) n
search_of lent n now room (some m) =
    cond (not (patterns_in_domain m.bits)) (gives (search_refused outside_domain) n)
    (cond (not (lent m.key)) (gives (search_refused malformed) n)
    (on_search n now room m.key m.epoch m.k (floats_of m.bits)))

-- 'Who is turned down', Search, of bytes
unfoldable pub search_with : (Key → Bool) → Node → (now room : ℕ) → List ℕ → Result SearchAnswer Node
search_with lent n now room s =
    cond (late_time now) (gives (search_refused undecodable) n) (search_of lent n now room (decode_search s))

-- Search, where nothing but the node is lent
unfoldable pub call_search : Node → (now room : ℕ) → List ℕ → Result SearchAnswer Node
call_search n now room s = search_with (well_formed_lent n) n now room s

-- ---- Replicate, NewEpoch, CopyShard

-- Replicate: 21, 22, 24, then the call
abbrev pub replicate_of : (Key → Bool) → Node → Option Replicated → Result BackupAnswer Node
replicate_of lent n none = gives (backup_refused undecodable) n
replicate_of lent n (some m) =
    cond (not (op_in_domain m.op)) (gives (backup_refused outside_domain) n)
    (cond (not (lent m.key)) (gives (backup_refused malformed) n)
    (on_replicate n m.key m.epoch m.offset (stored_op m.op)))

-- 'Who is turned down', Replicate, of bytes
unfoldable pub replicate_with : (Key → Bool) → Node → List ℕ → Result BackupAnswer Node
replicate_with lent n s = replicate_of lent n (decode_replicate s)

-- Replicate, where nothing but the node is lent
unfoldable pub call_replicate : Node → List ℕ → Result BackupAnswer Node
call_replicate n s = replicate_with (well_formed_lent n) n s

-- NewEpoch: 21, 24, then the call
abbrev pub new_epoch_of : (Key → Bool) → Node → Option NewEpoch → Result BackupAnswer Node
new_epoch_of lent n none = gives (backup_refused undecodable) n
new_epoch_of lent n (some m) =
    cond (not (lent m.key)) (gives (backup_refused malformed) n)
    (on_new_epoch n m.key m.epoch m.end m.table m.metric)

-- 'Who is turned down', NewEpoch, of bytes
unfoldable pub new_epoch_with : (Key → Bool) → Node → List ℕ → Result BackupAnswer Node
new_epoch_with lent n s = new_epoch_of lent n (decode_new_epoch s)

-- NewEpoch, where nothing but the node is lent
unfoldable pub call_new_epoch : Node → List ℕ → Result BackupAnswer Node
call_new_epoch n s = new_epoch_with (well_formed_lent n) n s

-- CopyShard: 21, 22, 24, then the call
abbrev pub copy_of : (Key → Bool) → Node → Option Copied → Result BackupAnswer Node
copy_of lent n none = gives (backup_refused undecodable) n
copy_of lent n (some m) =
    cond (not (every entry_in_domain m.entries)) (gives (backup_refused outside_domain) n)
    (cond (not (lent m.key)) (gives (backup_refused malformed) n)
    (on_copy n m.key m.epoch (map stored_entry m.entries)))

-- 'Who is turned down', CopyShard, of bytes
unfoldable pub copy_with : (Key → Bool) → Node → List ℕ → Result BackupAnswer Node
copy_with lent n s = copy_of lent n (decode_copy_shard s)

-- CopyShard, where nothing but the node is lent
unfoldable pub call_copy : Node → List ℕ → Result BackupAnswer Node
call_copy n s = copy_with (well_formed_lent n) n s

-- ---- lease grant, waiting for acks

-- 'The node', lease grant
unfoldable pub grant_with : Bool → Node → (incarnation sent lease : ℕ) → Result GrantAnswer Node
grant_with lent n i sent lease =
    cond (late_time sent or late_time lease) (gives (grant_refused undecodable) n)
    (cond (not lent) (gives (grant_refused malformed) n)
    (gives granted (grant n i sent lease)))

-- lease grant, where nothing but the node is lent
unfoldable pub call_grant : Node → (incarnation sent lease : ℕ) → Result GrantAnswer Node
call_grant n i sent lease = grant_with (well_formed_header n) n i sent lease

-- 'Who is turned down', waiting for acks
unfoldable pub wait_with : Bool → Node → (now timeout : ℕ) → Key → (epoch offset : ℕ) → Result WaitAnswer Node
wait_with lent n now timeout k epoch offset =
    cond (late_time now or late_time timeout) (gives (wait_refused undecodable) n)
    (cond (not lent) (gives (wait_refused malformed) n)
    (on_wait n now timeout k epoch offset))

-- waiting for acks, where nothing but the node is lent
unfoldable pub call_wait : Node → (now timeout : ℕ) → Key → (epoch offset : ℕ) → Result WaitAnswer Node
call_wait n now timeout k epoch offset = wait_with (well_formed_header n) n now timeout k epoch offset

-- ---- the worker's step, and its request

-- a step, or 24
pub data StepAnswer : Type 0 where
  stepped : Step → StepAnswer
  step_refused : Refusal → StepAnswer

-- 'The node', the worker's step
unfoldable pub step_with : (Key → Bool) → Node → Key → (epoch peer : ℕ) → StepAnswer
step_with lent n k epoch peer = cond (not (lent k)) (step_refused malformed) (stepped (on_step n k epoch peer))

-- the worker's step, where nothing but the node is lent
unfoldable pub call_step : Node → Key → (epoch peer : ℕ) → StepAnswer
call_step n k epoch peer = step_with (well_formed_lent n) n k epoch peer

-- no request (Stop, Wait), a request's bytes, or 23, 24
pub data RequestAnswer : Type 0 where
  unsent : RequestAnswer
  written : List ℕ → RequestAnswer
  request_refused : Refusal → RequestAnswer

-- a lent output that is too short: 23
abbrev pub written_in : (room : ℕ) → Option Message → RequestAnswer
written_in room none = unsent
written_in room (some m) = cond (ltb room (length (message_bytes m))) (request_refused no_room) (written (message_bytes m))

-- 'Rules of a run', Messages: the request that the worker's step puts under way
unfoldable pub request_of : Node → Key → (epoch peer : ℕ) → Metric → Option Message
request_of n k epoch peer metric = on_request n k epoch metric (on_step n k epoch peer)

-- 24, then the request, then 23
unfoldable pub request_with : (Key → Bool) → Node → (room : ℕ) → Key → (epoch peer : ℕ) → Metric → RequestAnswer
request_with lent n room k epoch peer metric =
    cond (not (lent k)) (request_refused malformed) (written_in room (request_of n k epoch peer metric))

-- the request of a step, where nothing but the node is lent
unfoldable pub call_request : Node → (room : ℕ) → Key → (epoch peer : ℕ) → Metric → RequestAnswer
call_request n room k epoch peer metric = request_with (well_formed_lent n) n room k epoch peer metric

-- ---- ack, outcome of a proposal

-- Ack: 21, 24, then the call
abbrev pub ack_of : Bool → Node → Key → (epoch peer : ℕ) → Sent → Option Reply → Result AckAnswer Node
ack_of lent n k epoch peer sent none = gives (ack_refused undecodable) n
ack_of lent n k epoch peer sent (some r) =
    cond (bad_reply r) (gives (ack_refused undecodable) n)
    (cond (not lent) (gives (ack_refused malformed) n)
    (on_ack n k epoch peer sent r))

-- 'Who is turned down', Ack, the reply in bytes
unfoldable pub ack_with : Bool → Node → Key → (epoch peer : ℕ) → Sent → List ℕ → Result AckAnswer Node
ack_with lent n k epoch peer sent s = ack_of lent n k epoch peer sent (decode_reply s)

-- Ack, where nothing but the node is lent
unfoldable pub call_ack : Node → Key → (epoch peer : ℕ) → Sent → List ℕ → Result AckAnswer Node
call_ack n k epoch peer sent s = ack_with (well_formed_header n) n k epoch peer sent s

-- 'Who is turned down', Outcome of a proposal
unfoldable pub outcome_with : Bool → Node → Key → (epoch peer : ℕ) → Proposal → Bool → Result OutcomeAnswer Node
outcome_with lent n k epoch peer what applied =
    cond (not lent) (gives (outcome_refused malformed) n) (on_outcome n k epoch peer what applied)

-- outcome of a proposal, where nothing but the node is lent
unfoldable pub call_outcome : Node → Key → (epoch peer : ℕ) → Proposal → Bool → Result OutcomeAnswer Node
call_outcome n k epoch peer what applied = outcome_with (well_formed_header n) n k epoch peer what applied

-- ---- map shown

-- 'Who is turned down', Map shown: `lent` is the test of the node and of the map
unfoldable pub shown_with : Bool → Node → (fresh : ℕ) → Map → Result ShownAnswer Node
shown_with lent n fresh m = cond (not lent) (gives (shown_refused malformed) n) (on_map n fresh m)

-- map shown, where nothing but the node and the map are lent
unfoldable pub call_shown : Node → (fresh : ℕ) → Map → Result ShownAnswer Node
call_shown n fresh m = shown_with (well_formed_header n and well_formed_map m) n fresh m
