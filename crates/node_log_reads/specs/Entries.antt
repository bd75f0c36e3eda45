-- Entries of a log in a lent message (paper 01, 'Bytes on the wire', 22, 'Who is turned down'; shard.rs, entries_from). Definitions only.
use Rattle.std.specs.Prelude.{ℕ, ◌≡◌, not, cond, List, ltb, length}
use Rattle.std.proofs.Math.Option.{some}
use Rattle.spec.specs.Limits.{max_name, max_batch}
use Rattle.spec.specs.Refusals.{undecodable, malformed, no_room}
use Rattle.spec.specs.Log.{entries_from}
use Rattle.spec.specs.Node.Worker.{copy_of}
use Rattle.spec.specs.Node.Calls.{RequestAnswer, request_refused, written_in}
use Rattle.wire_write.specs.Written.{text_fits}
use Rattle.log_store.specs.Store.{Store, store_log}
use Rattle.log_calls.specs.Fits.{lent_fits}
use Rattle.node_send.specs.Requested.{answer_of, left_of, key_named}
use Rattle.node_send.specs.declared.Request.{Request}

-- 21 a name that the layout does not carry, 24, then 23 if a message or the lent output has no room for the answer
unfoldable pub entries_lent : Store → (name : List ℕ) → (shard epoch first limit room : ℕ) → RequestAnswer
entries_lent s name shard epoch first limit room =
    let es = entries_from (store_log s) first limit in
    cond (not (text_fits max_name name)) (request_refused undecodable)
    (cond (not (lent_fits s)) (request_refused malformed)
    (cond (ltb max_batch (length es)) (request_refused no_room) (written_in room (some (copy_of (key_named name shard) epoch es)))))

-- the answer by its words, and the output at exit: the message's bytes from its start, the rest as it was, or all of it as it was
pub record Sent (a : RequestAnswer) (before after : List ℕ) (r : Request) : Type 0 where
  pub answer : r ≡ answer_of a
  pub bytes : after ≡ left_of a before
