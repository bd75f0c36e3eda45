-- What an ack on one held shard promises: the answer, with paper 01's number for each case, and the shard after, are those of the
-- definition, whatever the shard's key, log and vectors are. Definitions only.
use Rattle.std.specs.Prelude.{ℕ, Bool, cond, not, ◌≡◌, length}
use Rattle.spec.specs.Keys.{Key}
use Rattle.spec.specs.Log.{Log, Vectors}
use Rattle.spec.specs.Refusals.{undecodable, malformed, number_of}
use Rattle.spec.specs.Layout.Message as message
use Rattle.spec.specs.Node.Held as held
use Rattle.spec.specs.Node.Shards as shards
use Rattle.spec.specs.Node.Ack as ack
use Rattle.node_shard.specs.declared.Held.{Held}
use Rattle.node_shard.specs.declared.Sent.{Sent}
use Rattle.node_shard.specs.declared.Sent.TheVariants as S
use Rattle.node_shard.specs.declared.Reply.{Reply}
use Rattle.node_shard.specs.declared.Reply.TheVariants as R
use Rattle.node_shard.specs.declared.Deed.{Deed}
use Rattle.node_shard.specs.declared.Deed.TheVariants as D
use Rattle.node_shard.specs.declared.AckAnswer.{AckAnswer}
use Rattle.node_shard.specs.declared.AckAnswer.TheVariants as A
use Rattle.node_shard.specs.declared.Acked.{Acked}
use Rattle.node_shard.specs.Formed.{formed_held}
use Rattle.node_shard.specs.View.{view_held}

-- 'Bytes on the wire': 30 Stored, 31 Gap, 32 StaleEpoch, 33 Adopted
abbrev pub reply_of : Reply → message.Reply
reply_of (R.Stored n) = message.reply_stored n
reply_of (R.Gap n) = message.reply_gap n
reply_of (R.Stale n) = message.reply_stale n
reply_of (R.Adopted n) = message.reply_adopted n

-- 'Ack': the step replied to
abbrev pub sent_of : Sent → ack.Sent
sent_of S.Align = ack.sent_align
sent_of S.Replicate = ack.sent_replicate
sent_of S.Copy = ack.sent_copy

abbrev pub deed_word : ack.Deed → Deed
deed_word ack.nothing = D.Nothing
deed_word ack.step_down = D.StepDown
deed_word ack.unalign = D.Unalign
deed_word (ack.record_ack t a) = D.Record t a

unfoldable pub does_deed : Sent → Reply → ℕ → Deed
does_deed s r epoch = deed_word (ack.deed_of (sent_of s) (reply_of r) epoch)

abbrev pub Demotes : Held → Held → Type 0
Demotes h r = (k : Key) (l : Log) (v : Vectors) → view_held k l v r ≡ shards.demoted (view_held k l v h)

abbrev pub ack_word : ack.AckAnswer → AckAnswer
ack_word ack.noted = A.Noted
ack_word ack.expand = A.Expand
ack_word (ack.ack_refused r) = A.Refused (number_of r)

-- what the caller of an ack gets
pub record AckAnswered : Type 0 where
  pub answer : AckAnswer
  pub held : held.Held

abbrev pub ack_answered : shards.Result ack.AckAnswer held.Held → AckAnswered
ack_answered r = record { answer = ack_word r.answer; held = r.after }

abbrev pub view_acked : Key → Log → Vectors → Acked → AckAnswered
view_acked k l v r = record { answer = r.answer; held = view_held k l v r.held }

-- internal: past the checks
abbrev pub AcksHeld : Held → (epoch peer : ℕ) → Sent → Reply → Acked → Type 0
AcksHeld h epoch peer s a r =
    (k : Key) (l : Log) (v : Vectors) → length l ≡ h.last
    → view_acked k l v r ≡ ack_answered (ack.ack_held epoch peer (sent_of s) (reply_of a) (view_held k l v h))

-- 'Ack': 21, 24, then the ack
unfoldable pub ack_call : (lent : Bool) → (epoch peer : ℕ) → ack.Sent → message.Reply → held.Held → shards.Result ack.AckAnswer held.Held
ack_call lent epoch peer s a h =
    cond (ack.bad_reply a) (shards.gives (ack.ack_refused undecodable) h)
    (cond (not lent) (shards.gives (ack.ack_refused malformed) h)
    (ack.ack_held epoch peer s a h))

abbrev pub Acks : Held → (epoch peer : ℕ) → Sent → Reply → Acked → Type 0
Acks h epoch peer s a r =
    (k : Key) (l : Log) (v : Vectors) → length l ≡ h.last
    → view_acked k l v r ≡ ack_answered (ack_call (formed_held h) epoch peer (sent_of s) (reply_of a) (view_held k l v h))
