-- What an ack over a header's image promises: 21 and 24 as every call, then the contract of the ack on the header that the bytes are read as,
-- its number, and every byte after. Definitions only.
use Rattle.std.specs.Prelude.{ℕ, Bool, true, false, cond, ◌≡◌, List, eqb, ltb}
use Rattle.std.proofs.Math.Option.{Option, none, some}
use Rattle.spec.specs.Lists.{◌or◌}
use Rattle.spec.specs.Layout.Message as message
use Rattle.spec.specs.Node.Held as held
use Rattle.spec.specs.Node.Shards.{Result}
use Rattle.spec.specs.Node.Ack as ack
use Rattle.spec.specs.Node.Calls as calls
use Rattle.node_shard.specs.declared.AckAnswer.{AckAnswer}
use Rattle.node_shard.specs.declared.AckAnswer.TheVariants as A
use Rattle.node_shard.specs.declared.Sent.{Sent}
use Rattle.node_shard.specs.declared.Sent.TheVariants as S
use Rattle.node_shard.specs.Acks.{sent_of}
use Rattle.node_header.specs.declared.NodeAcked.{NodeAcked}
use Rattle.node_header.specs.View.{Stores, view_node}
use Rattle.node_header.specs.Formed.{lent_node}
use Rattle.node_header.specs.Slots.{Keeps}
use Rattle.node_hear.specs.Hears.{HearsReply}
use Rattle.wire_write.specs.Written.{key_given}
use Rattle.image_header.specs.Image.{header_lent, node_at}
use Rattle.calls_header.specs.Asked.{unread_name, Asked, image_after}
use Rattle.calls_header.specs.Leaves.{LeavesSlots, Stays, StaysFormed}

-- the steps' codes: 2 align, 3 replicate, 4 copy
abbrev pub sent_at : ℕ → Sent
sent_at step = cond (eqb step 2) S.Align (cond (eqb step 3) S.Replicate S.Copy)

-- no reply, or one that no peer gives
abbrev pub no_reply : Option message.Reply → Bool
no_reply none = true
no_reply (some r) = ack.bad_reply r

abbrev pub unread_reply : List ℕ → Bool
unread_reply reply = no_reply (message.decode_reply reply)

-- no name, no code of a step, or no reply
abbrev pub unread_ack : List ℕ → ℕ → List ℕ → Bool
unread_ack name step reply = unread_name name (ltb step 2 or ltb 4 step or unread_reply reply)

-- 0 noted, 1 an Expand is to be proposed
abbrev pub ack_number : AckAnswer → ℕ
ack_number A.Noted = 0
ack_number A.Expand = 1
ack_number (A.Refused k) = k

abbrev pub is_acked : AckAnswer → Bool
is_acked A.Noted = true
is_acked A.Expand = true
is_acked (A.Refused k) = false

-- the specification's ack, on the header that the bytes are read as
abbrev pub acked : (s name reply : List ℕ) → (shard epoch peer step : ℕ) → Stores → Result ack.AckAnswer held.Node
acked s name reply shard epoch peer step st =
    calls.ack_with (lent_node st (node_at s)) (view_node st (node_at s)) (key_given name shard) epoch peer (sent_of (sent_at step)) reply

-- the image holds s before and t after
pub record AcksImage (s t name reply : List ℕ) (shard epoch peer step r : ℕ) : Type 0 where
  pub after : NodeAcked
  pub call : HearsReply (node_at s) (key_given name shard) epoch peer (sent_at step) reply after
  pub keeps : Keeps (node_at s) after.node
  pub answer : r ≡ ack_number after.answer
  pub image : t ≡ image_after (is_acked after.answer) s after.node
  pub leaves : is_acked after.answer ≡ true → LeavesSlots s t (λ st. (acked s name reply shard epoch peer step st).after)
  pub stays : is_acked after.answer ≡ false → Stays s t (λ st. (acked s name reply shard epoch peer step st).after)
  pub formed : StaysFormed s t (λ st. (acked s name reply shard epoch peer step st).after)

abbrev pub Acks : (s t name reply : List ℕ) → (shard epoch peer step r : ℕ) → Type 0
Acks s t name reply shard epoch peer step r =
    Asked (unread_ack name step reply) (header_lent s) r (t ≡ s) (AcksImage s t name reply shard epoch peer step r)
