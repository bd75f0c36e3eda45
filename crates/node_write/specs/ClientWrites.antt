-- What a client's Write promises at a node (paper 01, 'Who is turned down', Write; 'The node', the count of refused calls): the answer, with
-- paper 01's number and values for each case, the node after, read with the store that the call was lent, and the count are those of the
-- definition. Definitions only.
use Rattle.std.specs.Prelude.{ℕ, ◌≡◌, Bool, true, false, not, List, eqb}
use Rattle.std.proofs.Math.Option.{some}
use Rattle.spec.specs.Keys.{Key}
use Rattle.spec.specs.Refusals.{Refusal, unknown_shard, not_primary, no_lease, too_few_in_sync, undecodable, outside_domain, no_room, malformed, last_epoch, no_worker, number_of}
use Rattle.spec.specs.Layout.Message as message
use Rattle.spec.specs.Node.Wire.{stored_op}
use Rattle.spec.specs.Node.Client as client
use Rattle.spec.specs.Node.Refused.{counted}
use Rattle.spec.specs.Node.Calls as calls
use Rattle.wire_read.specs.Shown.{message_of}
use Rattle.wire_read.specs.declared.WritePart.{WritePart}
use Rattle.wire_read.specs.declared.Message.TheVariants.{Write}
use Rattle.node_shard.specs.declared.Held.{Held}
use Rattle.node_admit.specs.declared.Admit.{Admit}
use Rattle.node_admit.specs.declared.Admit.TheVariants as A
use Rattle.log_store.specs.Store.{Store}
use Rattle.node_log_write.specs.declared.Written.{Written}
use Rattle.node_log_write.specs.Writes.{Writes}
use Rattle.node_header.specs.declared.Node.{Node}
use Rattle.node_header.specs.View.{Stores, view_node, used}
use Rattle.node_header.specs.Formed.{formed_node, slots_fit}
use Rattle.node_header.specs.Slots.{SameSlots}
use Rattle.node_header.specs.Answers.{answered_as}
use Rattle.node_lent.specs.Lend.{LentStore, lent_for, slot_of, Changes, Whole}
use Rattle.node_write.specs.declared.WriteReply.{WriteReply}
use Rattle.node_write.specs.declared.WriteReply.TheVariants as R
use Rattle.node_write.specs.declared.NodeWritten.{NodeWritten}
use Rattle.node_write.specs.declared.WriteAnswer.{WriteAnswer}

-- ---- the answer

-- 18 tells the own epoch, every other refusal its number alone
abbrev pub refusal_word : Refusal → WriteReply
refusal_word unknown_shard = R.Refused (number_of unknown_shard)
refusal_word (not_primary e) = R.NotPrimary (record { 0 = e })
refusal_word no_lease = R.Refused (number_of no_lease)
refusal_word too_few_in_sync = R.Refused (number_of too_few_in_sync)
refusal_word undecodable = R.Refused (number_of undecodable)
refusal_word outside_domain = R.Refused (number_of outside_domain)
refusal_word no_room = R.Refused (number_of no_room)
refusal_word malformed = R.Refused (number_of malformed)
refusal_word last_epoch = R.Refused (number_of last_epoch)
refusal_word no_worker = R.Refused (number_of no_worker)

abbrev pub write_word : client.WriteAnswer → WriteReply
write_word (client.accepted o) = R.Accepted (record { 0 = o })
write_word (client.write_refused r) = refusal_word r

-- a reply with a refusal's number
abbrev pub turned_down : WriteReply → Bool
turned_down (R.Accepted o) = false
turned_down (R.NotPrimary e) = true
turned_down (R.Refused r) = true

-- that number, 0 of an accepted write
abbrev pub number_in : WriteReply → ℕ
number_in (R.Accepted o) = 0
number_in (R.NotPrimary e) = 18
number_in (R.Refused r) = r

-- the reply of an admission, at a log that has `last` entries then
abbrev pub reply_as : Admit → (last : ℕ) → WriteReply
reply_as A.Yes last = R.Accepted (record { 0 = last })
reply_as (A.NotPrimary e) last = R.NotPrimary (record { 0 = e })
reply_as A.NoLease last = R.Refused 19
reply_as A.TooFew last = R.Refused 20
reply_as A.NoRoom last = R.Refused 23

-- ---- the call on one held shard, by the message

abbrev pub IsWrite : List ℕ → WritePart → Type 0
IsWrite b p = message_of b ≡ Write p

abbrev pub WritesMessage : List ℕ → (lease : Bool) → (least : ℕ) → Held → (s t : Store) → Written → Type 0
WritesMessage b lease least h s t r =
    (m : message.Write) → message.decode_write b ≡ some m → Writes h s t m.epoch lease least (stored_op m.op) r

-- ---- the call at a node

-- 23: the shard that the message names, and its slot
abbrev pub WriteNames : List ℕ → Key → Type 0
WriteNames m k = (v : message.Write) → message.decode_write m ≡ some v → k ≡ v.key

abbrev pub WriteSlot : Node → List ℕ → ℕ → Type 0
WriteSlot n m slot = (v : message.Write) → message.decode_write m ≡ some v → slot ≡ slot_of n v.key

-- a call with the columns a, which leaves b, and the reply w with the header p: whatever the other stores hold, they stay, and the lent one
-- becomes the definition's
abbrev pub SameWrite : Node → (a b : LentStore) → (clock least : ℕ) → List ℕ → WriteReply → Node → Type 0
SameWrite n a b clock least m w p =
    (s t : Stores) (slot : ℕ) → WriteSlot n m slot → Changes s t slot a b
    → record { answer = w; node = view_node t p } ≡ answered_as write_word (calls.write_with (lent_for s n a) (view_node s n) clock least m)

-- refused, it leaves every place of the columns and of the header as it was, the free ones too
abbrev pub KeptWrite : Node → (a b : LentStore) → WriteReply → Node → Type 0
KeptWrite n a b w p = turned_down w ≡ true → (b ≡ a) × (p ≡ n)

-- no two shards come to have one store
abbrev pub SlotsWrite : (n p : Node) → Type 0
SlotsWrite n p = formed_node n ≡ true → slots_fit (used p) ≡ true

-- accepted, it leaves the store of the shard well formed
abbrev pub WholeWrite : Node → (b : LentStore) → List ℕ → WriteReply → Node → Type 0
WholeWrite n b m w p = turned_down w ≡ false → (k : Key) → WriteNames m k → Whole n p b k

-- internal: before the call is counted; each shard has the slot that it had, and a reply is turned down where it has a number
pub record Serves (n : Node) (a b : LentStore) (clock least : ℕ) (m : List ℕ) (r : NodeWritten) : Type 0 where
  pub same : SameWrite n a b clock least m r.answer r.node
  pub kept : KeptWrite n a b r.answer r.node
  pub slots_are : SameSlots n r.node
  pub slots : SlotsWrite n r.node
  pub whole : WholeWrite n b m r.answer r.node
  pub listed : not (eqb (number_in r.answer) 0) ≡ turned_down r.answer

-- each shard has the slot that it had. `before` is the count of refused calls: one more for each refused call, 21 to 24 included, up to the
-- largest u32
pub record WritesAt (n : Node) (a b : LentStore) (clock least : ℕ) (m : List ℕ) (before : ℕ) (r : WriteAnswer) : Type 0 where
  pub same : SameWrite n a b clock least m r.answer r.node
  pub kept : KeptWrite n a b r.answer r.node
  pub slots_are : SameSlots n r.node
  pub slots : SlotsWrite n r.node
  pub whole : WholeWrite n b m r.answer r.node
  pub count : r.refused ≡ counted before (turned_down r.answer)
