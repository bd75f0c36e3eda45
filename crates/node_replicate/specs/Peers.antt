-- What a primary's messages promise at a node: the answer, with paper 01's number and value for each case, and the node after, read with
-- the store that the call was lent, are those of the definition. Definitions only.
use Rattle.std.specs.Prelude.{ℕ, ◌≡◌, Bool, true, false, List}
use Rattle.std.proofs.Math.Option.{some}
use Rattle.spec.specs.Keys.{Key}
use Rattle.spec.specs.Refusals.{number_of}
use Rattle.spec.specs.Layout.Message.{reply_stored, reply_gap, reply_stale, reply_adopted, Replicated, decode_replicate, Copied, decode_copy_shard}
use Rattle.spec.specs.Node.Held as held
use Rattle.spec.specs.Node.Shards.{Result}
use Rattle.spec.specs.Node.Backup.{BackupAnswer, replied, backup_refused}
use Rattle.spec.specs.Node.Calls as calls
use Rattle.node_header.specs.declared.Node.{Node}
use Rattle.node_header.specs.View.{Stores, view_node, used}
use Rattle.node_header.specs.Formed.{formed_node, slots_fit}
use Rattle.node_header.specs.Slots.{SameSlots}
use Rattle.node_header.specs.Answers.{Answered, answered_as}
use Rattle.node_replicate.specs.declared.PeerReply.{PeerReply}
use Rattle.node_replicate.specs.declared.PeerReply.TheVariants as P
use Rattle.node_replicate.specs.declared.PeerAnswer.{PeerAnswer}
use Rattle.node_lent.specs.Lend.{LentStore, lent_for, slot_of, Changes, Whole}

-- 'Bytes on the wire', 30 to 33; 'Who is turned down', the number of a refusal
abbrev pub word : BackupAnswer → PeerReply
word (replied (reply_stored o)) = P.Stored (record { 0 = o })
word (replied (reply_gap o)) = P.Gap (record { 0 = o })
word (replied (reply_stale e)) = P.StaleEpoch (record { 0 = e })
word (replied (reply_adopted o)) = P.Adopted (record { 0 = o })
word (backup_refused r) = P.Refused (number_of r)

-- StaleEpoch and the refusals
abbrev pub turned_down : PeerReply → Bool
turned_down (P.Stored o) = false
turned_down (P.Gap o) = false
turned_down (P.StaleEpoch e) = true
turned_down (P.Adopted o) = false
turned_down (P.Refused r) = true

abbrev pub view_peer : Stores → PeerAnswer → Answered PeerReply
view_peer t r = record { answer = r.answer; node = view_node t r.node }

-- a call with the columns a, which leaves b, in a slot of which `lends` says that it is the shard's which the message names, as `names` says
-- of its key: whatever the other stores hold, they stay, and the lent one becomes the definition's. Turned down, it leaves every place of
-- the columns and of the header as it was, the free ones too. Which slot each shard has after an answer is `slotted`; no two come to have one
-- store. Not turned down, it leaves the store of a shard that was held well formed
pub record Serves (call : (Key → Bool) → held.Node → Result BackupAnswer held.Node) (lends : ℕ → Type 0) (names : Key → Type 0)
    (slotted : PeerReply → Node → Type 0) (n : Node) (a b : LentStore) (r : PeerAnswer) : Type 0 where
  pub same : (s t : Stores) (slot : ℕ) → lends slot → Changes s t slot a b → view_peer t r ≡ answered_as word (call (lent_for s n a) (view_node s n))
  pub kept : turned_down r.answer ≡ true → (b ≡ a) × (r.node ≡ n)
  pub slots_are : slotted r.answer r.node
  pub slots : formed_node n ≡ true → slots_fit (used r.node) ≡ true
  pub whole : turned_down r.answer ≡ false → (k : Key) → names k → Whole n r.node b k

-- each shard has the slot that it had, whatever the answer
abbrev pub SlotsGiven : Node → PeerReply → Node → Type 0
SlotsGiven n w p = SameSlots n p

-- 20: the shard that the message names, and its slot
abbrev pub ReplicateNames : List ℕ → Key → Type 0
ReplicateNames m k = (v : Replicated) → decode_replicate m ≡ some v → k ≡ v.key

abbrev pub ReplicateSlot : Node → List ℕ → ℕ → Type 0
ReplicateSlot n m slot = (v : Replicated) → decode_replicate m ≡ some v → slot ≡ slot_of n v.key

abbrev pub ReplicatesAt : Node → (a b : LentStore) → List ℕ → PeerAnswer → Type 0
ReplicatesAt n a b m r = Serves (λ lent v. calls.replicate_with lent v m) (ReplicateSlot n m) (ReplicateNames m) (SlotsGiven n) n a b r

-- 22
abbrev pub CopyNames : List ℕ → Key → Type 0
CopyNames m k = (v : Copied) → decode_copy_shard m ≡ some v → k ≡ v.key

abbrev pub CopySlot : Node → List ℕ → ℕ → Type 0
CopySlot n m slot = (v : Copied) → decode_copy_shard m ≡ some v → slot ≡ slot_of n v.key

abbrev pub CopiesAt : Node → (a b : LentStore) → List ℕ → PeerAnswer → Type 0
CopiesAt n a b m r = Serves (λ lent v. calls.copy_with lent v m) (CopySlot n m) (CopyNames m) (SlotsGiven n) n a b r
