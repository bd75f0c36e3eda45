-- What NewEpoch promises at a node: the answer, with paper 01's number and value for each case, and the node after, read with the store
-- that the call was lent, are those of the definition. Definitions only.
use Rattle.std.specs.Prelude.{ℕ, ◌≤◌, ◌≡◌, true, cond, List, ltb, length}
use Rattle.std.proofs.Math.Option.{none, some}
use Rattle.spec.specs.Lists.{lead}
use Rattle.spec.specs.Keys.{Key}
use Rattle.spec.specs.Log.{End}
use Rattle.spec.specs.Layout.Message.{NewEpoch, decode_new_epoch}
use Rattle.spec.specs.Node.Shards.{held_shard}
use Rattle.spec.specs.Node.Backup.{begin_epoch}
use Rattle.spec.specs.Node.Calls as calls
use Rattle.spec.specs.declared.Metric.{Metric}
use Rattle.node_shard.specs.View.{insert_at}
use Rattle.node_header.specs.declared.Node.{Node}
use Rattle.node_header.specs.View.{Stores, view_node, used}
use Rattle.node_header.specs.Formed.{slots_fit}
use Rattle.node_header.specs.Slots.{slots_of}
use Rattle.node_header.specs.Grow.{lowest_free, below_key}
use Rattle.node_header.specs.Answers.{answered_as}
use Rattle.node_lent.specs.Lend.{LentStore, place_of, slot_of}
use Rattle.node_replicate.specs.declared.PeerReply.{PeerReply}
use Rattle.node_replicate.specs.declared.PeerAnswer.{PeerAnswer}
use Rattle.node_replicate.specs.Peers.{word, turned_down, view_peer, Serves}

-- 21: the shard that the message names, and its slot, or that in which it begins
abbrev pub NewEpochNames : List ℕ → Key → Type 0
NewEpochNames m k = (v : NewEpoch) → decode_new_epoch m ≡ some v → k ≡ v.key

abbrev pub NewEpochSlot : Node → List ℕ → ℕ → Type 0
NewEpochSlot n m slot = (v : NewEpoch) → decode_new_epoch m ≡ some v → slot ≡ slot_of n v.key

-- the slots with that in which a shard of the key begins: the lowest that is free, behind those of the shards below it
abbrev pub slots_with : Node → Key → List ℕ
slots_with n k = insert_at (slots_of n) (lead (below_key k) (used n)) (lowest_free (used n))

-- the slots after an answer: as they were where the call is turned down or the shard is held, and otherwise it begins
unfoldable pub slots_then : Node → Key → PeerReply → List ℕ
slots_then n k w = cond (turned_down w) (slots_of n) (cond (ltb (place_of n k) n.count) (slots_of n) (slots_with n k))

abbrev pub NewEpochSlots : Node → List ℕ → PeerReply → Node → Type 0
NewEpochSlots n m w p = (k : Key) → NewEpochNames m k → slots_of p ≡ slots_then n k w

abbrev pub NewEpochsAt : Node → (a b : LentStore) → List ℕ → PeerAnswer → Type 0
NewEpochsAt n a b m r = Serves (λ lent v. calls.new_epoch_with lent v m) (NewEpochSlot n m) (NewEpochNames m) (NewEpochSlots n m) n a b r

-- internal: a shard that is not held, past the checks; no store is read or changed
pub record BeginsAt (n : Node) (key : Key) (epoch : ℕ) (metric : Metric) (r : PeerAnswer) : Type 0 where
  pub same : n.count ≤ length n.held → (s : Stores) → held_shard (view_node s n) key ≡ none → (end : ℕ) (table : List End)
      → view_peer s r ≡ answered_as word (begin_epoch (view_node s n) key epoch end table metric)
  pub slots_are : slots_of r.node ≡ cond (turned_down r.answer) (slots_of n) (slots_with n key)
  pub slots : slots_fit (used n) ≡ true → slots_fit (used r.node) ≡ true
  pub kept : turned_down r.answer ≡ true → r.node ≡ n
