-- The images that each of a primary's messages leaves are read as the node of its definition: what the call promises of families of stores, of
-- the slots and of the columns, and what its definition keeps of a log. Assumes nothing.
use Prim.Native.Nat.{ℕ, ◌<◌}
use mathlib.Core.Path.{◌≡◌, sym, ap, subst, ◌∙◌}
use mathlib.Core.Bool.{Bool, true, false, cond}
use mathlib.Core.List.{List}
use mathlib.Core.Option.{some}
use lib.Dec.{ltb}
use lib.ListN.{length}
use borrow.Author.Tests.{ltb-false}
use Rattle.spec.specs.Keys.{Key}
use Rattle.spec.specs.Layout.Format.{Bytes}
use Rattle.spec.specs.Layout.Message.{Replicated, NewEpoch, Copied}
use Rattle.spec.specs.Node.Held as held
use Rattle.spec.specs.Node.Shards.{Result, held_shard}
use Rattle.spec.specs.Node.Backup.{BackupAnswer, backup_refused}
use Rattle.spec_laws.proofs.Lists.{not_both}
use Rattle.spec_retained.proofs.Calls.{replicate_retains, copy_retains, new_epoch_retains}
use Rattle.spec_retained.proofs.Lent.{Refuses, replicate_unlent, copy_unlent, new_epoch_unlent}
use Rattle.spec_retained.proofs.Begin.{new_epoch_begins}
use Rattle.node_header.specs.declared.Node.{Node}
use Rattle.node_header.specs.View.{Stores, view_node}
use Rattle.node_header.specs.Slots.{slots_of}
use Rattle.node_header.specs.Answers.{Answered}
use Rattle.node_header.proofs.Lists.{by_case}
use Rattle.image_header.specs.Image.{node_at}
use Rattle.node_lent.specs.Lend.{LentStore, place_of, slot_of, lent_for, Changes, Whole}
use Rattle.image_node.specs.Lent.{lends_state, holds_key, lent_store_in, Puttable, Puts}
use Rattle.image_node.specs.State.{StateAfter}
use Rattle.image_node.proofs.Put.{puttable}
use Rattle.image_node.proofs.Lent.{same_state, begun_state}
use Rattle.node_replicate.specs.declared.PeerReply.{PeerReply}
use Rattle.node_replicate.specs.declared.PeerAnswer.{PeerAnswer}
use Rattle.node_replicate.specs.Peers.{word, turned_down, Serves, ReplicateNames, ReplicateSlot, ReplicatesAt, CopyNames, CopySlot, CopiesAt}
use Rattle.node_epoch.specs.NewEpochs.{NewEpochNames, NewEpochSlot, slots_with, slots_then, NewEpochsAt}
use Rattle.calls_peer.specs.PeerCalls.{replicates, announces, copies}

module _ (m h s h' s' : List ℕ) (k : Key) (y : LentStore) (a : PeerAnswer) (lends : lends_state h s k ≡ true) (bytes : holds_key (node_at h) k ≡ true → Bytes s)
    (stands : turned_down a.answer ≡ false) (puts : Puts h h' s s' (node_at h) a.node y (place_of (node_at h) k)) where
  abbrev n : Node
  n = node_at h

  abbrev x : LentStore
  x = lent_store_in s n k

  may : Whole n a.node y k → Puttable s n a.node y (place_of n k)
  may w = puttable h s k a.node y lends w

  -- ---- what a call promises, at its shard's slot

  module _ (does : (Key → Bool) → held.Node → Result BackupAnswer held.Node) (at : ℕ → Type 0) (names : Key → Type 0) (slotted : PeerReply → Node → Type 0)
      (d : Serves does at names slotted n x y a) (slot : at (slot_of n k)) where
    said : (z t : Stores) → Changes z t (slot_of n k) x y → view_node t a.node ≡ (does (lent_for z n x) (view_node z n)).after
    said z t c = ap (λ (v : Answered PeerReply). v.node) (d.same z t (slot_of n k) slot c)

    -- what stands was not refused
    unrefused : (z t : Stores) → Changes z t (slot_of n k) x y → Refuses (does (lent_for z n x) (view_node z n)) → ⊥
    unrefused z t c r =
        not_both (turned_down a.answer)
        (ap turned_down (ap (λ (v : Answered PeerReply). v.answer) (d.same z t (slot_of n k) slot c) ∙ ap word r.1)) stands

  -- ---- 20

  pub replicate_state : ReplicateNames m k → ReplicatesAt n x y m a → StateAfter BackupAnswer (replicates m) h s h' s' k (slots_of a.node)
  replicate_state names d =
      let slot : ReplicateSlot n m (slot_of n k) = λ v e. ap (slot_of n) (names v e) in
      same_state (replicates m) h s h' s' k a.node y lends bytes (said (replicates m) _ _ _ d slot)
      (λ z t c e.
      unrefused (replicates m) _ _ _ d slot z t c
      (replicate_unlent (view_node z n) (lent_for z n x) m (λ w q. subst (λ (j : Key). lent_for z n x j ≡ false) (names w q) e)))
      d.slots puts d.slots_are (may (d.whole stands k names)) (λ f v g q. replicate_retains v f m)

  -- ---- 22

  pub copy_state : CopyNames m k → CopiesAt n x y m a → StateAfter BackupAnswer (copies m) h s h' s' k (slots_of a.node)
  copy_state names d =
      let slot : CopySlot n m (slot_of n k) = λ v e. ap (slot_of n) (names v e) in
      same_state (copies m) h s h' s' k a.node y lends bytes (said (copies m) _ _ _ d slot)
      (λ z t c e.
      unrefused (copies m) _ _ _ d slot z t c
      (copy_unlent (view_node z n) (lent_for z n x) m (λ w q. subst (λ (j : Key). lent_for z n x j ≡ false) (names w q) e)))
      d.slots puts d.slots_are (may (d.whole stands k names)) (λ f v g q. copy_retains v f m)

  -- ---- 21

  pub new_epoch_state : 0 < length y.keys → 0 < length y.places → NewEpochNames m k → NewEpochsAt n x y m a
      → StateAfter BackupAnswer (announces m) h s h' s' k (slots_of a.node)
  unfolding slots_then
  new_epoch_state keys places names d =
      let slot : NewEpochSlot n m (slot_of n k) = λ v e. ap (slot_of n) (names v e) in
      let said₁ = said (announces m) _ _ _ d slot in
      let lent : (z t : Stores) → Changes z t (slot_of n k) x y → lent_for z n x k ≡ false → ⊥ =
      λ z t c e.
      unrefused (announces m) _ _ _ d slot z t c
      (new_epoch_unlent (view_node z n) (lent_for z n x) m (λ w q. subst (λ (j : Key). lent_for z n x j ≡ false) (names w q) e)) in
      let slots_are : slots_of a.node ≡ cond (ltb (place_of n k) n.count) (slots_of n) (slots_with n k) =
      d.slots_are k names ∙ ap (λ (b : Bool). cond b (slots_of n) (cond (ltb (place_of n k) n.count) (slots_of n) (slots_with n k))) stands in
      by_case (ltb (place_of n k) n.count)
      (λ e.
      same_state (announces m) h s h' s' k a.node y lends bytes said₁ lent d.slots puts
      (slots_are ∙ ap (λ (b : Bool). cond b (slots_of n) (slots_with n k)) e) (may (d.whole stands k names))
      (λ f v g q. new_epoch_retains v f m (λ w i. (g, subst (λ (j : Key). held_shard v j ≡ some g) (names w i) q))))
      (λ e.
      begun_state (announces m) h s h' s' k a.node y lends bytes said₁ lent d.slots puts
      (ltb-false (place_of n k) n.count e) (slots_are ∙ ap (λ (b : Bool). cond b (slots_of n) (slots_with n k)) e) keys places
      (λ f v q. new_epoch_begins v f k m names q))
