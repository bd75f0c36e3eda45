-- A primary's call on the images of a node that holds the shard, by what it does on the columns that they are read into: the contract of its
-- entry point. Assumes nothing.
use Prim.Native.Nat.{ℕ}
use mathlib.Core.Path.{◌≡◌, sym, ap, subst, ◌∙◌}
use mathlib.Core.Bool.{Bool, true, false}
use mathlib.Core.List.{List}
use mathlib.Core.Option.{some}
use Rattle.spec.specs.Keys.{Key}
use Rattle.spec.specs.Layout.Format.{Bytes}
use Rattle.spec.specs.Node.Held as held
use Rattle.spec.specs.Node.Shards.{held_shard}
use Rattle.spec.specs.Node.Backup.{BackupAnswer}
use Rattle.spec_laws.proofs.Lists.{not_both}
use Rattle.spec_retained.specs.Retained.{CarriesAll}
use Rattle.node_header.specs.declared.Node.{Node}
use Rattle.node_header.specs.View.{Stores, view_node, used}
use Rattle.node_header.specs.Formed.{slots_fit}
use Rattle.node_header.specs.Slots.{slots_of, SameSlots}
use Rattle.node_header.specs.Answers.{Answered}
use Rattle.image_header.specs.Image.{node_at, header_written}
use Rattle.node_lent.specs.Lend.{LentStore, place_of, lent_for, slot_of, Changes}
use Rattle.image_node.specs.Lent.{lent_store_in, lends_state, Puts}
use Rattle.image_node.specs.State.{StateAfter}
use Rattle.image_node.proofs.Put.{puttable}
use Rattle.image_node.proofs.Lent.{same_state}
use Rattle.node_replicate.specs.declared.PeerReply.{PeerReply}
use Rattle.node_replicate.specs.declared.PeerAnswer.{PeerAnswer}
use Rattle.node_replicate.specs.Peers.{turned_down, Serves}
use Rattle.calls_peer_out.specs.Ends.{ended, ended_as}
use Rattle.calls_peer.specs.PeerCalls.{Deed, buffers, Passed, AtShard}
use Rattle.thm_one_node.proofs.Map.{key}

-- the call m of the node n, on the images h and s, which leaves p and the columns y in h' and s'
pub record Facts (does : Deed) (at : Node → List ℕ → ℕ → Type 0) (names : List ℕ → Key → Type 0) (slotted : Node → List ℕ → PeerReply → Node → Type 0) (m h s h' s' : List ℕ) (y : LentStore)
    (a : PeerAnswer) (n : Node) : Type 0 where
  pub called : Serves (does m) (at n m) (names m) (slotted n m) n (lent_store_in s n key) y a
  pub slot : at n m (slot_of n key)
  pub passes : (z : Stores) → lent_for z n (lent_store_in s n key) key ≡ true
  pub slots_are : SameSlots n a.node
  pub puts : Puts h h' s s' n a.node y (place_of n key)

module _ (does : Deed) (at : Node → List ℕ → ℕ → Type 0) (names : List ℕ → Key → Type 0) (slotted : Node → List ℕ → PeerReply → Node → Type 0) (m h s t h' s' t' : List ℕ) (y : LentStore)
    (a : PeerAnswer) (n : Node) (is : node_at h ≡ n) (lends : lends_state h s key ≡ true) (bytes : Bytes s) (named : names m key) (stands : turned_down a.answer ≡ false)
    (sits : slots_fit (used a.node) ≡ true) (carries : (f : Key → Bool) (v : held.Node) (g : held.Held) → held_shard v key ≡ some g → CarriesAll v (does m f v).after)
    (facts : Facts does at names slotted m h s h' s' y a n) (ends : ended 0 (buffers h' s' t') ≡ ended_as (buffers h s t) h' s' a.answer) where
  abbrev v : Node
  v = node_at h

  here : Facts does at names slotted m h s h' s' y a v
  here = subst (Facts does at names slotted m h s h' s' y a) (sym is) facts

  said : (z u : Stores) → Changes z u (slot_of v key) (lent_store_in s v key) y → view_node u a.node ≡ (does m (lent_for z v (lent_store_in s v key)) (view_node z v)).after
  said z u c = ap (λ (w : Answered PeerReply). w.node) (here.called.same z u (slot_of v key) here.slot c)

  state : StateAfter BackupAnswer (does m) h s h' s' key (slots_of a.node)
  state =
      same_state (does m) h s h' s' key a.node y lends (λ e. bytes) said (λ z u c e. not_both (lent_for z v (lent_store_in s v key) key) (here.passes z) e)
      (λ e. sits) here.puts here.slots_are (puttable h s key a.node y lends (here.called.whole stands key named)) carries

  passed : Passed (λ n a b m r. Serves (does m) (at n m) (names m) (slotted n m) n a b r) does key m (buffers h s t) (buffers h' s' t') 0
  passed = record {
    after = a;
    columns = y;
    called = here.called;
    ends =
        ends
        ∙ ap (λ (i : List ℕ). ended_as (buffers h s t) i s' a.answer) here.puts.header
        ∙ ap (λ (i : List ℕ). ended_as (buffers h s t) (header_written h a.node) i a.answer) here.puts.stores;
    state = λ f z. state;
  }

  pub at-shard : AtShard (λ n a b m r. Serves (does m) (at n m) (names m) (slotted n m) n a b r) does key m (buffers h s t) (buffers h' s' t') 0
  at-shard = record { unlent = λ e. not_both (lends_state h s key) lends e; lent = λ e. passed }
