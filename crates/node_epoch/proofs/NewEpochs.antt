-- Laws of NewEpoch at a node, beside those of every message of a primary. Assumes nothing.
use Prim.Native.Nat.{ℕ, ◌<◌, ◌≤◌}
use mathlib.Core.Path.{◌≡◌, refl, sym, ap, subst, ◌∙◌}
use mathlib.Core.Bool.{true}
use mathlib.Core.List.{List}
use mathlib.Core.Option.{Option, none, some}
use lib.ListN.{length}
use Rattle.spec.specs.Keys.{Key}
use Rattle.spec.specs.Layout.Message as message
use Rattle.spec.specs.Node.Held as held
use Rattle.spec.specs.Node.Shards.{held_shard}
use Rattle.spec.specs.Node.Backup.{new_epoch_held, begin_epoch, new_epoch_at, on_new_epoch}
use Rattle.spec.specs.Node.Calls as calls
use Rattle.node_shard.specs.declared.Held.{Held}
use Rattle.log_store.specs.Store.{Store}
use Rattle.wire_read.specs.Shown.{message_of}
use Rattle.wire_read.specs.declared.NewEpochPart.{NewEpochPart}
use Rattle.wire_read.specs.declared.Message.TheVariants.{NewEpoch}
use Rattle.wire_read.proofs.Decoded.{new_epoch_decoded}
use Rattle.log_arrive.proofs.Messages.{new_epoch_part_lem}
use Rattle.node_log_backup.specs.declared.Backed.{Backed}
use Rattle.node_log_backup.specs.Backs.{Backs, TakesNewEpoch}
use Rattle.node_header.specs.declared.Node.{Node}
use Rattle.node_header.specs.View.{Stores, view_node}
use Rattle.node_header.specs.Slots.{slots_of}
use Rattle.node_header.specs.Answers.{answered_as}
use Rattle.map_names.specs.Texts.{key_in}
use Rattle.node_lent.specs.declared.Lent as found
use Rattle.node_lent.specs.declared.Lent.TheVariants as L
use Rattle.node_lent.specs.Lend.{LentStore, place_of, slot_of, Finds}
use Rattle.node_replicate.specs.declared.PeerReply.TheVariants as P
use Rattle.node_replicate.specs.declared.PeerAnswer.{PeerAnswer}
use Rattle.node_replicate.specs.Peers.{word, view_peer}
use Rattle.node_replicate.proofs.Peers.{unchanged, at_of, Reading, absent}
use Rattle.node_epoch.specs.NewEpochs.{NewEpochNames, NewEpochSlot, slots_then, NewEpochSlots, NewEpochsAt, BeginsAt}
use Rattle.node_epoch.proofs.Named.{new_epoch_key}
use Rattle.node_epoch.proofs.Slots.{then_down, then-held, then-absent}

module _ (n : Node) (m : List ℕ) where
  pub undecoded : (a : LentStore) → message.decode_new_epoch m ≡ none → NewEpochsAt n a a m (record { answer = P.Refused 21; node = n })
  unfolding calls.new_epoch_with
  undecoded a d =
      unchanged (λ lent v. calls.new_epoch_with lent v m) (NewEpochSlot n m) (NewEpochNames m) (NewEpochSlots n m) n a (P.Refused 21) refl
      (λ k l. sym (then_down n k (P.Refused 21) refl)) (λ s. rw d)

  module _ (p : NewEpochPart) (i : message_of m ≡ NewEpoch p) where
    abbrev r : message.NewEpoch
    r = (new_epoch_decoded m p i).read

    -- no component has to lie in the domain
    pub reads : Reading (λ lent v. calls.new_epoch_with lent v m) (NewEpochSlot n m) (NewEpochNames m) (NewEpochSlots n m) n (key_in m p.key) true
        (λ v. on_new_epoch v (key_in m p.key) r.epoch r.end r.table r.metric)
        (new_epoch_held r.epoch r.end r.table)
    unfolding calls.new_epoch_with on_new_epoch
    reads =
        let d : message.decode_new_epoch m ≡ some r = (new_epoch_decoded m p i).decoded in
        let named : (k : Key) → NewEpochNames m k → k ≡ key_in m p.key = λ k l. l r d ∙ sym (new_epoch_key m p i r d) in
        record {
          shape = λ lent v.
              rw d
              (ap (λ (k : Key). at_of lent v k true (on_new_epoch v k r.epoch r.end r.table r.metric)) (sym (new_epoch_key m p i r d)));
          there = λ v h e. ap (new_epoch_at v (key_in m p.key) r.epoch r.end r.table r.metric) e;
          slot = λ j l. l r d ∙ ap (slot_of n) (sym (new_epoch_key m p i r d));
          named = named;
          down = λ w e k l. sym (then_down n k w e);
          stay = λ under w q e k l. e ∙ sym (then-held n k w (subst (λ (x : Key). place_of n x < n.count) (sym (named k l)) under));
        }

    pub backs : (h : Held) (s t : Store) (b : Backed) → TakesNewEpoch m h s t b → Backs (new_epoch_held r.epoch r.end r.table) h s t b
    backs h s t b d = d r (new_epoch_decoded m p i).decoded

    -- a shard that is not held begins as the definition says
    begins_as : (k : Key) → k ≡ key_in m p.key → (b : PeerAnswer) → BeginsAt n k p.epoch.0 p.metric b
        → n.count ≤ length n.held → (s : Stores) → held_shard (view_node s n) (key_in m p.key) ≡ none
        → view_peer s b ≡ answered_as word (on_new_epoch (view_node s n) (key_in m p.key) r.epoch r.end r.table r.metric)
    unfolding on_new_epoch
    begins_as k named b d le s o =
        let key = key_in m p.key in
        let v = view_node s n in
        (subst (λ (x : Key). BeginsAt n x p.epoch.0 p.metric b) named d).same le s o r.end r.table
        ∙ ap (λ (x : NewEpochPart). answered_as word (begin_epoch v key x.epoch.0 r.end r.table x.metric))
        (new_epoch_part_lem m p i r (new_epoch_decoded m p i).decoded)
        ∙ ap (λ (x : Option held.Held). answered_as word (new_epoch_at v key r.epoch r.end r.table r.metric x)) (sym o)

    pub began : (a : LentStore) (k : Key) → k ≡ key_in m p.key → (f : found.Lent) → Finds n k a f → f ≡ L.Absent
        → (b : PeerAnswer) → BeginsAt n k p.epoch.0 p.metric b → NewEpochsAt n a a m b
    began a k named f finds e b d =
        absent _ _ _ _ n a _ true _ _ reads true refl refl k named f finds e b.answer b.node (begins_as k named b d) d.slots
        (λ x l.
        subst (λ (y : Key). slots_of b.node ≡ slots_then n y b.answer) (named ∙ sym (reads.named x l))
        (d.slots_are ∙ sym (then-absent n k b.answer (subst (Finds n k a) e finds).gone)))
        d.kept
