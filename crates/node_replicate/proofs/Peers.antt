-- Laws of the primary's messages at a node, one for each way out. Assumes nothing.
use Prim.Native.Nat.{ℕ, ◌<◌, ◌≤◌}
use mathlib.Core.Path.{◌≡◌, refl, sym, ap, subst, ◌∙◌}
use mathlib.Core.Bool.{Bool, true, false, cond, not}
use mathlib.Core.List.{List, map}
use mathlib.Core.Option.{none, some}
use lib.ListN.{length, get_or}
use Rattle.spec.specs.Lists.{every}
use Rattle.spec.specs.Keys.{Key}
use Rattle.spec.specs.Refusals.{outside_domain, malformed}
use Rattle.spec.specs.Layout.Message as message
use Rattle.spec.specs.Layout.Parts.{WireOp, WireEntry}
use Rattle.spec.specs.Node.Held as held
use Rattle.spec.specs.Node.Shards.{Result, gives, held_shard, at_shard}
use Rattle.spec.specs.Node.Wire.{op_in_domain, entry_in_domain, stored_op, stored_entry}
use Rattle.spec.specs.Node.Backup.{BackupAnswer, backup_refused, unheld, replicate_held, on_replicate, copy_held, on_copy}
use Rattle.spec.specs.Node.Calls as calls
use Rattle.spec_laws.proofs.Lists.{not_both}
use Rattle.spec_laws.proofs.Node.Shards.{at-absent}
use Rattle.node_shard.specs.declared.Held.{Held}
use Rattle.log_store.specs.Store.{Store}
use Rattle.wire_read.specs.Shown.{message_of}
use Rattle.wire_read.specs.declared.ReplicatePart.{ReplicatePart}
use Rattle.wire_read.specs.declared.CopyPart.{CopyPart}
use Rattle.wire_read.specs.declared.Message.TheVariants.{Replicate, CopyShard}
use Rattle.wire_read.proofs.Decoded.{replicate_decoded, copy_decoded}
use Rattle.log_arrive.specs.Parts.{op_in, entries_in}
use Rattle.log_arrive.proofs.Messages.{replicate_op, copy_entries}
use Rattle.node_log_backup.specs.declared.Answer.{Answer}
use Rattle.node_log_backup.specs.declared.Answer.TheVariants as A
use Rattle.node_log_backup.specs.declared.Backed.{Backed}
use Rattle.node_log_backup.specs.Backs.{answered, Backs, Replicates, CopiesShard}
use Rattle.node_log_backup.specs.Backs as backs
use Rattle.node_header.specs.declared.Node.{Node}
use Rattle.node_header.specs.View.{Stores, view_node, used, no_held_row}
use Rattle.node_header.specs.Formed.{slots_fit}
use Rattle.node_header.specs.Slots.{SameSlots}
use Rattle.node_header.specs.Answers.{answered_as}
use Rattle.node_header.proofs.Formed.{header-apart}
use Rattle.node_header.proofs.Shards.{shard-none, shard_some}
use Rattle.node_replicate.specs.declared.PeerReply.{PeerReply}
use Rattle.node_replicate.specs.declared.PeerReply.TheVariants as P
use Rattle.node_lent.specs.declared.Lent.TheVariants as L
use Rattle.node_lent.specs.declared.Lent as found
use Rattle.map_names.specs.Texts.{key_in}
use Rattle.node_lent.specs.Lend.{LentStore, store_in, store_of, place_of, lent_for, slot_of, Finds, Found, with_store, Whole}
use Rattle.node_replicate.specs.Peers.{word, turned_down, Serves, SlotsGiven, ReplicateNames, ReplicateSlot, CopyNames, CopySlot}
use Rattle.node_replicate.proofs.Named.{replicate_key, copy_key}
use Rattle.node_lent.proofs.Lend.{few-held, slot_held, call-store, node-view}
use Rattle.node_lent.proofs.Put.{lent_store_of, put_same, whole-put, whole-gone}
use Rattle.node_lent.proofs.Slots.{slots_kept, slots_are_fit}

-- the lent store and the header stay
pub unchanged : (call : (Key → Bool) → held.Node → Result BackupAnswer held.Node) (lends : ℕ → Type 0) (names : Key → Type 0)
    (slotted : PeerReply → Node → Type 0) (n : Node) (a : LentStore) (w : PeerReply) → turned_down w ≡ true → slotted w n
    → ((s : Stores) → record { answer = w; node = view_node s n } ≡ answered_as word (call (lent_for s n a) (view_node s n)))
    → Serves call lends names slotted n a a (record { answer = w; node = n })
unchanged call lends names slotted n a w down slots_are e = record {
  same = λ s t slot l c. ap (λ (v : held.Node). record { answer = w; node = v }) (node-view s t slot a c n) ∙ e s;
  kept = λ z. (refl, refl);
  slots_are = slots_are;
  slots = header-apart n;
  whole = λ z k i. not_both (turned_down w) down z;
}

-- a reply is turned down where the answer is
turned_as : (r : Answer) → turned_down (word (answered r)) ≡ true → backs.turned_down r ≡ true
turned_as (A.Stored o) e = not_both false e refl
turned_as (A.Gap o) e = not_both false e refl
turned_as (A.StaleEpoch o) e = refl
turned_as (A.Adopted o) e = not_both false e refl
turned_as A.NoRoom e = refl

-- ---- a message that was read: 22 unless `fine`, 24 unless the lent state passes, then `rest`, which at a held shard of the key is `does`

abbrev pub at_of : (Key → Bool) → held.Node → Key → Bool → Result BackupAnswer held.Node → Result BackupAnswer held.Node
at_of lent v k fine rest =
    cond (not fine) (gives (backup_refused outside_domain) v) (cond (not (lent k)) (gives (backup_refused malformed) v) rest)

pub record Reading (call : (Key → Bool) → held.Node → Result BackupAnswer held.Node) (lends : ℕ → Type 0) (names : Key → Type 0)
    (slotted : PeerReply → Node → Type 0) (n : Node) (key : Key) (fine : Bool) (rest : held.Node → Result BackupAnswer held.Node)
    (does : held.Held → Result BackupAnswer held.Held) : Type 0 where
  pub shape : (lent : Key → Bool) (v : held.Node) → call lent v ≡ at_of lent v key fine (rest v)
  pub there : (v : held.Node) (h : held.Held) → held_shard v key ≡ some h → rest v ≡ at_shard v key unheld does
  pub slot : (i : ℕ) → lends i → i ≡ slot_of n key
  pub named : (k : Key) → names k → k ≡ key
  -- turned down, or at a held shard, the slots stay
  pub down : (w : PeerReply) → turned_down w ≡ true → slotted w n
  pub stay : place_of n key < n.count → (w : PeerReply) (p : Node) → SameSlots n p → slotted w p

module _ (call : (Key → Bool) → held.Node → Result BackupAnswer held.Node) (lends : ℕ → Type 0) (names : Key → Type 0)
    (slotted : PeerReply → Node → Type 0) (n : Node) (a : LentStore) (key : Key) (fine : Bool) (rest : held.Node → Result BackupAnswer held.Node)
    (does : held.Held → Result BackupAnswer held.Held) (z : Reading call lends names slotted n key fine rest does) where
  -- what holds of the key, of each that the message names
  of_named : (p : Node) (b : LentStore) → Whole n p b key → (k : Key) → names k → Whole n p b k
  of_named p b w k i = subst (Whole n p b) (sym (z.named k i)) w

  pub outside : (b : Bool) → b ≡ fine → b ≡ false → Serves call lends names slotted n a a (record { answer = P.Refused 22; node = n })
  outside b q e =
      unchanged call lends names slotted n a (P.Refused 22) refl (z.down _ refl) (λ s. rw (z.shape (lent_for s n a) (view_node s n)) (rw (← q) (rw e)))

  module _ (b : Bool) (q : b ≡ fine) (passed : b ≡ true) (k : Key) (named : k ≡ key) (f : found.Lent) (finds : Finds n k a f) where
    fits : fine ≡ true
    fits = sym q ∙ passed

    finds_key : Finds n key a f
    finds_key = subst (λ (x : Key). Finds n x a f) named finds

    pub unfit : f ≡ L.Malformed → Serves call lends names slotted n a a (record { answer = P.Refused 24; node = n })
    unfit e =
        let bad = subst (Finds n key a) e finds_key in
        unchanged call lends names slotted n a (P.Refused 24) refl (z.down _ refl) (λ s. rw (z.shape (lent_for s n a) (view_node s n)) (rw fits (rw (bad s))))

    -- a shard that is not held: no store changes
    pub absent : f ≡ L.Absent → (w : PeerReply) (p : Node)
        → (n.count ≤ length n.held → (s : Stores) → held_shard (view_node s n) key ≡ none
        → record { answer = w; node = view_node s p } ≡ answered_as word (rest (view_node s n)))
        → (slots_fit (used n) ≡ true → slots_fit (used p) ≡ true) → slotted w p → (turned_down w ≡ true → p ≡ n)
        → Serves call lends names slotted n a a (record { answer = w; node = p })
    absent e w p d apart slots_are back =
        let g = subst (Finds n key a) e finds_key in
        record {
          same = λ s t slot l c.
              rw (z.shape (lent_for s n a) (view_node s n)) (rw fits (rw (g.lent s)
              (ap (λ (v : held.Node). record { answer = w; node = v }) (node-view s t slot a c p)
              ∙ d g.inside s (shard-none s n key g.inside _ refl g.gone))));
          kept = λ y. (refl, back y);
          slots_are = slots_are;
          slots = λ y. apart (header-apart n y);
          whole = λ y. of_named p a (whole-gone n p a key g.gone);
        }

    pub gone : f ≡ L.Absent → ((v : held.Node) → rest v ≡ at_shard v key unheld does)
        → Serves call lends names slotted n a a (record { answer = P.StaleEpoch (record { 0 = 0 }); node = n })
    gone e same =
        absent e (P.StaleEpoch (record { 0 = 0 })) n
        (λ h s o. ap (answered_as word) (sym (same (view_node s n) ∙ at-absent (view_node s n) key unheld does o))) (λ y. y) (z.down _ refl) (λ y. refl)

    module _ (at : ℕ) (e : f ≡ L.At at) where
      found-key : Found n key a at
      found-key = subst (Finds n key a) e finds_key

      pub found_at : Found n k a at
      found_at = subst (Finds n k a) e finds

      pub found-few : at < 8
      found-few = few-held n _ a at found_at

      pub served : (b : LentStore) (r : Backed)
          → Backs does (get_or n.held at no_held_row).held (store_of a (get_or n.held at no_held_row)) (store_in b r.held.last r.stored) r
          → (w : PeerReply) → w ≡ word (answered r.answer) → (p : Node) → p ≡ with_store n at r.held r.stored
          → Serves call lends names slotted n a b (record { answer = w; node = p })
      served b r d w o p q' =
          let g = found-key in
          let stays : SameSlots n p = subst (SameSlots n) (sym q') (slots_kept n at r.held r.stored g.under) in
          record {
            same = λ s t slot l c.
                rw (z.shape (lent_for s n a) (view_node s n)) (rw fits (rw (g.lent s)
                (ap (λ (x : PeerReply). record { answer = x; node = view_node t p }) o
                ∙ ap (λ (x : Node). record { answer = word (answered r.answer); node = view_node t x }) q'
                ∙ ap (answered_as word)
                (call-store s t slot a b c n key at g.is g.inside g.under g.formed (sym (z.slot slot l ∙ slot_held n key at g.is g.under))
                unheld does (answered r.answer) r.held r.stored (d.same _)
                ∙ sym (z.there (view_node s n) _ (shard_some s n key g.inside at g.is g.under))))));
            kept = λ y.
                let keep = d.kept (turned_as r.answer (sym (ap turned_down o) ∙ y)) in
                (ap lent_store_of keep.0, q' ∙ put_same n at r.held r.stored keep.1 (ap (λ (x : Store). x.stored) keep.0));
            slots_are = z.stay (subst (λ (i : ℕ). i < n.count) g.is g.under) w p stays;
            slots = slots_are_fit n p stays;
            whole = λ y. of_named p b (whole-put n key a b at g r.held r.stored d.sized d.well p q');
          }

-- ---- Replicate

module _ (n : Node) (m : List ℕ) where
  module _ (p : ReplicatePart) (i : message_of m ≡ Replicate p) where
    abbrev r : message.Replicated
    r = (replicate_decoded m p i).read

    pub replicate_reads : Reading (λ lent v. calls.replicate_with lent v m) (ReplicateSlot n m) (ReplicateNames m) (SlotsGiven n) n (key_in m p.key) (op_in_domain (op_in m p.op))
        (λ v. at_shard v (key_in m p.key) unheld (replicate_held r.epoch r.offset (stored_op r.op)))
        (replicate_held r.epoch r.offset (stored_op r.op))
    unfolding calls.replicate_with on_replicate
    replicate_reads =
        let d : message.decode_replicate m ≡ some r = (replicate_decoded m p i).decoded in
        let does = replicate_held r.epoch r.offset (stored_op r.op) in
        record {
          shape = λ lent v.
              rw d
              (ap (λ (o : WireOp). at_of lent v r.key (op_in_domain o) (at_shard v r.key unheld does)) (sym (replicate_op m p i r d))
              ∙ ap (λ (k : Key). at_of lent v k (op_in_domain (op_in m p.op)) (at_shard v k unheld does)) (sym (replicate_key m p i r d)));
          there = λ v h e. refl;
          slot = λ j l. l r d ∙ ap (slot_of n) (sym (replicate_key m p i r d));
          named = λ k l. l r d ∙ sym (replicate_key m p i r d);
          down = λ w e. refl;
          stay = λ u w q e. e;
        }

    pub replicate_backs : (h : Held) (s t : Store) (b : Backed) → Replicates m h s t b → Backs (replicate_held r.epoch r.offset (stored_op r.op)) h s t b
    replicate_backs h s t b d = d r (replicate_decoded m p i).decoded

-- ---- CopyShard

module _ (n : Node) (m : List ℕ) where
  module _ (p : CopyPart) (i : message_of m ≡ CopyShard p) where
    abbrev copied : message.Copied
    copied = (copy_decoded m p i).read

    pub copy_reads : Reading (λ lent v. calls.copy_with lent v m) (CopySlot n m) (CopyNames m) (SlotsGiven n) n (key_in m p.key) (every entry_in_domain (entries_in m p.entries))
        (λ v. at_shard v (key_in m p.key) unheld (copy_held copied.epoch (map stored_entry copied.entries)))
        (copy_held copied.epoch (map stored_entry copied.entries))
    unfolding calls.copy_with on_copy
    copy_reads =
        let d : message.decode_copy_shard m ≡ some copied = (copy_decoded m p i).decoded in
        let does = copy_held copied.epoch (map stored_entry copied.entries) in
        record {
          shape = λ lent v.
              rw d
              (ap (λ (o : List WireEntry). at_of lent v copied.key (every entry_in_domain o) (at_shard v copied.key unheld does)) (sym (copy_entries m p i copied d))
              ∙ ap (λ (k : Key). at_of lent v k (every entry_in_domain (entries_in m p.entries)) (at_shard v k unheld does)) (sym (copy_key m p i copied d)));
          there = λ v h e. refl;
          slot = λ j l. l copied d ∙ ap (slot_of n) (sym (copy_key m p i copied d));
          named = λ k l. l copied d ∙ sym (copy_key m p i copied d);
          down = λ w e. refl;
          stay = λ u w q e. e;
        }

    pub copy_backs : (h : Held) (s t : Store) (b : Backed) → CopiesShard m h s t b
        → Backs (copy_held copied.epoch (map stored_entry copied.entries)) h s t b
    copy_backs h s t b d = d copied (copy_decoded m p i).decoded
