-- Laws of a Write at a node, one for each way out. Assumes nothing.
use Prim.Native.Nat.{ℕ, ◌<◌}
use mathlib.Core.Path.{◌≡◌, refl, sym, ap, subst, ◌∙◌}
use mathlib.Core.Bool.{Bool, true, false, cond, not}
use mathlib.Core.List.{List}
use mathlib.Core.Option.{none, some}
use lib.Dec.{eqb}
use lib.ListN.{get_or}
use Rattle.spec.specs.Keys.{Key}
use Rattle.spec.specs.Refusals.{unknown_shard, outside_domain, malformed}
use Rattle.spec.specs.Log.{Op, last_offset}
use Rattle.spec.specs.Layout.Message as message
use Rattle.spec.specs.Layout.Parts.{WireOp}
use Rattle.spec.specs.Node.Held as held
use Rattle.spec.specs.Node.Shards.{Result, gives, at_shard}
use Rattle.spec.specs.Node.Wire.{op_in_domain, stored_op}
use Rattle.spec.specs.Node.Lease.{before, leased}
use Rattle.spec.specs.Node.Client as client
use Rattle.spec.specs.Node.Refused.{counted}
use Rattle.spec.specs.Node.Calls as calls
use Rattle.spec_laws.proofs.Lists.{not_both}
use Rattle.node_shard.specs.declared.Held.{Held}
use Rattle.node_admit.specs.View.{view_expiry}
use Rattle.node_admit.specs.declared.Admit.{Admit}
use Rattle.node_admit.specs.declared.Admit.TheVariants as A
use Rattle.log_store.specs.Store.{Store}
use Rattle.log_store.proofs.Columns.{log-length}
use Rattle.wire_read.specs.declared.WritePart.{WritePart}
use Rattle.wire_read.proofs.Decoded.{write_decoded}
use Rattle.log_arrive.specs.Parts.{op_in}
use Rattle.log_arrive.proofs.Messages.{write-part, write-op}
use Rattle.map_tables.specs.Names.{view_key}
use Rattle.node_log_write.specs.declared.Written.{Written}
use Rattle.node_log_write.specs.Writes.{view_stored, written_as, Writes}
use Rattle.node_log_write.specs.Writes as writes
use Rattle.node_header.specs.declared.Node.{Node}
use Rattle.node_header.specs.View.{Stores, view_node, no_held_row}
use Rattle.node_header.specs.Slots.{SameSlots}
use Rattle.node_header.specs.Answers.{answered_as}
use Rattle.node_header.proofs.Formed.{header-apart}
use Rattle.node_header.proofs.Shards.{call-absent}
use Rattle.node_lent.specs.declared.Lent.TheVariants as L
use Rattle.node_lent.specs.declared.Lent as found
use Rattle.map_names.specs.Texts.{key_in}
use Rattle.node_lent.specs.Lend.{LentStore, store_in, store_of, lent_for, slot_of, Finds, Found, with_store, Whole}
use Rattle.node_lent.proofs.Lend.{few-held, slot_held, call-store, node-view}
use Rattle.node_lent.proofs.Put.{lent_store_of, put_same, whole-put}
use Rattle.node_lent.proofs.Slots.{slots_kept, slots_are_fit}
use Rattle.node_write.specs.declared.WriteReply.{WriteReply}
use Rattle.node_write.specs.declared.WriteReply.TheVariants as R
use Rattle.node_write.specs.declared.NodeWritten.{NodeWritten}
use Rattle.node_write.specs.ClientWrites.{write_word, turned_down, number_in, reply_as, IsWrite, WritesMessage, WriteNames, WriteSlot, Serves, WritesAt}
use Rattle.node_write.proofs.Named.{write-key}

-- ---- the reply of an admission

-- an admission's answer, with the shard as it is then
written-gives : (a : Admit) (x : held.Held) → gives (written_as a x).answer x ≡ written_as a x
written-gives A.Yes x = refl
written-gives (A.NotPrimary e) x = refl
written-gives A.NoLease x = refl
written-gives A.TooFew x = refl
written-gives A.NoRoom x = refl

reply-word : (a : Admit) (x : held.Held) → reply_as a (last_offset x.replica) ≡ write_word (written_as a x).answer
reply-word A.Yes x = refl
reply-word (A.NotPrimary e) x = refl
reply-word A.NoLease x = refl
reply-word A.TooFew x = refl
reply-word A.NoRoom x = refl

reply-turned : (a : Admit) (last : ℕ) → turned_down (reply_as a last) ≡ true → writes.turned_down a ≡ true
reply-turned A.Yes last e = not_both false e refl
reply-turned (A.NotPrimary o) last e = refl
reply-turned A.NoLease last e = refl
reply-turned A.TooFew last e = refl
reply-turned A.NoRoom last e = refl

reply_listed : (a : Admit) (last : ℕ) → not (eqb (number_in (reply_as a last)) 0) ≡ turned_down (reply_as a last)
reply_listed A.Yes last = refl
reply_listed (A.NotPrimary o) last = refl
reply_listed A.NoLease last = refl
reply_listed A.TooFew last = refl
reply_listed A.NoRoom last = refl

-- ---- by the message

pub writes-message : (b : List ℕ) (lease : Bool) (least : ℕ) (h : Held) (s t : Store) (r : Written) (p : WritePart) → IsWrite b p
    → (op : Op) → op ≡ stored_op (op_in b p.op) → Writes h s t p.epoch.0 lease least op r → WritesMessage b lease least h s t r
writes-message b lease least h s t r p i op e d m q =
    let d₁ = subst (λ (x : Op). Writes h s t p.epoch.0 lease least x r) e d in
    let d₂ = subst (λ (x : WireOp). Writes h s t p.epoch.0 lease least (stored_op x) r) (write-op b p i m q) d₁ in
    subst (λ (z : WritePart). Writes h s t z.epoch.0 lease least (stored_op m.op) r) (write-part b p i m q) d₂

-- ---- the ways out

-- a Write that was read: 22 unless `fine`, 24 unless the lent state passes, then `does` at the shard of the key
abbrev at_of : (Key → Bool) → held.Node → Key → Bool → (held.Held → Result client.WriteAnswer held.Held) → Result client.WriteAnswer held.Node
at_of lent v k fine does =
    cond (not fine) (gives (client.write_refused outside_domain) v)
    (cond (not (lent k)) (gives (client.write_refused malformed) v) (at_shard v k (client.write_refused unknown_shard) does))

module _ (n : Node) (a : LentStore) (clock least : ℕ) (m : List ℕ) where
  -- the lent store and the header stay
  unchanged : (w : WriteReply) → not (eqb (number_in w) 0) ≡ turned_down w → turned_down w ≡ true
      → ((s : Stores) → record { answer = w; node = view_node s n } ≡ answered_as write_word (calls.write_with (lent_for s n a) (view_node s n) clock least m))
      → Serves n a a clock least m (record { answer = w; node = n })
  unchanged w listed down e = record {
    same = λ s t slot l c. ap (λ (v : held.Node). record { answer = w; node = v }) (node-view s t slot a c n) ∙ e s;
    kept = λ z. (refl, refl);
    slots_are = refl;
    slots = header-apart n;
    whole = λ z k i. not_both (turned_down w) down z;
    listed = listed;
  }

  pub late : calls.late_time clock ≡ true → Serves n a a clock least m (record { answer = R.Refused 21; node = n })
  unfolding calls.write_with
  late e = unchanged (R.Refused 21) refl refl (λ s. rw e)

  module _ (early : calls.late_time clock ≡ false) where
    pub undecoded : message.decode_write m ≡ none → Serves n a a clock least m (record { answer = R.Refused 21; node = n })
    unfolding calls.write_with
    undecoded d = unchanged (R.Refused 21) refl refl (λ s. rw (early, d))

    module _ (p : WritePart) (i : IsWrite m p) where
      abbrev read : message.Write
      read = (write_decoded m p i).read

      abbrev leased_now : Bool
      leased_now = before (view_expiry n.expiry) clock

      abbrev does : held.Held → Result client.WriteAnswer held.Held
      does = client.write_held leased_now least read.epoch (stored_op read.op)

      abbrev key : Key
      key = key_in m p.key

      abbrev fine : Bool
      fine = op_in_domain (op_in m p.op)

      shape : (s : Stores) → calls.write_with (lent_for s n a) (view_node s n) clock least m ≡ at_of (lent_for s n a) (view_node s n) key fine does
      unfolding calls.write_with client.on_write leased
      shape s =
          let d : message.decode_write m ≡ some read = (write_decoded m p i).decoded in
          rw (early, d)
          (ap (λ (o : WireOp). at_of (lent_for s n a) (view_node s n) read.key (op_in_domain o) does) (sym (write-op m p i read d))
          ∙ ap (λ (k : Key). at_of (lent_for s n a) (view_node s n) k fine does) (sym (write-key m p i read d)))

      slot-named : (j : ℕ) → WriteSlot n m j → j ≡ slot_of n key
      slot-named j l =
          let d : message.decode_write m ≡ some read = (write_decoded m p i).decoded in
          l read d ∙ ap (slot_of n) (sym (write-key m p i read d))

      key-named : (k : Key) → WriteNames m k → k ≡ key
      key-named k l =
          let d : message.decode_write m ≡ some read = (write_decoded m p i).decoded in
          l read d ∙ sym (write-key m p i read d)

      pub outside : (b : Bool) → b ≡ fine → b ≡ false → Serves n a a clock least m (record { answer = R.Refused 22; node = n })
      outside b q e = unchanged (R.Refused 22) refl refl (λ s. rw (shape s) (rw (← q) (rw e)))

      module _ (b : Bool) (q : b ≡ fine) (passed : b ≡ true) (k : Key) (named : k ≡ key) (f : found.Lent) (finds : Finds n k a f) where
        fits : fine ≡ true
        fits = sym q ∙ passed

        finds_key : Finds n key a f
        finds_key = subst (λ (x : Key). Finds n x a f) named finds

        pub unfit : f ≡ L.Malformed → Serves n a a clock least m (record { answer = R.Refused 24; node = n })
        unfit e =
            let bad = subst (Finds n key a) e finds_key in
            unchanged (R.Refused 24) refl refl (λ s. rw (shape s) (rw fits (rw (bad s))))

        pub gone : f ≡ L.Absent → Serves n a a clock least m (record { answer = R.Refused 17; node = n })
        gone e =
            let g = subst (Finds n key a) e finds_key in
            unchanged (R.Refused 17) refl refl
            (λ s. rw (shape s) (rw fits (rw (g.lent s)
            (ap (answered_as write_word) (call-absent s n key g.inside _ refl (client.write_refused unknown_shard) does g.gone)))))

        module _ (at : ℕ) (e : f ≡ L.At at) where
          found-key : Found n key a at
          found-key = subst (Finds n key a) e finds_key

          pub found-few : at < 8
          found-few = few-held n _ a at found-key

          pub found_at : Found n k a at
          found_at = subst (Finds n k a) e finds

          pub served : (b : LentStore) (lease : Bool) → lease ≡ leased_now → (r : Written)
              → WritesMessage m lease least (get_or n.held at no_held_row).held (store_of a (get_or n.held at no_held_row)) (store_in b r.held.last r.stored) r
              → (w : WriteReply) (last : ℕ) → w ≡ reply_as r.admit last → last ≡ r.held.last
              → (v : Node) → v ≡ with_store n at r.held r.stored
              → Serves n a b clock least m (record { answer = w; node = v })
          served b lease lq r d w last o' lr v q' =
              let g = found-key in
              let stays : SameSlots n v = subst (SameSlots n) (sym q') (slots_kept n at r.held r.stored g.under) in
              let o : w ≡ reply_as r.admit r.held.last = o' ∙ ap (reply_as r.admit) lr in
              let x = get_or n.held at no_held_row in
              let t₁ = store_in b r.held.last r.stored in
              let y = view_stored (view_key x.key) r.held t₁ in
              let d₁ = d read (write_decoded m p i).decoded in
              let d₂ = subst (λ (z : Bool). Writes x.held (store_of a x) t₁ read.epoch z least (stored_op read.op) r) lq d₁ in
              let ow : w ≡ write_word (written_as r.admit y).answer =
              o ∙ ap (reply_as r.admit) (sym (log-length b.columns r.held.last)) ∙ reply-word r.admit y in
              record {
                same = λ s t slot l c.
                    rw (shape s) (rw fits (rw (g.lent s)
                    (ap (λ (z : WriteReply). record { answer = z; node = view_node t v }) ow
                    ∙ ap (λ (z : Node). record { answer = write_word (written_as r.admit y).answer; node = view_node t z }) q'
                    ∙ ap (answered_as write_word)
                    (call-store s t slot a b c n key at g.is g.inside g.under g.formed (sym (slot-named slot l ∙ slot_held n key at g.is g.under))
                    (client.write_refused unknown_shard) does (written_as r.admit y).answer r.held r.stored
                    (written-gives r.admit y ∙ d₂.same _)))));
                kept = λ z.
                    let keep = d₂.kept (reply-turned r.admit r.held.last (sym (ap turned_down o) ∙ z)) in
                    (ap lent_store_of keep.0, q' ∙ put_same n at r.held r.stored keep.1 (ap (λ (s : Store). s.stored) keep.0));
                slots_are = stays;
                slots = slots_are_fit n v stays;
                whole = λ z k' l.
                    subst (Whole n v b) (sym (key-named k' l)) (whole-put n key a b at g r.held r.stored d₂.sized d₂.well v q');
                listed =
                    subst (λ (z : WriteReply). not (eqb (number_in z) 0) ≡ turned_down z) (sym o) (reply_listed r.admit r.held.last);
              }

-- ---- the count

pub counts : (n : Node) (a b : LentStore) (clock least : ℕ) (m : List ℕ) (before : ℕ) (r : NodeWritten) → Serves n a b clock least m r
    → (number : ℕ) → number ≡ number_in r.answer → (count : ℕ) → count ≡ counted before (not (eqb number 0))
    → WritesAt n a b clock least m before (record { answer = r.answer; node = r.node; refused = count })
counts n a b clock least m before r d number e count c = record {
  same = d.same;
  kept = d.kept;
  slots_are = d.slots_are;
  slots = d.slots;
  whole = d.whole;
  count = c ∙ ap (λ (z : ℕ). counted before (not (eqb z 0))) e ∙ ap (counted before) d.listed;
}
