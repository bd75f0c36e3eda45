-- Laws of a Write over the images, one for each way out. Assumes nothing.
use Prim.Native.Nat.{ℕ, ◌≤◌, ◌<◌}
use mathlib.Core.Path.{◌≡◌, refl, sym, ap, subst, ◌∙◌}
use mathlib.Core.Bool.{Bool, true, false}
use mathlib.Core.List.{List}
use mathlib.Core.Option.{none, some}
use lib.ListN.{length}
use Rattle.spec.specs.Keys.{Key}
use Rattle.spec.specs.Refusals.{Refusal, unknown_shard, not_primary, no_lease, too_few_in_sync, undecodable, outside_domain, no_room, malformed, last_epoch, no_worker}
use Rattle.spec.specs.Layout.Message as message
use Rattle.spec.specs.Layout.Parts.{WireOp}
use Rattle.spec.specs.Node.Wire.{op_in_domain}
use Rattle.spec.specs.Node.Client as client
use Rattle.spec.specs.Node.Calls.{late_time, write_with}
use Rattle.spec_laws.proofs.Lists.{not_both, none_some}
use Rattle.spec_retained.proofs.Calls.{write_retains}
use Rattle.spec_retained.proofs.Lent.{write_unlent}
use Rattle.wire_read.specs.declared.WritePart.{WritePart}
use Rattle.wire_read.proofs.Decoded.{write_decoded}
use Rattle.log_arrive.specs.Parts.{op_in}
use Rattle.log_arrive.proofs.Messages.{write-op}
use Rattle.map_names.specs.Texts.{key_in}
use Rattle.node_header.specs.declared.Node.{Node}
use Rattle.node_header.specs.Slots.{slots_of}
use Rattle.node_header.specs.View.{Stores, view_node}
use Rattle.node_header.specs.Answers.{Answered, answered_as}
use Rattle.image_header.specs.Image.{node_at}
use Rattle.node_lent.specs.Lend.{LentStore, place_of, slot_of, lent_for, Changes}
use Rattle.image_node.specs.Lent.{lends_state, lent_store_in, Picks, Puts}
use Rattle.image_node.specs.declared.Picked.{Picked}
use Rattle.image_node.specs.State.{StateAfter}
use Rattle.image_node.proofs.Put.{puttable}
use Rattle.image_node.proofs.Lent.{same_state}
use Rattle.node_write.specs.declared.WriteReply.{WriteReply}
use Rattle.node_write.specs.declared.WriteAnswer.{WriteAnswer}
use Rattle.node_write.specs.ClientWrites.{refusal_word, write_word, turned_down, IsWrite, WriteNames, WritesAt}
use Rattle.node_write.proofs.Named.{write-key}
use Rattle.calls_client.specs.Searched.{lends_call}
use Rattle.calls_client_out.specs.Ends.{Buffers, WriteEnded, ended, write_ended, WriteFinished}
use Rattle.calls_client.specs.Written.{buffers, WriteServed, WritesShard, WritesRead, WritesBytes}
use Rattle.calls_client.proofs.Searched.{lends_short, lends_long}

-- ---- at the shard of a key

abbrev RefusesAs : client.WriteAnswer → Type 0
RefusesAs v = (r : Refusal) × (v ≡ client.write_refused r)

refusal_turned : (r : Refusal) → turned_down (refusal_word r) ≡ true
refusal_turned unknown_shard = refl
refusal_turned (not_primary e) = refl
refusal_turned no_lease = refl
refusal_turned too_few_in_sync = refl
refusal_turned undecodable = refl
refusal_turned outside_domain = refl
refusal_turned no_room = refl
refusal_turned malformed = refl
refusal_turned last_epoch = refl
refusal_turned no_worker = refl

module _ (h s a : List ℕ) (k : Key) (b : LentStore) (l : Picked) (d : Picks h s k b l) (clock least : ℕ) (m : List ℕ) where
  module _ (f : l.found ≡ true) (x : LentStore) (w : WriteAnswer) (call : WritesAt l.node b x clock least m 0 w) where
    lends : lends_state h s k ≡ true
    lends = sym d.found ∙ f

    called : WritesAt (node_at h) (lent_store_in s (node_at h) k) x clock least m 0 w
    called =
        subst (λ (y : LentStore). WritesAt (node_at h) y x clock least m 0 w) (d.lent_store lends)
        (subst (λ (n : Node). WritesAt n b x clock least m 0 w) (d.read lends) call)

    -- at the slot of the shard
    said : WriteNames m k → (z t : Stores) → Changes z t (slot_of (node_at h) k) (lent_store_in s (node_at h) k) x
        → record { answer = w.answer; node = view_node t w.node }
        ≡ answered_as write_word (write_with (lent_for z (node_at h) (lent_store_in s (node_at h) k)) (view_node z (node_at h)) clock least m)
    said names z t c = called.same z t (slot_of (node_at h) k) (λ v e. ap (slot_of (node_at h)) (names v e)) c

    -- an accepted write was not refused
    unrefused : (v : client.WriteAnswer) → RefusesAs v → w.answer ≡ write_word v → turned_down w.answer ≡ false → ⊥
    unrefused v r e f = not_both (turned_down w.answer) (ap turned_down (e ∙ ap write_word r.1) ∙ refusal_turned r.0) f

    shard_state : WriteNames m k → (h' s' : List ℕ) → turned_down w.answer ≡ false → Puts h h' s s' (node_at h) w.node x (place_of (node_at h) k)
        → StateAfter client.WriteAnswer (λ lent v. write_with lent v clock least m) h s h' s' k (slots_of w.node)
    shard_state names h' s' f puts =
        let n = node_at h in
        let y = lent_store_in s n k in
        same_state (λ lent v. write_with lent v clock least m) h s h' s' k w.node x lends (d.bytes lends)
        (λ z t c. ap (λ (v : Answered WriteReply). v.node) (said names z t c))
        (λ z t c e.
        unrefused (write_with (lent_for z n y) (view_node z n) clock least m).answer
        (write_unlent (view_node z n) (lent_for z n y) clock least m (λ v q. subst (λ (j : Key). lent_for z n y j ≡ false) (names v q) e))
        (ap (λ (v : Answered WriteReply). v.answer) (said names z t c)) f)
        called.slots puts called.slots_are (puttable h s k w.node x lends (called.whole f k names))
        (λ g v j q. write_retains v g clock least m)

    pub shard-lent : WriteNames m k → (e : WriteEnded) → WriteFinished (buffers h s a) l.node l.at x w e → WritesShard (buffers h s a) k clock least m e
    shard-lent names e q = record {
      unlent = λ y. not_both _ lends y;
      lent = λ y. record {
        left = x;
        told = w;
        call = called;
        is =
            q.is
            ∙ ap (λ (n : Node). write_ended (buffers h s a) n l.at x w) (d.read lends)
            ∙ ap (λ (i : ℕ). write_ended (buffers h s a) (node_at h) i x w) (d.at lends);
        state = λ f z.
            shard_state names e.left.header e.left.stores f
            (subst (λ (i : ℕ). Puts h e.left.header s e.left.stores (node_at h) w.node x i) (d.at lends)
            (subst (λ (n : Node). Puts h e.left.header s e.left.stores n w.node x l.at) (d.read lends) (q.puts f z)));
      };
    }

-- ---- a message

module _ (h s a c : List ℕ) (clock least : ℕ) (m : List ℕ) where
  abbrev u : Buffers
  u = buffers h s a

  pub bytes-late : late_time clock ≡ true → WritesBytes u c clock least m (ended 21 u)
  bytes-late e = record { late = λ z. refl; undecoded = λ z. refl; read = λ z v q. not_both _ e z }

  module _ (early : late_time clock ≡ false) where
    pub bytes-undecoded : message.decode_write m ≡ none → WritesBytes u c clock least m (ended 21 u)
    bytes-undecoded e = record { late = λ z. refl; undecoded = λ z. refl; read = λ z v q. none_some (sym e ∙ q) }

    module _ (p : WritePart) (i : IsWrite m p) where
      by_read : (e : WriteEnded) → ((v : message.Write) → message.decode_write m ≡ some v → WritesRead u c clock least m v e) → WritesBytes u c clock least m e
      by_read e f = record {
        late = λ z. not_both _ z early;
        undecoded = λ z. none_some (sym z ∙ (write_decoded m p i).decoded);
        read = λ z v q. f v q;
      }

      module _ (t : Bool) (tested : t ≡ op_in_domain (op_in m p.op)) where
        tells : (v : message.Write) → message.decode_write m ≡ some v → t ≡ op_in_domain v.op
        tells v q = tested ∙ ap op_in_domain (write-op m p i v q)

        pub bytes_outside : t ≡ false → WritesBytes u c clock least m (ended 22 u)
        bytes_outside e = by_read (ended 22 u) (λ v q.
            let no = sym (tells v q) ∙ e in
            record { outside = λ z. refl; unlent = λ z y. not_both _ z no; lent = λ z y. not_both _ z no })

        module _ (inside : t ≡ true) where
          pub bytes_uncounted : length c < 4 → WritesBytes u c clock least m (ended 24 u)
          bytes_uncounted e = by_read (ended 24 u) (λ v q.
              let yes = sym (tells v q) ∙ inside in
              record {
                outside = λ z. not_both _ yes z;
                unlent = λ z y. refl;
                lent = λ z y. not_both _ y (lends_short c h s v.key e);
              })

          pub bytes-named : 4 ≤ length c → (k : Key) → k ≡ key_in m p.key → (e : WriteEnded) → WritesShard u k clock least m e
              → WritesBytes u c clock least m e
          bytes-named long k named e d = by_read e (λ v q.
              let yes = sym (tells v q) ∙ inside in
              let same : k ≡ v.key = named ∙ write-key m p i v q in
              let g = subst (λ (x : Key). WritesShard u x clock least m e) same d in
              let is = lends_long c h s v.key long in
              record {
                outside = λ z. not_both _ yes z;
                unlent = λ z y. g.unlent (sym is ∙ y);
                lent = λ z y. g.lent (sym is ∙ y);
              })
