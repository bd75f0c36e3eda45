-- A primary's messages over intact images: Replicate, NewEpoch and CopyShard leave them intact, and do not answer 24. Assumes nothing.
use Prim.Native.Nat.{ℕ}
use mathlib.Core.Path.{◌≡◌, refl, sym, ap, ◌∙◌}
use mathlib.Core.Bool.{Bool, true, false, cond}
use mathlib.Core.Logic.{◌⊎◌, inl, inr, ⊎_elim}
use mathlib.Core.List.{List}
use mathlib.Core.Option.{Option, none, some}
use native.Mathlib.Omega.{arith}
use lib.Dec.{eqb, leb}
use lib.ListN.{length}
use borrow.Author.Tests.{eqb-false, ltb-true, ltb-false}
use Rattle.spec.specs.Lists.{every}
use Rattle.spec.specs.Keys.{Key}
use Rattle.spec.specs.Layout.Format.{Bytes}
use Rattle.spec.specs.Layout.Message as message
use Rattle.spec.specs.Node.Held as held
use Rattle.spec.specs.Node.Shards.{Result}
use Rattle.spec.specs.Node.Backup.{BackupAnswer}
use Rattle.spec.specs.Node.Calls.{replicate_with, new_epoch_with, copy_with}
use Rattle.spec.specs.Node.Wire.{op_in_domain, entry_in_domain}
use Rattle.spec_laws.proofs.Lists.{by-test, some_same}
use Rattle.spec_laws.proofs.Node.KeptCalls.{replicate_with_kept, new_epoch_with_kept, copy_with_kept}
use Rattle.spec_retained.proofs.Begin.{new_epoch_begins}
use Rattle.node_header.specs.declared.Node.{Node}
use Rattle.node_header.specs.View.{Stores, view_node}
use Rattle.node_header.specs.Slots.{slots_of}
use Rattle.node_header.specs.Answers.{Answered}
use Rattle.node_header.proofs.Lists.{by_case}
use Rattle.node_header.proofs.Shards.{shard-none, shard_some}
use Rattle.image_header.specs.Image.{node_at}
use Rattle.node_lent.specs.Lend.{LentStore, place_of, slot_of, lent_for}
use Rattle.image_node.specs.Lent.{holds_key, lent_store_in}
use Rattle.image_node.specs.State.{stores_in, state_at, StateAfter}
use Rattle.image_node.proofs.Family.{lent_in, lent_changes}
use Rattle.node_replicate.specs.declared.PeerReply.{PeerReply}
use Rattle.node_replicate.specs.declared.PeerReply.TheVariants as P
use Rattle.node_replicate.specs.declared.PeerAnswer.{PeerAnswer}
use Rattle.node_replicate.specs.Peers as peers
use Rattle.node_replicate.specs.Peers.{word, turned_down, ReplicatesAt, CopiesAt}
use Rattle.node_epoch.specs.NewEpochs.{slots_then, slots_with, NewEpochsAt}
use Rattle.calls_peer_out.specs.Ends.{Buffers, buffers, Ended, ended, sends, ended_as}
use Rattle.calls_peer.specs.PeerCalls.{Deed, Passed, Serves, replicates, announces, copies, ReplicatesImage, NewEpochsImage, CopiesImage}
use Rattle.thm_never_malformed.specs.Intact.{Intact}
use Rattle.thm_never_malformed.proofs.Lent.{rows_inside, lends, lent_for_lem, state_formed}
use Rattle.thm_never_malformed.proofs.Changes.{replicate_changes, new_epoch_changes, copy_changes}
use Rattle.thm_never_malformed.proofs.Refused.{Fine, peer_number, replicate_fine, new_epoch_fine, copy_fine}
use Rattle.thm_never_malformed.proofs.Keeps.{Keeps, unwritten, Ends}
use Rattle.thm_never_malformed.proofs.OnShard.{same_after, begun-after}

-- ---- how a call ends, by its answer

module _ (b c : Buffers) (h s : List ℕ) (r : ℕ) where
  abbrev EndsAs : PeerReply → Type 0
  EndsAs w = Ends b.header b.stores c.header c.stores (turned_down w) (peer_number w) r

  -- both images stand in the answer
  kept : (w : PeerReply) (k : ℕ) (l : List ℕ) → ended r c ≡ ended k (buffers b.header b.stores l) → (k ≡ 24 → peer_number w ≡ 24) → EndsAs w
  kept w k l e f = record {
    left = inl (ap (λ (y : Ended). y.left.header) e, ap (λ (y : Ended). y.left.stores) e);
    refused = λ u. f (sym (ap (λ (y : Ended). y.answer) e) ∙ u);
  }

  sent : (w : PeerReply) → turned_down w ≡ false → (m : message.Reply) → ended r c ≡ sends b h s m → EndsAs w
  sent w d m =
      by-test (λ (e : Ended). ended r c ≡ e → EndsAs w) (leb 9 (length b.reply))
      (λ p e. let z = ap (λ (x : Ended). x.answer) e in record { left = inr (d, z); refused = λ q. absurd (omega arith) })
      (λ p e. kept w 23 b.reply e (λ q. absurd (omega arith)))

  pub ends : (w : PeerReply) → ended r c ≡ ended_as b h s w → EndsAs w
  ends (P.Stored o) e = sent (P.Stored o) refl (message.reply_stored o.0) e
  ends (P.Gap o) e = sent (P.Gap o) refl (message.reply_gap o.0) e
  ends (P.StaleEpoch x) e =
      by-test (λ (y : Ended). ended r c ≡ y → EndsAs (P.StaleEpoch x)) (leb 9 (length b.reply))
      (λ p q. kept (P.StaleEpoch x) 0 _ q (λ u. absurd (omega arith))) (λ p q. kept (P.StaleEpoch x) 23 b.reply q (λ u. absurd (omega arith))) e
  ends (P.Adopted o) e = sent (P.Adopted o) refl (message.reply_adopted o.0) e
  ends (P.Refused k) e = kept (P.Refused k) k b.reply e (λ u. u)

-- ---- the calls

module _ (h s : List ℕ) (i : Intact h s) (h' s' m q q' : List ℕ) (r : ℕ) where
  abbrev n : Node
  n = node_at h

  abbrev before : held.Node
  before = state_at h s

  -- past 24
  passed : (Call : Node → (a b : LentStore) → List ℕ → PeerAnswer → Type 0) (does : Deed) (k : Key)
      → ((a : PeerAnswer) (l : LentStore) → Call n (lent_store_in s n k) l m a
      → Fine (peer_number a.answer) × (turned_down a.answer ≡ false → StateAfter BackupAnswer (does m) h s h' s' k (slots_of a.node) → Intact h' s'))
      → Passed Call does k m (buffers h s q) (buffers h' s' q') r → Keeps true h' s' r
  passed Call does k each p =
      let t = ends (buffers h s q) (buffers h' s' q') _ _ r p.after.answer p.ends in
      let f = each p.after p.columns p.called in
      record {
        intact = ⊎_elim (unwritten h s h' s' i) (λ d. f.1 d.0 (p.state d.0 d.1)) t.left;
        fine = λ u z. eqb-false _ 24 f.0 (t.refused z);
      }

  turned : (number : ℕ) → Fine number → (r ≡ number) × (buffers h' s' q' ≡ buffers h s q) → Keeps true h' s' r
  turned number f e = record {
    intact = unwritten h s h' s' i (ap (λ (x : Buffers). x.header) e.1, ap (λ (x : Buffers). x.stores) e.1);
    fine = λ u z. eqb-false number 24 f (sym e.0 ∙ z);
  }

  served : (A : Type 0) (read : Option A) (fine : A → Bool) (key : A → Key) (Call : Node → (a b : LentStore) → List ℕ → PeerAnswer → Type 0) (does : Deed)
      → ((v : A) → read ≡ some v → (a : PeerAnswer) (l : LentStore) → Call n (lent_store_in s n (key v)) l m a
      → Fine (peer_number a.answer) × (turned_down a.answer ≡ false → StateAfter BackupAnswer (does m) h s h' s' (key v) (slots_of a.node) → Intact h' s'))
      → Serves A read fine key Call does m (buffers h s q) (buffers h' s' q') r → Keeps true h' s' r
  served A read fine key Call does each c = go read refl
    where
      go : (o : Option A) → read ≡ o → Keeps true h' s' r
      go none e = turned 21 refl (c.undecoded e)
      go (some v) e =
          by_case (fine v) (λ d. passed Call does (key v) (each v e) ((c.inside v e d).lent (lends h s i (key v)))) (λ d. turned 22 refl (c.outside v e d))

  -- the answer of a call that was lent the shard's columns
  told : (call : (Key → Bool) → held.Node → Result BackupAnswer held.Node) (on : ℕ → Type 0) (names : Key → Type 0) (slotted : PeerReply → Node → Type 0)
      (k : Key) (l : LentStore) (a : PeerAnswer) → peers.Serves call on names slotted n (lent_store_in s n k) l a → on (slot_of n k)
      → ((z : Stores) → Fine (peer_number (word (call (lent_for z n (lent_store_in s n k)) (view_node z n)).answer))) → Fine (peer_number a.answer)
  told call on names slotted k l a c slot f =
      let z = lent_in (stores_in s) (slot_of n k) (lent_store_in s n k) in
      ap (λ (x : Answered PeerReply). eqb (peer_number x.answer) 24)
      (c.same z (lent_in (stores_in s) (slot_of n k) l) (slot_of n k) slot (lent_changes (stores_in s) (slot_of n k) (lent_store_in s n k) l))
      ∙ f z

  module _ (bytes : Bytes m) where
    pub on_replicate_lem : ReplicatesImage m (buffers h s q) (buffers h' s' q') r → Keeps true h' s' r
    on_replicate_lem =
        served message.Replicated (message.decode_replicate m) (λ v. op_in_domain v.op) (λ v. v.key) ReplicatesAt replicates
        (λ v e a l c.
        let k = v.key in
        let named : (w : message.Replicated) → message.decode_replicate m ≡ some w → k ≡ w.key =
        λ w d. ap (λ (x : message.Replicated). x.key) (some_same (sym e ∙ d)) in (
          told (λ lent x. replicate_with lent x m) _ _ _ k l a c (λ w d. ap (slot_of n) (named w d))
              (λ z. replicate_fine (view_node z n) (lent_for z n (lent_store_in s n k)) m (λ w d. ap (lent_for z n (lent_store_in s n k)) (sym (named w d)) ∙ lent_for_lem h s i z k)),
          λ d x.
              same_after (replicates m) h s h' s' k (slots_of a.node) i x
              (replicate_with_kept before (state_formed h s i) _ m bytes) c.slots_are (replicate_changes before _ k m named),
        ))

    pub on_copy_lem : CopiesImage m (buffers h s q) (buffers h' s' q') r → Keeps true h' s' r
    on_copy_lem =
        served message.Copied (message.decode_copy_shard m) (λ v. every entry_in_domain v.entries) (λ v. v.key) CopiesAt copies
        (λ v e a l c.
        let k = v.key in
        let named : (w : message.Copied) → message.decode_copy_shard m ≡ some w → k ≡ w.key =
        λ w d. ap (λ (x : message.Copied). x.key) (some_same (sym e ∙ d)) in (
          told (λ lent x. copy_with lent x m) _ _ _ k l a c (λ w d. ap (slot_of n) (named w d))
              (λ z. copy_fine (view_node z n) (lent_for z n (lent_store_in s n k)) m (λ w d. ap (lent_for z n (lent_store_in s n k)) (sym (named w d)) ∙ lent_for_lem h s i z k)),
          λ d x.
              same_after (copies m) h s h' s' k (slots_of a.node) i x
              (copy_with_kept before (state_formed h s i) _ m bytes) c.slots_are (copy_changes before _ k m named),
        ))

    -- the shard is held, or it begins
    pub on_new_epoch_lem : NewEpochsImage m (buffers h s q) (buffers h' s' q') r → Keeps true h' s' r
    unfolding slots_then
    on_new_epoch_lem =
        served message.NewEpoch (message.decode_new_epoch m) (λ v. true) (λ v. v.key) NewEpochsAt announces
        (λ v e a l c.
        let k = v.key in
        let named : (w : message.NewEpoch) → message.decode_new_epoch m ≡ some w → k ≡ w.key =
        λ w d. ap (λ (x : message.NewEpoch). x.key) (some_same (sym e ∙ d)) in (
          told (λ lent x. new_epoch_with lent x m) _ _ _ k l a c (λ w d. ap (slot_of n) (named w d))
              (λ z. new_epoch_fine (view_node z n) (lent_for z n (lent_store_in s n k)) m (λ w d. ap (lent_for z n (lent_store_in s n k)) (sym (named w d)) ∙ lent_for_lem h s i z k)),
          λ d x.
              let formed = new_epoch_with_kept before (state_formed h s i) (lent_for (stores_in s) n (lent_store_in s n k)) m bytes in
              let slots_are : slots_of a.node ≡ cond (holds_key n k) (slots_of n) (slots_with n k) =
              c.slots_are k named ∙ ap (λ (b : Bool). cond b (slots_of n) (cond (holds_key n k) (slots_of n) (slots_with n k))) d in
              by_case (holds_key n k)
              (λ p.
              same_after (announces m) h s h' s' k (slots_of a.node) i x formed
              (slots_are ∙ ap (λ (b : Bool). cond b (slots_of n) (slots_with n k)) p)
              (new_epoch_changes before _ k _
              (shard_some (stores_in s) n k (rows_inside h s i) (place_of n k) refl (ltb-true (place_of n k) n.count p)) m named))
              (λ p.
              begun-after (announces m) h s h' s' k (slots_of a.node) i x formed p
              (slots_are ∙ ap (λ (b : Bool). cond b (slots_of n) (slots_with n k)) p)
              (new_epoch_begins before _ k m named
              (shard-none (stores_in s) n k (rows_inside h s i) (place_of n k) refl (ltb-false (place_of n k) n.count p)))),
        ))
