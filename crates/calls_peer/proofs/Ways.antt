-- The ways out of a primary's message at the shard of a key, of any such message: refused, told beside a state that stays, told with the images
-- written, and without room for the reply. Assumes nothing.
use Prim.Native.Nat.{ℕ, ◌≤◌, ◌<◌}
use mathlib.Core.Path.{◌≡◌, refl, sym, ap, ◌∙◌, subst}
use mathlib.Core.Bool.{Bool, true, false, cond}
use mathlib.Core.List.{List}
use native.Mathlib.Omega.{arith}
use borrow.Author.Tests.{lt-ltb, le-leb}
use lib.ListN.{length, get_or}
use lib.Seq.{get_or-set_same}
use Rattle.spec.specs.Keys.{Key}
use Rattle.spec.specs.Layout.Format.{Bytes}
use Rattle.spec.specs.Node.Backup.{BackupAnswer}
use Rattle.spec.specs.declared.Epoch.{Epoch}
use Rattle.spec_laws.proofs.Lists.{not_both}
use Rattle.node_shard.specs.declared.Held.{Held}
use Rattle.wire_write.specs.declared.Reply.{Reply}
use Rattle.wire_write.specs.declared.Reply.TheVariants as R
use Rattle.node_header.specs.declared.HeldRow.{HeldRow}
use Rattle.node_header.specs.declared.Node.{Node}
use Rattle.node_header.specs.Slots.{slots_of}
use Rattle.node_header.specs.View.{no_held_row}
use Rattle.node_header.proofs.Lists.{by_case}
use Rattle.image_header.specs.Image.{node_at, header_written}
use Rattle.image_header.specs.Becomes.{HeaderWrites}
use Rattle.node_lent.specs.Lend.{LentStore, Found, place_of, held_row_with, with_store}
use Rattle.image_node.specs.declared.Picked.{Picked}
use Rattle.image_node.specs.Lent.{no_lent_store, lent_store_at, lent_store_in, lends_state, holds_key, stores_put, StorePuts, Picks, Puts}
use Rattle.image_node.specs.State.{StateAfter}
use Rattle.image_node.proofs.Put.{puts-kept}
use Rattle.node_replicate.specs.declared.PeerReply.TheVariants as P
use Rattle.node_replicate.specs.declared.PeerAnswer.{PeerAnswer}
use Rattle.node_replicate.specs.Peers.{turned_down}
use Rattle.calls_peer_out.specs.Ends.{Buffers, buffers, outcome, Replies, Finished}
use Rattle.calls_peer_out.specs.declared.Outcome.TheVariants as O
use Rattle.calls_peer_out.proofs.Ends as ending
use Rattle.calls_peer.specs.PeerCalls.{Deed, AtShard}
use Rattle.calls_peer.proofs.Serves.{at-shard}

-- a reply with room was sent
pub told_zero : (w : Reply) (s t : List ℕ) (r : ℕ) → 9 ≤ length s → Replies w s t r → r ≡ 0
told_zero w s t r e d = (ending.replied w s t r d (le-leb 9 (length s) e)).0

-- ---- the call

module _ (Call : Node → (a b : LentStore) → List ℕ → PeerAnswer → Type 0) (does : Deed) (m h s : List ℕ) (k : Key) where
  abbrev n : Node
  n = node_at h

  abbrev lent_store : LentStore
  lent_store = lent_store_in s n k

  abbrev Calls : LentStore → PeerAnswer → Type 0
  Calls y w = Call n lent_store y m w

  -- what the images that the call left are read as
  abbrev pub States : Type 0
  States = (h' s' : List ℕ) (y : LentStore) (w : PeerAnswer) → lends_state h s k ≡ true → (holds_key n k ≡ true → Bytes s) → turned_down w.answer ≡ false
      → Puts h h' s s' n w.node y (place_of n k) → Calls y w → StateAfter BackupAnswer (does m) h s h' s' k (slots_of w.node)

  module _ (states : States) (bytes : Bytes s) (t : List ℕ) where
    abbrev b : Buffers
    b = buffers h s t

    abbrev Image : Buffers → ℕ → Type 0
    Image c r = AtShard Call does k m b c r

    module _ (lends : lends_state h s k ≡ true) where
      abbrev picked : Picked
      picked = record { found = true; at = place_of n k; node = n }

      picks : Picks h s k lent_store picked
      picks = record { found = sym lends; read = λ z. refl; at = λ z. refl; lent_store = λ z. refl; bytes = λ z w. bytes }

      passed : (y : LentStore) (w : PeerAnswer) → Calls y w → (c : Buffers) (r : ℕ) → Finished b c n (place_of n k) y w r → Image c r
      passed y w call c r fin =
          at-shard Call does m h s t k lent_store picked picks refl y w call c r fin (λ e g z d u. states c.header c.stores y w e g z u d)

      pub refused : (x : ℕ) → Calls lent_store (record { answer = P.Refused x; node = n }) → Image b x
      refused x call = passed lent_store (record { answer = P.Refused x; node = n }) call b x (record { ends = refl; puts = λ z e. not_both true refl z })

      -- a reply beside a state that stays
      pub stale : (e : Epoch) → Calls lent_store (record { answer = P.StaleEpoch e; node = n }) → (t' : List ℕ) (r : ℕ) → Replies (R.StaleEpoch e) t t' r → Image (buffers h s t') r
      stale e call t' r d =
          passed lent_store (record { answer = P.StaleEpoch e; node = n }) call (buffers h s t') r
          (record {
            ends = ending.kept b (header_written h n) (stores_put s n n lent_store (place_of n k)) (P.StaleEpoch e) (O.Kept (R.StaleEpoch e)) refl (R.StaleEpoch e) t' r d refl;
            puts = λ z i. not_both true refl z;
          })

      -- a reply beside a state that was made
      module _ (y : LentStore) (w : PeerAnswer) (call : Calls y w) (v : Reply) (is : outcome w.answer ≡ O.Changed v) where
        pub sent : (h' u t' : List ℕ) (r : ℕ) → Puts h h' s u n w.node y (place_of n k) → Replies v t t' r → r ≡ 0 → Image (buffers h' u t') r
        sent h' u t' r puts d z =
            passed y w call (buffers h' u t') r
            (record {
              ends = ending.done b _ _ w.answer (outcome w.answer) refl v t' r d is z h' u puts.header puts.stores;
              puts = λ j l. puts;
            })

        pub short : length t < 9 → Image b 23
        short brief =
            passed y w call b 23
            (record {
              ends = ending.short b _ _ w.answer (outcome w.answer) refl v t 23 (ending.no_room_lem v t brief) is (λ z. omega arith);
              puts = λ j l. absurd (omega arith);
            })

    -- 24, whether or not the bytes lend a state
    pub malformed : (lends_state h s k ≡ true → Calls lent_store (record { answer = P.Refused 24; node = n })) → Image b 24
    malformed call =
        by_case (lends_state h s k) (λ e. refused e 24 (call e)) (λ e. record { unlent = λ z. (refl, refl); lent = λ z. not_both (lends_state h s k) z e })

-- ---- the images, at a shard that is held

module _ (h s : List ℕ) (k : Key) (at : ℕ) (found : Found (node_at h) k (lent_store_in s (node_at h) k) at) where
  abbrev x : HeldRow
  x = get_or (node_at h).held at no_held_row

  pub store_here : lent_store_in s (node_at h) k ≡ lent_store_at s x
  store_here =
      let u = found.under in
      let e = found.is in
      ap (λ (c : Bool). cond c (lent_store_at s (get_or (node_at h).held (place_of (node_at h) k) no_held_row)) no_lent_store) (lt-ltb (place_of (node_at h) k) (node_at h).count (omega arith))
      ∙ ap (λ (i : ℕ). lent_store_at s (get_or (node_at h).held i no_held_row)) (sym e)

  -- the header with another row, and a store that is the row's
  pub puts-at : (h' u : List ℕ) (o : Held) (stored : ℕ) (y : LentStore) → HeaderWrites h h' (with_store (node_at h) at o stored)
      → StorePuts s u x (held_row_with x o stored) y → Puts h h' s u (node_at h) (with_store (node_at h) at o stored) y (place_of (node_at h) k)
  puts-at h' u o stored y w put =
      let under = found.under in
      let inside = found.inside in
      let new = held_row_with x o stored in
      let p = with_store (node_at h) at o stored in
      let row : get_or p.held at no_held_row ≡ new = get_or-set_same (node_at h).held at new no_held_row (omega arith) in
      subst (λ (i : ℕ). Puts h h' s u (node_at h) p y i) found.is
      (puts-kept h h' s u (node_at h) p y at w found.under (subst (λ (z : HeldRow). StorePuts s u x z y) (sym row) put))
