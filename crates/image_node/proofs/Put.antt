-- Laws of writing back. Assumes nothing.
use Prim.Native.Nat.{ℕ, ◌≤◌, ◌<◌}
use mathlib.Core.Path.{◌≡◌, sym, ap, ◌∙◌}
use mathlib.Core.Bool.{Bool, true, cond}
use mathlib.Core.List.{List}
use native.Mathlib.Omega.{arith}
use lib.Dec.{leb, ltb}
use lib.ListN.{length, get_or}
use borrow.Author.Tests.{ltb-true, lt-ltb, le-ltb, leb-true}
use Rattle.spec.specs.Keys.{Key}
use Rattle.spec_laws.proofs.Lists.{and_left, and_right, not_both}
use Rattle.log_store.specs.Store.{Sized, well_formed_store}
use Rattle.log_store.proofs.Facts.{facts}
use Rattle.node_send.specs.Sent.{Sendable}
use Rattle.node_send.proofs.Entry.{sendable}
use Rattle.node_header.specs.declared.HeldRow.{HeldRow}
use Rattle.node_header.specs.declared.Node.{Node}
use Rattle.node_header.specs.View.{no_held_row}
use Rattle.node_lent.specs.Lend.{LentStore, store_of, place_of}
use Rattle.image_header.specs.Image.{header_lent, node_at}
use Rattle.image_header.specs.Becomes.{HeaderWrites}
use Rattle.image_node.specs.Lent.{held_row_readable, held_row_of, readable, lends_state, store_put, Writable, Puttable, StorePuts, Puts}

-- ---- one store

module _ (x y : HeldRow) (b : LentStore) (w : Writable x y b) where
  pub writable_sent : Sendable b.columns y.held.last
  writable_sent = sendable (store_of b y) w.sized w.well

  pub writable_rows : (y.stored ≤ 1024) × (y.stored ≤ length b.keys) × (y.stored ≤ length b.places)
  writable_rows =
      let m = (facts (store_of b y) w.well).stored in
      (m, omega (arith, w.sized.keys), omega (arith, w.sized.places))

-- ---- the whole

module _ (h h' s s' : List ℕ) (n p : Node) (b : LentStore) (at : ℕ) (e : HeaderWrites h h' p) where
  pub puts-kept : at < n.count → StorePuts s s' (get_or n.held at no_held_row) (get_or p.held at no_held_row) b → Puts h h' s s' n p b at
  puts-kept under q = record {
    header = e.image;
    becomes = e.becomes;
    stores =
        q.image
        ∙ sym (ap (λ (t : Bool). cond t (store_put s (get_or n.held at no_held_row) (get_or p.held at no_held_row) b) s) (lt-ltb at n.count under));
    fits = λ t. q.fits;
  }

  pub puts-absent : n.count ≤ at → s' ≡ s → Puts h h' s s' n p b at
  puts-absent gone q = record {
    header = e.image;
    becomes = e.becomes;
    stores = q ∙ sym (ap (λ (t : Bool). cond t (store_put s (get_or n.held at no_held_row) (get_or p.held at no_held_row) b) s) (le-ltb at n.count gone));
    fits = λ t. not_both _ t (le-ltb at n.count gone);
  }

-- ---- a state that was picked may be written back

-- by a call that leaves a shard which was held with a store that passes the test
pub puttable : (h s : List ℕ) (k : Key) (p : Node) (b : LentStore) → lends_state h s k ≡ true
    → (let y = get_or p.held (place_of (node_at h) k) no_held_row in
    ltb (place_of (node_at h) k) (node_at h).count ≡ true → Sized (store_of b y) × (well_formed_store (store_of b y) ≡ true))
    → Puttable s (node_at h) p b (place_of (node_at h) k)
unfolding lends_state held_row_readable
puttable h s k p b e w =
    let n = node_at h in
    let t₁ = and_right (header_lent h) _ e in
    let t₂ = and_right (leb n.count 8) _ t₁ in
    let few = leb-true n.count 8 (and_left (leb n.count 8) _ t₁) in
    record {
      room = leb-true 1392640 (length s) (and_left (leb 1392640 (length s)) _ t₂);
      inside = λ q. let under = ltb-true (place_of n k) n.count q in omega arith;
      shard = λ q.
          let r : held_row_readable s (held_row_of n k) ≡ true =
          sym (ap (λ (c : Bool). cond c (held_row_readable s (held_row_of n k)) true) q) ∙ and_right (leb 1392640 (length s)) (readable s n k) t₂ in
          record { slot = ltb-true (held_row_of n k).slot 8 (and_left (ltb (held_row_of n k).slot 8) _ r); sized = (w q).0; well = (w q).1 };
    }
