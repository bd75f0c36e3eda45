-- What `pick` found of the images and the test of the call found of the state is what the laws of the state at exit ask for. Assumes nothing.
use Prim.Native.Nat.{ℕ, ◌-◌, ◌≤◌, ◌<◌}
use mathlib.Core.Path.{◌≡◌, sym, ap, subst, ◌∙◌}
use mathlib.Core.Bool.{Bool, true, false, cond}
use mathlib.Core.List.{List}
use mathlib.Core.Option.{none, some}
use native.Mathlib.Omega.{arith}
use lib.Dec.{leb}
use lib.ListN.{length, replicate, length-append, length-replicate}
use lib.Seq.{sets}
use borrow.Author.Tests.{leb-true}
use Rattle.spec.specs.Lists.{◌and◌, every, lead}
use Rattle.spec.specs.Keys.{Key}
use Rattle.spec.specs.Layout.Format.{Bytes, number_at}
use Rattle.spec.specs.Node.Held as held
use Rattle.spec.specs.Node.Shards.{Result, held_shard}
use Rattle.spec.specs.Node.WellFormed.{well_formed_header}
use Rattle.spec_laws.proofs.Lists.{and_left, and_right}
use Rattle.spec_retained.specs.Retained.{CarriesAll}
use Rattle.spec_retained.proofs.Begin.{PutIn}
use Rattle.node_shard.specs.View.{insert_at}
use Rattle.image_parts.specs.Shape.{in_use, items, rows_at}
use Rattle.image_parts.proofs.Images.{length-items}
use Rattle.node_header.specs.declared.HeldRow.{HeldRow}
use Rattle.node_header.specs.declared.Node.{Node}
use Rattle.node_header.specs.View.{Stores, view_node, used}
use Rattle.node_header.specs.Formed.{formed_node, slots_fit}
use Rattle.node_header.specs.Slots.{slots_of, SameSlots}
use Rattle.node_header.specs.Grow.{lowest_free, below_key}
use Rattle.node_header.proofs.Lists.{by_case}
use Rattle.node_lent.specs.Lend.{LentStore, place_of, slot_of, lent_for, Changes}
use Rattle.image_header_row.specs.Rows.{held_row_at}
use Rattle.image_header.specs.Image.{no_held_row, header_lent, node_at}
use Rattle.image_header.specs.Becomes.{table_fits, header_image}
use Rattle.image_header.proofs.Counts.{formed-written}
use Rattle.image_node.specs.Lent.{holds_key, held_row_of, readable, lent_store_in, lends_state, Puttable, Puts}
use Rattle.image_node.specs.State.{stores_in, state_at, StoreAfter, StateAfter}
use Rattle.image_node.proofs.Family.{lent_in, lent_changes}
use Rattle.image_node.proofs.Counted.{counted, counted-all, tables_fit, afterwards}
use Rattle.image_node.proofs.After.{Lent, lent_any, is-formed, left, Becomes, same_after, begun-after}

-- a header is read into eight rows
pub rows-eight : (h : List ℕ) → length (node_at h).held ≡ 8
unfolding node_at rows_at
rows-eight h =
    let c = number_at 8 h 24 in
    let u = in_use 8 c in
    let few : u ≤ 8 = by_case (leb c 8) (λ e. rw e (leb-true c 8 e)) (λ e. rw e (omega arith)) in
    let a = length-append (items u (held_row_at h) 1280 48) (replicate (8 - u) no_held_row) in
    a ∙ omega (arith, length-items u (held_row_at h) 1280 48, length-replicate {A = HeldRow} (8 - u) no_held_row)

-- the state is lent
pub is-lent : (h s : List ℕ) (k : Key) → lends_state h s k ≡ true → ((z : Stores) → lent_for z (node_at h) (lent_store_in s (node_at h) k) k ≡ true)
    → (holds_key (node_at h) k ≡ true → Bytes s) → Lent s (node_at h) k
unfolding lends_state
is-lent h s k e formed bytes =
    let n = node_at h in
    let t₁ = and_right (header_lent h) _ e in
    let t₂ = and_right (leb n.count 8) _ t₁ in
    let few = leb-true n.count 8 (and_left (leb n.count 8) _ t₁) in
    record {
      room = leb-true 1392640 (length s) (and_left (leb 1392640 (length s)) _ t₂);
      inside = omega (arith, rows-eight h);
      fine = and_right (leb 1392640 (length s)) (readable s n k) t₂;
      formed = formed;
      bytes = bytes;
    }

-- ---- the state at exit: p and b the header and the columns that a call left, which was not refused

module _ {A : Type 0} (does : (Key → Bool) → held.Node → Result A held.Node) (h s h' s' : List ℕ) (k : Key) (p : Node) (b : LentStore)
    (lends : lends_state h s k ≡ true) (bytes : holds_key (node_at h) k ≡ true → Bytes s)
    (same : (z t : Stores) → Changes z t (slot_of (node_at h) k) (lent_store_in s (node_at h) k) b
    → view_node t p ≡ (does (lent_for z (node_at h) (lent_store_in s (node_at h) k)) (view_node z (node_at h))).after)
    (unlent : (z t : Stores) → Changes z t (slot_of (node_at h) k) (lent_store_in s (node_at h) k) b → lent_for z (node_at h) (lent_store_in s (node_at h) k) k ≡ false → ⊥)
    (slots : formed_node (node_at h) ≡ true → slots_fit (used p) ≡ true) (puts : Puts h h' s s' (node_at h) p b (place_of (node_at h) k)) where
  abbrev n : Node
  n = node_at h

  abbrev a : LentStore
  a = lent_store_in s n k

  lent : Lent s n k
  lent =
      let z = lent_in (stores_in s) (slot_of n k) a in
      is-lent h s k lends
      (λ t. by_case (lent_for t n a k) (λ e. e)
      (λ e. absurd (unlent z (lent_in (stores_in s) (slot_of n k) b) (lent_changes (stores_in s) (slot_of n k) a b) (ap (λ (f : Key → Bool). f k) (lent_any z t n a) ∙ e))))
      bytes

  fit : slots_fit (used p) ≡ true
  fit = slots (is-formed s n k lent)

  reads : Becomes does s n k lent p b same → StateAfter A does h s h' s' k (slots_of p)
  unfolding lends_state header_lent
  reads e =
      let c = puts.becomes (leb-true 10288 (length h) (and_left (leb 10288 (length h)) _ (and_left (header_lent h) _ lends))) in
      let is : state_at h' s' ≡ left does s n k lent p b same =
      c.read (stores_in s') ∙ ap (λ (t : List ℕ). view_node (stores_in t) p) puts.stores ∙ e.state in
      record {
        state = is;
        lent = c.lent;
        slots_are = c.slots_are;
        bytes =
            c.bytes (afterwards s (slot_of n k) b) (counted-all (lent_in (counted (stores_in s)) (slot_of n k) b))
            ∙ ap (λ (v : held.Node). sets h 0 (header_image v (slots_of p))) (e.counts ∙ sym is);
        store = λ q g f.
            subst (λ (u : List ℕ). StoreAfter s u (held_row_of n k) g) (sym puts.stores) (e.store q g (sym (ap (λ (v : held.Node). held_shard v k) is) ∙ f));
        none = λ q. puts.stores ∙ e.none q;
        formed = λ w.
            formed-written (afterwards s (slot_of n k) b) (counted-all (lent_in (counted (stores_in s)) (slot_of n k) b)) h h' p c fit
            (ap well_formed_header (e.counts ∙ sym is) ∙ w)
            (ap (λ (v : held.Node). every table_fits v.held) (e.counts ∙ sym is) ∙ tables_fit s' (used (node_at h')));
      }

  pub same_state : SameSlots n p → Puttable s n p b (place_of n k)
      → ((f : Key → Bool) (v : held.Node) (g : held.Held) → held_shard v k ≡ some g → CarriesAll v (does f v).after) → StateAfter A does h s h' s' k (slots_of p)
  same_state slots_are w carries = reads (same_after does s n k lent p b same slots_are fit w puts.fits carries)

  pub begun_state : n.count ≤ place_of n k → slots_of p ≡ insert_at (slots_of n) (lead (below_key k) (used n)) (lowest_free (used n))
      → 0 < length b.keys → 0 < length b.places
      → ((f : Key → Bool) (v : held.Node) → held_shard v k ≡ none → PutIn v k (does f v).after) → StateAfter A does h s h' s' k (slots_of p)
  begun_state gone slots_are keys places begins = reads (begun-after does s n k lent p b same gone slots_are fit keys places begins)
