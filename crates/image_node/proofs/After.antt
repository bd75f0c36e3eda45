-- The whole state at exit of a call at the shard of a key, header and all eight stores, is what the call's definition leaves of the state at
-- entry. Of the call its promises are assumed here: what it says of families of stores, which slots the shards have, and that it cuts a log
-- or appends to it. Assumes nothing else.
use Prim.Native.Nat.{ℕ, ◌+◌, ◌≤◌, ◌<◌}
use mathlib.Core.Path.{◌≡◌, refl, sym, ap, subst, fun_ext, ◌∙◌}
use mathlib.Core.Bool.{Bool, true, false, cond}
use mathlib.Core.Logic.{⊎_elim}
use mathlib.Core.List.{List, ◌∷◌, map}
use mathlib.Core.Option.{none, some}
use native.Mathlib.Omega.{arith}
use lib.Dec.{eqb, leb, ltb}
use lib.ListN.{length, get_or, take, drop, length-map, length-append, length-drop}
use lib.Seq.{length-take-le}
use borrow.Author.Tests.{ltb-true, ltb-false, lt-ltb, le-ltb}
use Rattle.spec.specs.Lists.{◌and◌, nth, lead}
use Rattle.spec.specs.Keys.{Key, key_below}
use Rattle.spec.specs.Layout.Format.{Bytes}
use Rattle.spec.specs.Node.Held as held
use Rattle.spec.specs.Node.Shards.{Result, held_shard, with_held}
use Rattle.spec_laws.proofs.Lists.{not_both, and_left, and_right}
use Rattle.spec_retained.specs.Retained.{CarriesAll}
use Rattle.spec_retained.proofs.Begin.{Fresh, PutIn, put-at}
use Rattle.node_shard.specs.View.{insert_at}
use Rattle.node_shard.proofs.Loops.{lead-most}
use Rattle.log_store.specs.Store.{well_formed_store}
use Rattle.log_calls.proofs.FitLaws.{fits-well}
use Rattle.node_header.specs.declared.HeldRow.{HeldRow}
use Rattle.node_header.specs.declared.Node.{Node}
use Rattle.node_header.specs.View.{Stores, view_held_row, view_node, used, no_held_row}
use Rattle.node_header.specs.Formed.{lent_node, formed_node, slots_fit}
use Rattle.node_header.specs.Slots.{slots_of, SameSlots}
use Rattle.node_header.specs.Grow.{lowest_free, below_key}
use Rattle.node_header.proofs.Lists.{by_case, map-lead}
use Rattle.node_header.proofs.Formed.{formed-lent}
use Rattle.node_header.proofs.Shards.{shard-none, shard_some}
use Rattle.node_lent.specs.Lend.{LentStore, store_of, held_row_store, place_of, slot_of, lent_at, lent_for, Changes}
use Rattle.image_store.specs.Read.{all_readable}
use Rattle.image_node.specs.Lent.{begin_of, held_row_readable, lent_store_at, holds_key, held_row_of, readable, lent_store_in, stores_put, Puttable, StoreFits}
use Rattle.image_node.specs.State.{stores_in, StoreAfter}
use Rattle.image_node.proofs.Family.{vectors_in, lent_in, lent_changes}
use Rattle.image_node.proofs.Counted.{counted, counted-before, afterwards, counted-after}
use Rattle.image_node.proofs.Exit.{entry-view, exit_view, exit_few, exit_store}
use Rattle.image_node.proofs.Begun.{unwritten, entry_absent, exit_absent, absent-few, exit_begun, begun-few}

-- what was found of the images: they lend a state, and the shard's store is well formed
pub record Lent (s : List ℕ) (n : Node) (k : Key) : Type 0 where
  pub room : 1392640 ≤ length s
  pub inside : n.count ≤ length n.held
  pub fine : readable s n k ≡ true
  pub formed : (z : Stores) → lent_for z n (lent_store_in s n k) k ≡ true
  pub bytes : holds_key n k ≡ true → Bytes s

-- the test of a lent state looks at no other store
pub lent_any : (z t : Stores) (n : Node) (a : LentStore) → lent_for z n a ≡ lent_for t n a
unfolding lent_for
lent_any z t n a = fun_ext (λ k. ap (λ (b : Bool). b and lent_at n a (place_of n k)) (sym (formed-lent n z) ∙ formed-lent n t))

-- ---- what was found, as facts

module _ (s : List ℕ) (n : Node) (k : Key) (l : Lent s n k) where
  abbrev at : ℕ
  at = place_of n k

  abbrev x : HeldRow
  x = get_or n.held at no_held_row

  pub is-formed : formed_node n ≡ true
  unfolding lent_for
  is-formed = formed-lent n (stores_in s) ∙ and_left (lent_node (stores_in s) n) _ (l.formed (stores_in s))

  module _ (under : at < n.count) where
    test : ltb at n.count ≡ true
    test = lt-ltb at n.count under

    is-fine : all_readable s (begin_of x) x.held.last ≡ true
    unfolding held_row_readable
    is-fine =
        let r : held_row_readable s x ≡ true = sym (ap (λ (c : Bool). cond c (held_row_readable s x) true) test) ∙ l.fine in
        and_right (leb x.held.last 1024) _ (and_right (ltb x.slot 8) _ r)

    is-well : well_formed_store (store_of (lent_store_at s x) x) ≡ true
    unfolding lent_for lent_at held_row_store
    is-well =
        let r : lent_at n (lent_store_in s n k) at ≡ true = and_right (lent_node (stores_in s) n) _ (l.formed (stores_in s)) in
        let q : held_row_store (lent_store_at s x) x ≡ true = rw test at r in
        fits-well (store_of (lent_store_at s x) x) q

-- ---- a call

module _ {A : Type 0} (call : (Key → Bool) → held.Node → Result A held.Node) (s : List ℕ) (n : Node) (k : Key) (l : Lent s n k) (p : Node) (b : LentStore)
    (same : (z t : Stores) → Changes z t (slot_of n k) (lent_store_in s n k) b → view_node t p ≡ (call (lent_for z n (lent_store_in s n k)) (view_node z n)).after) where
  abbrev a : LentStore
  a = lent_store_in s n k

  abbrev before : Stores
  before = lent_in (stores_in s) (slot_of n k) a

  abbrev after : Stores
  after = lent_in (stores_in s) (slot_of n k) b

  -- the node that the definition leaves of the state at entry
  abbrev pub left : held.Node
  left = (call (lent_for (stores_in s) n a) (view_node (stores_in s) n)).after

  -- it is what the stores at exit say beside the header, and what a family says whose tables have as many vectors as the header counts
  pub record Becomes : Type 0 where
    pub state : view_node (stores_in (stores_put s n p b (place_of n k))) p ≡ left
    pub counts : view_node (afterwards s (slot_of n k) b) p ≡ left
    pub store : holds_key n k ≡ true → (g : held.Held) → held_shard left k ≡ some g → StoreAfter s (stores_put s n p b (place_of n k)) (held_row_of n k) g
    pub none : holds_key n k ≡ false → stores_put s n p b (place_of n k) ≡ s

  said : view_node after p ≡ (call (lent_for before n a) (view_node before n)).after
  said = same before after (lent_changes (stores_in s) (slot_of n k) a b)

  becomes : view_node (stores_in (stores_put s n p b (place_of n k))) p ≡ view_node after p → view_node before n ≡ view_node (stores_in s) n
      → ((i : ℕ) → i < length (used p) → let u = get_or (used p) i no_held_row in
      eqb u.slot (slot_of n k) ≡ true → length (vectors_in b u.held.last u.stored) ≡ u.stored)
      → (holds_key n k ≡ true → (g : held.Held) → held_shard (view_node after p) k ≡ some g → StoreAfter s (stores_put s n p b (place_of n k)) (held_row_of n k) g)
      → (holds_key n k ≡ false → stores_put s n p b (place_of n k) ≡ s) → Becomes
  becomes exit entry few store unwritten =
      let c = counted (stores_in s) in
      let slot = slot_of n k in
      let tells : view_node after p ≡ left =
      said
      ∙ ap (λ (f : Key → Bool). (call f (view_node before n)).after) (lent_any before (stores_in s) n a)
      ∙ ap (λ (v : held.Node). (call (lent_for (stores_in s) n a) v).after) entry in
      record {
        state = exit ∙ tells;
        store = λ e g q. store e g (ap (λ (v : held.Node). held_shard v k) tells ∙ q);
        none = unwritten;
        counts =
            counted-after s slot b p few
            ∙ same (lent_in c slot a) (lent_in c slot b) (lent_changes c slot a b)
            ∙ ap (λ (f : Key → Bool). (call f (view_node (lent_in c slot a) n)).after) (lent_any (lent_in c slot a) (stores_in s) n a)
            ∙ ap (λ (v : held.Node). (call (lent_for (stores_in s) n a) v).after) (counted-before s n (is-formed s n k l) slot a ∙ entry);
      }

  -- the shard is held, or none of the key begins
  pub same_after : SameSlots n p → slots_fit (used p) ≡ true → Puttable s n p b (place_of n k)
      → (ltb (place_of n k) n.count ≡ true → StoreFits (get_or p.held (place_of n k) no_held_row) b)
      → ((f : Key → Bool) (v : held.Node) (h : held.Held) → held_shard v k ≡ some h → CarriesAll v (call f v).after) → Becomes
  same_after slots_are fit w f carries =
      let formed = is-formed s n k l in
      by_case (ltb (place_of n k) n.count)
      (λ e.
      let under = ltb-true (place_of n k) n.count e in
      let fine = is-fine s n k l under in
      let well = is-well s n k l under in
      let x = get_or n.held (place_of n k) no_held_row in
      let carried : CarriesAll (view_node before n) (view_node after p) =
      subst (CarriesAll (view_node before n)) (sym said)
      (carries (lent_for before n a) (view_node before n) (view_held_row before x) (shard_some before n k l.inside (place_of n k) refl under)) in
      becomes (exit_view s n k formed l.inside under fine well p b slots_are fit carried l.room (l.bytes e) (w.shard e) (f e))
      (entry-view s n k formed l.inside under fine well)
      (exit_few s n k formed l.inside under fine well p b slots_are fit carried l.room (l.bytes e) (w.shard e) (f e))
      (λ z. exit_store s n k formed l.inside under fine well p b slots_are fit carried l.room (l.bytes e) (w.shard e) (f e))
      (λ z. not_both (holds_key n k) e z))
      (λ e.
      let gone = ltb-false (place_of n k) n.count e in
      becomes (exit_absent s n k formed l.inside gone p b slots_are) (entry_absent s n k formed l.inside gone a)
      (absent-few s n k formed l.inside gone p b slots_are)
      (λ z. not_both (holds_key n k) z e) (λ z. unwritten s n k formed l.inside gone p b))

  -- the shard of the key begins
  pub begun-after : n.count ≤ place_of n k → slots_of p ≡ insert_at (slots_of n) (lead (below_key k) (used n)) (lowest_free (used n))
      → slots_fit (used p) ≡ true → 0 < length b.keys → 0 < length b.places
      → ((f : Key → Bool) (v : held.Node) → held_shard v k ≡ none → PutIn v k (call f v).after) → Becomes
  begun-after gone slots_are fit keys places begins =
      let formed = is-formed s n k l in
      let j = lead (below_key k) (used n) in
      let v = view_node before n in
      ⊎_elim
      (λ e.
      let slots : HeldRow → ℕ = λ q. q.slot in
      let same : length (used p) ≡ length (used n) =
      sym (length-map (used p) (view_held_row after)) ∙ ap (λ (m : held.Node). length m.held) (said ∙ e) ∙ length-map (used n) (view_held_row before) in
      let low : j ≤ length (slots_of n) = omega (arith, lead-most (below_key k) (used n), length-map (used n) slots) in
      absurd (omega (arith, same, length-map (used p) slots, length-map (used n) slots, ap length slots_are, length-append (take j (slots_of n)) (lowest_free (used n) ∷ drop j (slots_of n)), length-take-le j (slots_of n) low, length-drop j (slots_of n))))
      (λ e.
      let g = e.0 in
      let place : lead (λ h. key_below h.key g.key) v.held ≡ j =
      ap (λ (q : Key). lead (λ h. key_below h.key q) v.held) e.1.key ∙ map-lead (view_held_row before) (λ h. key_below h.key k) (used n) in
      let stands : nth (view_node after p).held j ≡ some g =
      ap (λ (m : held.Node). nth m.held j) (said ∙ e.2) ∙ ap (nth _) (sym place) ∙ put-at g v.held in
      becomes (exit_begun s n k formed l.inside gone p b slots_are fit g e.1 stands keys places) (entry_absent s n k formed l.inside gone a)
      (begun-few s n k formed l.inside gone p b slots_are fit g e.1 stands keys places)
      (λ z. not_both (holds_key n k) z (le-ltb (place_of n k) n.count gone)) (λ z. unwritten s n k formed l.inside gone p b))
      (begins (lent_for before n a) v (shard-none before n k l.inside (place_of n k) refl gone))
