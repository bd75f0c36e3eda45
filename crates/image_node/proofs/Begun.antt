-- The stores at entry and at exit of a call at a shard that is not held: no store is written, and a shard that begins has an empty log and
-- no rows in a slot that none had, whose bytes may be anything. Assumes nothing.
use Prim.Native.Nat.{ℕ, zero, suc, ◌+◌, ◌≤◌, ◌<◌}
use mathlib.Core.Path.{◌≡◌, refl, sym, ap, subst, ◌∙◌}
use mathlib.Core.Bool.{Bool, true, false, cond}
use mathlib.Core.List.{List, [], ◌∷◌, map}
use mathlib.Core.Option.{some}
use native.Mathlib.Omega.{arith}
use lib.Dec.{eqb, ltb}
use lib.ListN.{length, get_or, take, drop, length-map, length-append, length-drop}
use lib.Seq.{length-take-le, get_or_at}
use borrow.Author.Tests.{eqb-true, eq-eqb, ltb-true, ltb-false, le-ltb}
use Rattle.spec.specs.Lists.{nth, lead}
use Rattle.spec.specs.Keys.{Key}
use Rattle.spec.specs.Log.{Log, Vectors}
use Rattle.spec.specs.Node.Held as held
use Rattle.spec_laws.proofs.Lists.{not_both, nth-same}
use Rattle.spec_retained.proofs.Begin.{Fresh}
use Rattle.node_shard.specs.View.{insert_at}
use Rattle.node_shard.proofs.Loops.{lead-most}
use Rattle.log_store.specs.View.{log_of}
use Rattle.log_store.specs.Table.{Row, zipped, rows_of, vector_of, vectors_of}
use Rattle.node_header.specs.declared.HeldRow.{HeldRow}
use Rattle.node_header.specs.declared.Node.{Node}
use Rattle.node_header.specs.View.{Stores, view_held_row, view_node, used, no_held_row}
use Rattle.node_header.specs.Formed.{formed_node, slots_fit}
use Rattle.node_header.specs.Slots.{slots_of, SameSlots}
use Rattle.node_header.specs.Grow.{lowest_free, below_key}
use Rattle.node_header.proofs.Lists.{by_case}
use Rattle.node_header.proofs.Formed.{header-apart}
use Rattle.node_header.proofs.Grow.{slot_free_open, view-bare}
use Rattle.node_lent.specs.Lend.{LentStore, place_of, slot_of}
use Rattle.image_node.specs.Lent.{lent_store_in, store_put, stores_put}
use Rattle.image_node.specs.State.{stores_in}
use Rattle.image_node.proofs.Slots.{slots-below, slots-one, none-on, slot_at, nodes_agree, view-nth}
use Rattle.image_node.proofs.Family.{vectors_in, lent_in, own-log, own-vectors, other-kept}

-- a slot that no list has
not_eqb : (a b : ℕ) → (a ≡ b → ⊥) → eqb a b ≡ false
not_eqb a b d = by_case (eqb a b) (λ e. absurd (d (eqb-true a b e))) (λ e. e)

-- columns that have a place make a row of each count but none
no_rows : (ks ps : List ℕ) (m : ℕ) → 0 < length ks → 0 < length ps → length (rows_of ks ps m) ≡ 0 → m ≡ 0
unfolding rows_of zipped
no_rows ks ps zero a b e = refl
no_rows [] ps (suc m) a b e = absurd (omega arith)
no_rows (k ∷ ks) [] (suc m) a b e = absurd (omega arith)
no_rows (k ∷ ks) (p ∷ ps) (suc m) a b e = absurd (omega arith)

module _ (s : List ℕ) (n : Node) (k : Key) (formed : formed_node n ≡ true) (inside : n.count ≤ length n.held) (gone : n.count ≤ place_of n k) where
  abbrev slot : ℕ
  slot = slot_of n k

  own : slot ≡ lowest_free (used n)
  unfolding slot_of
  own = rw (le-ltb (place_of n k) n.count gone) refl

  -- no shard has the slot
  free : (i : ℕ) → i < length (used n) → eqb (get_or (used n) i no_held_row).slot slot ≡ false
  free i h =
      not_eqb (get_or (used n) i no_held_row).slot slot
      (λ e.
      by_case (ltb (lowest_free (used n)) 8)
      (λ q. none-on (lowest_free (used n)) (used n) i (slot_free_open (used n) (ltb-true (lowest_free (used n)) 8 q)) h (e ∙ own))
      (λ q. omega (arith, ltb-false (lowest_free (used n)) 8 q, slots-below (used n) (header-apart n formed) i, e ∙ own)))

  pub entry_absent : (a : LentStore) → view_node (lent_in (stores_in s) slot a) n ≡ view_node (stores_in s) n
  entry_absent a =
      nodes_agree (lent_in (stores_in s) slot a) (stores_in s) n
      (λ i h. other-kept (stores_in s) slot a (get_or (used n) i no_held_row) (free i h))

  module _ (p : Node) (b : LentStore) where
    abbrev after : Stores
    after = lent_in (stores_in s) slot b

    pub unwritten : stores_put s n p b (place_of n k) ≡ s
    unwritten =
        ap (λ (t : Bool). cond t (store_put s (get_or n.held (place_of n k) no_held_row) (get_or p.held (place_of n k) no_held_row) b) s)
        (le-ltb (place_of n k) n.count gone)

    -- ---- no shard begins

    same-slot : SameSlots n p → (i : ℕ) → i < length (used p) → eqb (get_or (used p) i no_held_row).slot slot ≡ false
    same-slot slots_are i h =
        let m : length (used p) ≡ length (used n) =
        sym (length-map (used p) (λ (q : HeldRow). q.slot)) ∙ ap length slots_are ∙ length-map (used n) (λ (q : HeldRow). q.slot) in
        let e : (get_or (used p) i no_held_row).slot ≡ (get_or (used n) i no_held_row).slot = sym (slot_at p i) ∙ ap (λ (l : List ℕ). get_or l i 0) slots_are ∙ slot_at n i in
        ap (λ (j : ℕ). eqb j slot) e ∙ free i (omega arith)

    pub exit_absent : SameSlots n p → view_node (stores_in (stores_put s n p b (place_of n k))) p ≡ view_node after p
    exit_absent slots_are =
        ap (λ (t : List ℕ). view_node (stores_in t) p) unwritten
        ∙ sym (nodes_agree after (stores_in s) p (λ i h. other-kept (stores_in s) slot b (get_or (used p) i no_held_row) (same-slot slots_are i h)))

    -- no shard is in the slot
    pub absent-few : SameSlots n p → (i : ℕ) → i < length (used p) → let u = get_or (used p) i no_held_row in
        eqb u.slot slot ≡ true → length (vectors_in b u.held.last u.stored) ≡ u.stored
    absent-few slots_are i h e = not_both (eqb (get_or (used p) i no_held_row).slot slot) e (same-slot slots_are i h)

    -- ---- one begins

    module _ (slots_are : slots_of p ≡ insert_at (slots_of n) (lead (below_key k) (used n)) (lowest_free (used n))) (fit : slots_fit (used p) ≡ true)
        (g : held.Held) (fresh : Fresh k g) (stands : nth (view_node after p).held (lead (below_key k) (used n)) ≡ some g)
        (keys : 0 < length b.keys) (places : 0 < length b.places) where
      abbrev j : ℕ
      j = lead (below_key k) (used n)

      abbrev y : HeldRow
      y = get_or (used p) j no_held_row

      low : j ≤ length (slots_of n)
      low = omega (arith, lead-most (below_key k) (used n), length-map (used n) (λ (q : HeldRow). q.slot))

      more : length (used p) ≡ length (slots_of n) + 1
      more =
          let l = slots_of n in
          let a = length-append (take j l) (lowest_free (used n) ∷ drop j l) in
          let m = low in
          sym (length-map (used p) (λ (q : HeldRow). q.slot)) ∙ ap length slots_are ∙ omega (arith, length-take-le j l m, length-drop j l)

      slot_is : y.slot ≡ slot
      slot_is =
          sym (slot_at p j) ∙ ap (λ (l : List ℕ). get_or l j 0) slots_are
          ∙ get_or_at (take j (slots_of n)) (lowest_free (used n)) (drop j (slots_of n)) 0 j (length-take-le j (slots_of n) low) ∙ sym own

      there : j < length (used p)
      there = omega (arith, more, low)

      is-fresh : g ≡ view_held_row after y
      is-fresh = nth-same (view_node after p).held j g (view_held_row after y) stands (view-nth after p j there)

      slotted : eqb y.slot slot ≡ true
      slotted = eq-eqb y.slot slot slot_is

      no_last : y.held.last ≡ 0
      no_last =
          let e : after.log y.slot y.held.last ≡ [] = ap (λ (q : held.Held). q.replica.log) (sym is-fresh) ∙ fresh.log in
          sym (after.long y.slot y.held.last) ∙ ap length e

      no_vectors : vectors_in b y.held.last y.stored ≡ []
      no_vectors =
          sym (own-vectors (stores_in s) slot b y.slot slotted y.held.last y.stored)
          ∙ ap (λ (q : held.Held). q.replica.vectors) (sym is-fresh) ∙ fresh.vectors

      no_stored : y.stored ≡ 0
      unfolding vectors_of
      no_stored =
          let rs = rows_of b.keys b.places y.stored in
          no_rows b.keys b.places y.stored keys places
          (sym (length-map rs (vector_of (log_of b.columns y.held.last))) ∙ ap length no_vectors)

      bare : view_held_row (stores_in s) y ≡ view_held_row after y
      bare = view-bare (stores_in s) y no_last no_stored ∙ sym (view-bare after y no_last no_stored)

      begun_kept : (i : ℕ) → i < length (used p) → view_held_row (stores_in s) (get_or (used p) i no_held_row) ≡ view_held_row after (get_or (used p) i no_held_row)
      begun_kept i h =
          let u = get_or (used p) i no_held_row in
          by_case (eqb u.slot slot)
          (λ e.
          let is : i ≡ j = slots-one (used p) fit i j h there (eqb-true u.slot slot e ∙ sym slot_is) in
          subst (λ (m : ℕ). view_held_row (stores_in s) (get_or (used p) m no_held_row) ≡ view_held_row after (get_or (used p) m no_held_row)) (sym is) bare)
          (λ e. sym (other-kept (stores_in s) slot b u e))

      pub exit_begun : view_node (stores_in (stores_put s n p b (place_of n k))) p ≡ view_node after p
      exit_begun = ap (λ (t : List ℕ). view_node (stores_in t) p) unwritten ∙ nodes_agree (stores_in s) after p begun_kept

      -- it counts no row
      pub begun-few : (i : ℕ) → i < length (used p) → let u = get_or (used p) i no_held_row in
          eqb u.slot slot ≡ true → length (vectors_in b u.held.last u.stored) ≡ u.stored
      begun-few i h e =
          let is : i ≡ j = slots-one (used p) fit i j h there (eqb-true (get_or (used p) i no_held_row).slot slot e ∙ sym slot_is) in
          subst (λ (m : ℕ). length (vectors_in b (get_or (used p) m no_held_row).held.last (get_or (used p) m no_held_row).stored) ≡ (get_or (used p) m no_held_row).stored) (sym is)
          (ap length no_vectors ∙ sym no_stored)
