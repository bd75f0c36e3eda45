-- The images that a call at the shard of a key was lent, as its promises speak of them: a family of stores with the shard's columns in its
-- slot. Read with it the header is the state that the bytes are, and passes the definition's test (24). Assumes nothing.
use Prim.Native.Nat.{ℕ}
use mathlib.Core.Path.{◌≡◌, refl, sym, ap, subst, ◌∙◌}
use mathlib.Core.Bool.{Bool, true, cond}
use mathlib.Core.List.{List}
use lib.Dec.{leb, ltb}
use lib.ListN.{get_or}
use borrow.Author.Tests.{ltb-true, ltb-false}
use Rattle.spec.specs.Lists.{◌and◌}
use Rattle.spec.specs.Keys.{Key}
use Rattle.spec.specs.Layout.Format.{Bytes}
use Rattle.spec.specs.Node.Held as held
use Rattle.spec.specs.Node.WellFormed.{well_formed_lent}
use Rattle.spec_laws.proofs.Lists.{and_right}
use Rattle.log_store.specs.Store.{well_formed_store}
use Rattle.log_calls.proofs.FitLaws.{fits-well}
use Rattle.node_header.specs.declared.HeldRow.{HeldRow}
use Rattle.node_header.specs.declared.Node.{Node}
use Rattle.node_header.specs.View.{Stores, view_node, no_held_row}
use Rattle.node_header.specs.Formed.{lent_node}
use Rattle.node_header.proofs.Lists.{by_case}
use Rattle.node_lent.specs.Lend.{LentStore, store_of, held_row_store, place_of, slot_of, lent_at, lent_for, Lends, Changes}
use Rattle.image_header.specs.Image.{node_at}
use Rattle.image_store.specs.Read.{all_readable}
use Rattle.image_node.specs.Lent.{begin_of, held_row_readable, lent_store_at, lent_store_in, lends_state}
use Rattle.image_node.specs.State.{stores_in, state_at}
use Rattle.image_node.proofs.Family.{lent_in, lent_changes}
use Rattle.image_node.proofs.Exit.{entry-view}
use Rattle.image_node.proofs.Begun.{entry_absent}
use Rattle.image_node.proofs.After.{Lent, lent_any, is-formed}
use Rattle.image_node.proofs.Lent.{is-lent}
use Rattle.thm_durable.proofs.Lent.{lent-well}

module _ (h s : List ℕ) (k : Key) where
  abbrev n : Node
  n = node_at h

  -- the shard's columns at entry
  abbrev pub columns : LentStore
  columns = lent_store_in s n k

  -- the test of the contract (24), by the shard that a message names
  abbrev pub test : Key → Bool
  test = lent_for (stores_in s) n columns

  -- the stores with those columns
  abbrev pub before : Stores
  before = lent_in (stores_in s) (slot_of n k) columns

  -- .. and after a call that left others
  abbrev pub after : LentStore → Stores
  after b = lent_in (stores_in s) (slot_of n k) b

  pub changes : (b : LentStore) → Changes before (after b) (slot_of n k) columns b
  changes b = lent_changes (stores_in s) (slot_of n k) columns b

  pub lends_before : Lends before (slot_of n k) columns
  lends_before = (changes columns).before

  -- the test looks at no other store
  pub same_test : lent_for before n columns ≡ test
  same_test = lent_any before (stores_in s) n columns

  module _ (lends : lends_state h s k ≡ true) (bytes : Bytes s) (passed : test k ≡ true) where
    lent : Lent s n k
    lent = is-lent h s k lends (λ z. ap (λ (f : Key → Bool). f k) (lent_any z (stores_in s) n columns) ∙ passed) (λ e. bytes)

    abbrev x : HeldRow
    x = get_or n.held (place_of n k) no_held_row

    module _ (is : ltb (place_of n k) n.count ≡ true) where
      fine : all_readable s (begin_of x) x.held.last ≡ true
      unfolding held_row_readable
      fine =
          let r : held_row_readable s x ≡ true = sym (ap (λ (c : Bool). cond c (held_row_readable s x) true) is) ∙ lent.fine in
          and_right (leb x.held.last 1024) _ (and_right (ltb x.slot 8) _ r)

      stored : well_formed_store (store_of (lent_store_at s x) x) ≡ true
      unfolding lent_for lent_at held_row_store
      stored =
          let r : lent_at n columns (place_of n k) ≡ true = and_right (lent_node (stores_in s) n) _ passed in
          let q : held_row_store (lent_store_at s x) x ≡ true = rw is at r in
          fits-well (store_of (lent_store_at s x) x) q

    pub entry : view_node before n ≡ state_at h s
    entry =
        let formed = is-formed s n k lent in
        by_case (ltb (place_of n k) n.count)
        (λ e. entry-view s n k formed lent.inside (ltb-true (place_of n k) n.count e) (fine e) (stored e))
        (λ e. entry_absent s n k formed lent.inside (ltb-false (place_of n k) n.count e) columns)

    pub state_well : well_formed_lent (state_at h s) k ≡ true
    state_well =
        subst (λ (v : held.Node). well_formed_lent v k ≡ true) entry
        (lent-well before (slot_of n k) columns n k lends_before refl (ap (λ (f : Key → Bool). f k) same_test ∙ passed))
