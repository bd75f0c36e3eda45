-- The ways out of the test in place. Assumes nothing.
use Prim.Native.Nat.{ℕ, ◌+◌, ◌*◌, ◌≤◌, ◌<◌}
use mathlib.Core.Path.{◌≡◌, refl, sym, ap, subst, ◌∙◌}
use mathlib.Core.Bool.{Bool, true, false, cond}
use mathlib.Core.List.{List}
use native.Mathlib.Omega.{arith}
use borrow.Author.Tests.{lt-ltb, le-ltb, le-leb, lt-leb}
use lib.Dec.{leb}
use lib.ListN.{length, get_or, take}
use lib.Seq.{get_or-take}
use Rattle.spec.specs.Lists.{◌and◌, lead}
use Rattle.spec.specs.Keys.{Key}
use Rattle.spec.specs.Layout.Format.{number_at}
use Rattle.spec_laws.proofs.Lists.{and_left, and_right, not_both}
use Rattle.node_header.specs.declared.HeldRow.{HeldRow}
use Rattle.node_header.specs.declared.Node.{Node}
use Rattle.node_header.specs.View.{Stores, no_held_row, other_key, used}
use Rattle.node_header.specs.Formed.{formed_node, lent_node}
use Rattle.node_header.proofs.Formed.{header-few, header-apart, formed-lent}
use Rattle.image_header_row.specs.Rows.{held_row_at}
use Rattle.image_header.specs.Image.{header_lent, node_at}
use Rattle.image_header_check.specs.Rows.{Counts}
use Rattle.image_header_check.proofs.Rows.{counted, held_long, row_at, slot_is, last-is, stored_is}
use Rattle.node_lent.specs.Lend.{place_of, held_row_store, lent_at, lent_for}
use Rattle.node_lent.specs.declared.Lent.TheVariants as L
use Rattle.node_lent.proofs.Lend.{lent_malformed, absent-found, held_found}
use Rattle.image_store.specs.Image.{well_formed_image}
use Rattle.image_node.specs.Lent.{stores_size, no_lent_store, begin_of, holds_key, held_row_of, lent_store_at, lent_store_in, lends_state}
use Rattle.image_node.specs.State.{stores_in, held_row_image}
use Rattle.image_node.proofs.Pick.{floats-whole}
use Rattle.image_node.proofs.Slots.{slots-below}
use Rattle.image_node.proofs.State.{images_lent, images_test}
use Rattle.image_node_check.specs.Find.{held_row_in, AbsentIn, FoundIn, FindsIn}

module _ (h s : List ℕ) (k : Key) where
  abbrev n : Node
  n = node_at h

  -- ---- the bytes are no header, or too few for eight stores

  pub no_header : header_lent h ≡ false → FindsIn h s k L.Malformed
  unfolding lends_state
  no_header e l = not_both (header_lent h) (and_left (header_lent h) _ l) e

  pub no_stores : length s < 1392640 → FindsIn h s k L.Malformed
  unfolding lends_state
  no_stores e l =
      not_both (leb stores_size (length s))
      (and_left (leb stores_size (length s)) _ (and_right (leb n.count 8) _ (and_right (header_lent h) _ l))) (lt-leb stores_size (length s) e)

  pub unformed : formed_node n ≡ false → FindsIn h s k L.Malformed
  unformed e l = lent_malformed n k (lent_store_in s n k) (λ z. sym e ∙ formed-lent n z)

  -- ---- a header and eight stores

  module _ (lent : header_lent h ≡ true) (formed : formed_node n ≡ true) (long : 1392640 ≤ length s) where
    -- the store of a shard that is held decides
    images_are : (z : Stores) → images_lent z h s k ≡ cond (holds_key n k) (held_row_image s (held_row_of n k)) true
    unfolding ◌and◌
    images_are z =
        let node : lent_node z n ≡ true = sym (formed-lent n z) ∙ formed in
        rw (lent, le-leb stores_size (length s) long, node)

    lends_so : cond (holds_key n k) (held_row_image s (held_row_of n k)) true ≡ true → lends_state h s k ≡ true
    lends_so e =
        let z = stores_in s in
        and_left (lends_state h s k) (lent_for z n (lent_store_in s n k) k) (images_test z h s k ∙ images_are z ∙ e)

    lent_so : cond (holds_key n k) (held_row_image s (held_row_of n k)) true ≡ true → lent_at n (lent_store_in s n k) (place_of n k) ≡ true
    unfolding lent_for
    lent_so e =
        let z = stores_in s in
        and_right (lent_node z n) (lent_at n (lent_store_in s n k) (place_of n k))
        (and_right (lends_state h s k) (lent_for z n (lent_store_in s n k) k) (images_test z h s k ∙ images_are z ∙ e))

    module _ (count : ℕ) (counts : Counts h count) (at : ℕ) (is : at ≡ lead (other_key k) (take count n.held)) where
      same_count : n.count ≡ count
      same_count = counted h ∙ counts.2

      place : at ≡ place_of n k
      place = is ∙ ap (λ (c : ℕ). lead (other_key k) (take c n.held)) (sym same_count)

      inside : n.count ≤ length n.held
      inside = let l = held_long h in let c = same_count in let f = counts.1 in omega arith

      pub not_held_lem : count ≤ at → FindsIn h s k L.Absent
      not_held_lem gone =
          let c = same_count in
          let p = place in
          let none : holds_key n k ≡ false = le-ltb (place_of n k) n.count (omega arith) in
          let passes = ap (λ (b : Bool). cond b (held_row_image s (held_row_of n k)) true) none in
          let floats : 32768 ≤ length (lent_store_in s n k).columns.floats =
          subst (λ (b : Bool). 32768 ≤ length (cond b (lent_store_at s (held_row_of n k)) no_lent_store).columns.floats) (sym none) (omega (arith, floats-whole)) in
          record {
            lends = lends_so passes;
            absent = absent-found n k (lent_store_in s n k) formed at place inside (omega arith) floats;
          }

      module _ (under : at < count) where
        abbrev x : HeldRow
        x = held_row_in h s k at

        abbrev row : ℕ
        row = 48 + 1280 * at

        row_is : x ≡ held_row_at h row
        row_is = row_at h count counts at no_held_row under

        below : x.slot < 8
        below =
            let c = same_count in
            subst (λ (y : HeldRow). y.slot < 8) (get_or-take n.count n.held at no_held_row (omega arith)) (slots-below (used n) (header-apart n formed) at)

        pub slot-few : number_at 8 h (row + 48) < 8
        slot-few = let b = below in let e = ap (λ (y : HeldRow). y.slot) row_is ∙ slot_is h row in omega arith

        held : holds_key n k ≡ true
        held = let c = same_count in let p = place in lt-ltb (place_of n k) n.count (omega arith)

        decides : cond (holds_key n k) (held_row_image s (held_row_of n k)) true ≡ held_row_image s x
        decides =
            ap (λ (b : Bool). cond b (held_row_image s (held_row_of n k)) true) held
            ∙ ap (λ (i : ℕ). held_row_image s (get_or n.held i no_held_row)) (sym place)

        -- b the answer of the store's test, with the numbers that were read
        module _ (slot last stored : ℕ) (slot_read : slot ≡ number_at 8 h (row + 48)) (last-read : last ≡ number_at 8 h (row + 72))
            (stored-read : stored ≡ number_at 8 h (row + 56)) (b : Bool) (tested : b ≡ well_formed_image s (slot * 174080) last stored) where
          tells : b ≡ held_row_image s x
          tells =
              let e = slot_read ∙ sym (slot_is h row) ∙ sym (ap (λ (y : HeldRow). y.slot) row_is) in
              let f = last-read ∙ sym (last-is h row) ∙ sym (ap (λ (y : HeldRow). y.held.last) row_is) in
              let g = stored-read ∙ sym (stored_is h row) ∙ sym (ap (λ (y : HeldRow). y.stored) row_is) in
              tested ∙ ap (λ (i : ℕ). well_formed_image s (i * 174080) last stored) e
              ∙ ap (λ (i : ℕ). well_formed_image s (begin_of x) i stored) f
              ∙ ap (λ (i : ℕ). well_formed_image s (begin_of x) x.held.last i) g

          pub no_store : b ≡ false → FindsIn h s k L.Malformed
          no_store e l z =
              let none = images_test z h s k ∙ images_are z ∙ decides ∙ sym tells ∙ e in
              sym (ap (λ (c : Bool). c and lent_for z n (lent_store_in s n k) k) l ∙ (unfold ◌and◌ in refl)) ∙ none

          pub found_here : b ≡ true → FindsIn h s k (L.At at)
          unfolding lent_at
          found_here e =
              let well = sym tells ∙ e in
              let passes = decides ∙ well in
              let c = same_count in
              let small = below in
              let kept : held_row_store (lent_store_in s n k) x ≡ true =
              subst (λ (i : ℕ). held_row_store (lent_store_in s n k) (get_or n.held i no_held_row) ≡ true) (sym place)
              (sym (ap (λ (d : Bool). cond d (held_row_store (lent_store_in s n k) (held_row_of n k)) (leb 32768 (length (lent_store_in s n k).columns.floats))) held) ∙ lent_so passes) in
              record {
                lends = lends_so passes;
                found = held_found n k (lent_store_in s n k) formed at place inside (omega arith) kept;
                counts = (counts.0, omega (arith, counts.1), sym (counted h));
                slot = below;
                room = omega arith;
                well = well;
              }
