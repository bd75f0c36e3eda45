-- The two tests of the code, that of the bytes and `node_lent`'s of what they are read as, say together what the paper asks of the images (24): a
-- header and eight stores are there, the header passes its test, and the store of a shard that is held is well formed. Assumes nothing.
use Prim.Native.Nat.{ℕ, zero, suc, ◌+◌, ◌≤◌, ◌<◌}
use mathlib.Core.Path.{◌≡◌, refl, sym, ap, subst, ◌∙◌}
use mathlib.Core.Bool.{Bool, true, false, cond}
use mathlib.Core.List.{List, [], ◌∷◌}
use native.Mathlib.Omega.{arith}
use lib.Dec.{leb, ltb}
use lib.ListN.{length, get_or, take, drop, length-drop}
use lib.Seq.{length-take-le, get_or-take}
use borrow.Author.Tests.{ltb-true, lt-ltb, leb-true, le-leb}
use Rattle.spec.specs.Lists.{◌and◌, every}
use Rattle.spec.specs.Keys.{Key}
use Rattle.spec_laws.proofs.Lists.{and_true, and_left, and_right}
use Rattle.log_store.specs.Store.{Sized, well_formed_store}
use Rattle.log_store.proofs.Facts.{facts}
use Rattle.log_check.proofs.Answers.{true_if}
use Rattle.log_calls.proofs.FitLaws.{fits-well, fits-from}
use Rattle.node_header.specs.declared.HeldRow.{HeldRow}
use Rattle.node_header.specs.declared.Node.{Node}
use Rattle.node_header.specs.View.{Stores, used, no_held_row}
use Rattle.node_header.specs.Formed.{slots_fit, counts_fit, lent_node}
use Rattle.node_header.proofs.Lists.{by_case}
use Rattle.node_lent.specs.Lend.{store_of, held_row_store, place_of, lent_at, lent_for}
use Rattle.image_header.specs.Image.{header_lent, node_at}
use Rattle.image_store.specs.Read.{columns_at, all_readable}
use Rattle.image_store.proofs.Words.{words-length}
use Rattle.image_store.proofs.Test.{image_test}
use Rattle.image_node.specs.State.{held_row_image}
use Rattle.image_node.proofs.Pick.{floats-whole}
use Rattle.image_node.proofs.Slots.{slots-below}
use Rattle.image_node.specs.Lent.{stores_size, no_lent_store, begin_of, held_row_readable, lent_store_at, holds_key, held_row_of, readable, lent_store_in, lends_state}

-- 'Who is turned down', 24, of the images, for a call that names the key
abbrev pub images_lent : Stores → (header stores : List ℕ) → Key → Bool
images_lent z h s k =
    header_lent h and (leb stores_size (length s) and (lent_node z (node_at h) and cond (holds_key (node_at h) k) (held_row_image s (held_row_of (node_at h) k)) true))

-- ---- the header is one

lent-few : (z : Stores) (n : Node) → lent_node z n ≡ true → leb n.count 8 ≡ true
unfolding lent_node
lent-few z n e = and_left (leb n.count 8) _ e

slot-below : (z : Stores) (n : Node) → lent_node z n ≡ true → (at : ℕ) → at < n.count → (get_or n.held at no_held_row).slot < 8
unfolding lent_node
slot-below z n e at under =
    let t = and_right (every counts_fit (used n)) _ (and_right (leb n.count 8) _ e) in
    subst (λ (x : HeldRow). x.slot < 8) (get_or-take n.count n.held at no_held_row under) (slots-below (used n) (and_left (slots_fit (used n)) _ t) at)

-- ---- the columns read have their sizes

module _ (s : List ℕ) (x : HeldRow) (there : 1392640 ≤ length s) (slot : x.slot < 8) where
  bytes_whole : (at : ℕ) → at ≤ 1391616 → length (take 1024 (drop at s)) ≡ 1024
  bytes_whole at h = length-take-le 1024 (drop at s) (omega (arith, length-drop at s))

  read-sized : Sized (store_of (lent_store_at s x) x)
  unfolding lent_store_at columns_at
  read-sized = record {
    epochs = words-length 8 1024 s (begin_of x);
    offsets = words-length 8 1024 s (begin_of x + 8192);
    ids = words-length 8 1024 s (begin_of x + 16384);
    codes = bytes_whole (begin_of x + 24576) (omega arith);
    lengths = bytes_whole (begin_of x + 25600) (omega arith);
    keys = words-length 8 1024 s (begin_of x + 157696);
    places = words-length 8 1024 s (begin_of x + 165888);
  }

  tests_same : all_readable s (begin_of x) x.held.last and well_formed_store (store_of (lent_store_at s x) x) ≡ held_row_image s x
  unfolding lent_store_at
  tests_same = image_test s (begin_of x) x.held.last x.stored no_lent_store.columns.floats floats-whole

  kept_to : held_row_readable s x ≡ true → held_row_store (lent_store_at s x) x ≡ true → held_row_image s x ≡ true
  unfolding held_row_readable held_row_store
  kept_to r w =
      sym tests_same
      ∙ and_true (all_readable s (begin_of x) x.held.last) (well_formed_store (store_of (lent_store_at s x) x))
      (and_right (leb x.held.last 1024) _ (and_right (ltb x.slot 8) _ r)) (fits-well (store_of (lent_store_at s x) x) w)

  kept_from : held_row_image s x ≡ true → (held_row_readable s x ≡ true) × (held_row_store (lent_store_at s x) x ≡ true)
  unfolding held_row_readable held_row_store
  kept_from e =
      let t = tests_same ∙ e in
      let r = and_left (all_readable s (begin_of x) x.held.last) _ t in
      let w = and_right (all_readable s (begin_of x) x.held.last) _ t in (
        and_true (ltb x.slot 8) _ (lt-ltb x.slot 8 slot)
            (and_true (leb x.held.last 1024) _ (le-leb x.held.last 1024 (facts (store_of (lent_store_at s x) x) w).count) r),
        fits-from (store_of (lent_store_at s x) x) read-sized w,
      )

-- ---- the whole

module _ (z : Stores) (h s : List ℕ) (k : Key) where
  abbrev n : Node
  n = node_at h

  abbrev x : HeldRow
  x = held_row_of n k

  lent-kept : holds_key n k ≡ true → lent_at n (lent_store_in s n k) (place_of n k) ≡ held_row_store (lent_store_at s x) x
  unfolding lent_at
  lent-kept q = rw q refl

  lent-absent : holds_key n k ≡ false → lent_at n (lent_store_in s n k) (place_of n k) ≡ true
  unfolding lent_at
  lent-absent q = rw q (le-leb 32768 (length no_lent_store.columns.floats) (omega (arith, floats-whole)))

  to_images : lends_state h s k and lent_for z n (lent_store_in s n k) k ≡ true → images_lent z h s k ≡ true
  unfolding lends_state lent_for held_row_readable
  to_images e =
      let d = and_left (header_lent h and (leb n.count 8 and (leb 1392640 (length s) and readable s n k))) _ e in
      let f = and_right (header_lent h and (leb n.count 8 and (leb 1392640 (length s) and readable s n k))) _ e in
      let t = and_right (leb n.count 8) _ (and_right (header_lent h) _ d) in
      let size = and_left (leb 1392640 (length s)) _ t in
      let node = and_left (lent_node z n) _ f in
      and_true (header_lent h) _ (and_left (header_lent h) _ d)
      (and_true (leb 1392640 (length s)) _ size
      (and_true (lent_node z n) _ node
      (by_case (holds_key n k)
      (λ q.
      let under = ltb-true (place_of n k) n.count q in
      let r = sym (ap (λ (c : Bool). cond c (held_row_readable s x) true) q) ∙ and_right (leb 1392640 (length s)) (readable s n k) t in
      ap (λ (c : Bool). cond c (held_row_image s x) true) q
      ∙ kept_to s x (leb-true 1392640 (length s) size) (slot-below z n node (place_of n k) under) r
      (sym (lent-kept q) ∙ and_right (lent_node z n) (lent_at n (lent_store_in s n k) (place_of n k)) f))
      (λ q. ap (λ (c : Bool). cond c (held_row_image s x) true) q))))

  of_images : images_lent z h s k ≡ true → lends_state h s k and lent_for z n (lent_store_in s n k) k ≡ true
  unfolding lends_state lent_for
  of_images e =
      let t = and_right (header_lent h) _ e in
      let size = and_left (leb 1392640 (length s)) _ t in
      let u = and_right (leb 1392640 (length s)) _ t in
      let node = and_left (lent_node z n) _ u in
      let both : (readable s n k ≡ true) × (lent_at n (lent_store_in s n k) (place_of n k) ≡ true) =
      by_case (holds_key n k)
      (λ q.
      let under = ltb-true (place_of n k) n.count q in
      let i = sym (ap (λ (c : Bool). cond c (held_row_image s x) true) q) ∙ and_right (lent_node z n) _ u in
      let g = kept_from s x (leb-true 1392640 (length s) size) (slot-below z n node (place_of n k) under) i in
      (ap (λ (c : Bool). cond c (held_row_readable s x) true) q ∙ g.0, lent-kept q ∙ g.1))
      (λ q. (ap (λ (c : Bool). cond c (held_row_readable s x) true) q, lent-absent q)) in
      and_true (header_lent h and (leb n.count 8 and (leb 1392640 (length s) and readable s n k))) _
      (and_true (header_lent h) _ (and_left (header_lent h) _ e)
      (and_true (leb n.count 8) _ (lent-few z n node) (and_true (leb 1392640 (length s)) _ size both.0)))
      (and_true (lent_node z n) _ node both.1)

  -- the two tests of the code are the test of the images
  pub images_test : lends_state h s k and lent_for z n (lent_store_in s n k) k ≡ images_lent z h s k
  images_test = true_if (lends_state h s k and lent_for z n (lent_store_in s n k) k) (images_lent z h s k) to_images of_images
