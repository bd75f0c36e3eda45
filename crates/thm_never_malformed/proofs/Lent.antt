-- Intact images are lent for every shard: both tests of the code pass (24). What they are read as is a well-formed node. Assumes nothing.
use Prim.Native.Nat.{ℕ, ◌*◌, ◌≤◌}
use mathlib.Core.Path.{◌≡◌, refl, sym, ap, subst, ◌∙◌}
use mathlib.Core.Bool.{Bool, true, cond}
use mathlib.Core.List.{List, [], ◌∷◌, map}
use native.Mathlib.Omega.{arith}
use lib.Dec.{leb}
use lib.ListN.{length}
use lib.Seq.{length-take-le, get_or-take}
use borrow.Author.Tests.{ltb-true, le-leb}
use Rattle.spec.specs.Lists.{◌and◌, every}
use Rattle.spec.specs.Keys.{Key}
use Rattle.spec.specs.Node.WellFormed.{well_formed_header, log_of, well_formed_node}
use Rattle.spec_laws.proofs.Lists.{and_true, and_left, and_right}
use Rattle.spec_laws.proofs.Map.Rows.{every_tail, every_cons}
use Rattle.spec_laws.proofs.Node.Formed.{FormedNode, node-formed}
use Rattle.log_store.proofs.Bits.{every-at}
use Rattle.node_header.specs.declared.HeldRow.{HeldRow}
use Rattle.node_header.specs.declared.Node.{Node}
use Rattle.node_header.specs.View.{Stores, view_held_row, view_node, used, no_held_row}
use Rattle.node_header.specs.Formed.{counts_fit, slots_fit, lent_node, formed_node}
use Rattle.node_header.specs.Slots.{slots_of}
use Rattle.node_header.proofs.Lists.{by_case}
use Rattle.node_header.proofs.Formed.{header-few, header-fit, formed-lent}
use Rattle.node_lent.specs.Lend.{place_of, lent_for}
use Rattle.image_header.specs.Image.{header_lent, node_at}
use Rattle.image_node.specs.Lent.{stores_size, holds_key, held_row_of, lent_store_in, lends_state}
use Rattle.image_node.specs.State.{stores_in, state_at, held_row_image}
use Rattle.image_node.proofs.Lent.{rows-eight}
use Rattle.image_node.proofs.State.{images_lent, images_test}
use Rattle.thm_never_malformed.specs.Intact.{Intact}
use Rattle.thm_never_malformed.proofs.Stores.{store-formed}
use Rattle.thm_never_malformed.proofs.Pairs.{StoreFits, Pairs, to_pairs, of_pairs}

-- the log of each shard
logs-formed : (s : List ℕ) (l : List HeldRow) → every (held_row_image s) l ≡ true → every log_of (map (view_held_row (stores_in s)) l) ≡ true
unfolding stores_in
logs-formed s [] e = unfold every in refl
logs-formed s (x ∷ xs) e =
    let t = every_tail (held_row_image s) x xs e in
    every_cons log_of (view_held_row (stores_in s) x) (map (view_held_row (stores_in s)) xs)
    (store-formed s (x.slot * 174080) x.held.last x.stored x.held.epoch.0 x.held.metric t.0) (logs-formed s xs t.1)

module _ (h s : List ℕ) (i : Intact h s) where
  abbrev n : Node
  n = node_at h

  -- ---- the tests

  pub lent-node : (z : Stores) → lent_node z n ≡ true
  lent-node z = sym (formed-lent n z) ∙ i.formed

  -- every row of the header is read
  pub rows_inside : n.count ≤ length n.held
  rows_inside = omega (arith, rows-eight h, header-few n i.formed)

  kept-passes : (k : Key) → holds_key n k ≡ true → held_row_image s (held_row_of n k) ≡ true
  kept-passes k e =
      let under = ltb-true (place_of n k) n.count e in
      subst (λ (x : HeldRow). held_row_image s x ≡ true) (get_or-take n.count n.held (place_of n k) no_held_row under)
      (every-at (held_row_image s) (used n) (place_of n k) no_held_row i.stores (omega (arith, length-take-le n.count n.held rows_inside)))

  images_lent_lem : (z : Stores) (k : Key) → images_lent z h s k ≡ true
  images_lent_lem z k =
      and_true (header_lent h) _ i.lent
      (and_true (leb stores_size (length s)) _ (le-leb stores_size (length s) i.size)
      (and_true (lent_node z n) _ (lent-node z)
      (by_case (holds_key n k)
      (λ e. ap (λ (b : Bool). cond b (held_row_image s (held_row_of n k)) true) e ∙ kept-passes k e)
      (λ e. ap (λ (b : Bool). cond b (held_row_image s (held_row_of n k)) true) e))))

  -- that of the bytes
  pub lends : (k : Key) → lends_state h s k ≡ true
  lends k =
      let z = stores_in s in
      and_left (lends_state h s k) (lent_for z n (lent_store_in s n k) k) (images_test z h s k ∙ images_lent_lem z k)

  -- and that of what they are read as
  pub lent_for_lem : (z : Stores) (k : Key) → lent_for z n (lent_store_in s n k) k ≡ true
  lent_for_lem z k = and_right (lends_state h s k) (lent_for z n (lent_store_in s n k) k) (images_test z h s k ∙ images_lent_lem z k)

  -- ---- the state

  pub header-well : (z : Stores) → well_formed_header (view_node z n) ≡ true
  unfolding lent_node
  header-well z =
      and_right (slots_fit (used n)) _ (and_right (every counts_fit (used n)) _ (and_right (leb n.count 8) _ (lent-node z)))

  pub state_formed : FormedNode (state_at h s)
  unfolding well_formed_node
  state_formed =
      node-formed (state_at h s)
      (and_true (well_formed_header (state_at h s)) (every log_of (state_at h s).held) (header-well (stores_in s)) (logs-formed s (used n) i.stores))

  pub state_pairs : Pairs (StoreFits s) (slots_of n) (state_at h s).held
  state_pairs = to_pairs s (used n) (header-fit n i.formed) i.stores

-- images whose shards have such stores in their slots
pub intact_of : (h s : List ℕ) → header_lent h ≡ true → formed_node (node_at h) ≡ true → stores_size ≤ length s
    → Pairs (StoreFits s) (slots_of (node_at h)) (state_at h s).held → Intact h s
intact_of h s lent formed size pairs =
    record { lent = lent; formed = formed; size = size; stores = of_pairs s (used (node_at h)) (header-fit (node_at h) formed) pairs }
