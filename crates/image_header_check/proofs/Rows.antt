-- The rows of a header that the bytes are read as, each at its place in the bytes. Assumes nothing.
use Prim.Native.Nat.{ℕ, zero, suc, ◌+◌, ◌-◌, ◌*◌, ◌≤◌, ◌<◌}
use mathlib.Core.Path.{◌≡◌, refl, ap, ◌∙◌}
use mathlib.Core.Bool.{true, false, not}
use mathlib.Core.List.{List, ◌++◌, map}
use lib.Dec.{leb}
use lib.ListN.{length, get_or, length-append, length-replicate, length-map}
use borrow.Author.Tests.{le-leb, lt-leb, le-ltb, lt-ltb, eq-eqb, ne_eqb, leb-true}
use native.Mathlib.Omega.{arith}
use native.Mathlib.Nat.{mul-suc}
use Rattle.spec.specs.Layout.Format.{number_at}
use Rattle.spec.specs.Keys.{Key, same_key, key_below}
use Rattle.spec.specs.Node.Shards.{row_below}
use Rattle.spec.specs.Node.WellFormed.{ack_fits}
use Rattle.spec.specs.declared.Peer.{Peer}
use Rattle.map_tables.specs.Names.{view_key}
use Rattle.node_header.specs.declared.HeldRow.{HeldRow}
use Rattle.node_header.specs.View.{other_key}
use Rattle.node_header.specs.Formed.{on_slot, held_row_below}
use Rattle.node_header.proofs.Lists.{by_case}
use Rattle.image_parts.specs.Shape.{value, rep, items, in_use, rows_at}
use Rattle.image_parts.specs.Parts.{key_at}
use Rattle.image_parts.proofs.Images.{length-items, map-items}
use Rattle.image_header_row.specs.Rows.{peer_f, peer_of, peer_at, peers_at, held_row_at}
use Rattle.image_header.specs.Image.{node_at}
use Rattle.image_header_check.specs.Rows.{Counts}

module _ {A : Type 0} where
  item_at : (n : ℕ) (get : ℕ → A) (w at i : ℕ) (d : A) → i < n → get_or (items n get w at) i d ≡ get (at + w * i)
  item_at zero get w at i d h = absurd (omega arith)
  item_at (suc n) get w at zero d h = let q : at + w * 0 ≡ at = omega arith in rw q
  item_at (suc n) get w at (suc i) d h =
      let q : at + w + w * i ≡ at + w * suc i = omega (arith, mul-suc w i) in
      item_at n get w (at + w) i d (omega arith) ∙ ap get q

  item_then : (n : ℕ) (get : ℕ → A) (w at i : ℕ) (d : A) (ys : List A) → i < n → get_or (items n get w at ++ ys) i d ≡ get (at + w * i)
  item_then zero get w at i d ys h = absurd (omega arith)
  item_then (suc n) get w at zero d ys h = let q : at + w * 0 ≡ at = omega arith in rw q
  item_then (suc n) get w at (suc i) d ys h =
      let q : at + w + w * i ≡ at + w * suc i = omega (arith, mul-suc w i) in
      item_then n get w (at + w) i d ys (omega arith) ∙ ap get q

-- ---- the peers of a shard

pub peers_long : (s : List ℕ) (at : ℕ) → length (peers_at s at) ≡ 32
unfolding peers_at
peers_long s at = length-map (value (rep 32 peer_f) s at) peer_of ∙ length-items 32 (value peer_f s) 32 at

pub peer-row : (s : List ℕ) (at i : ℕ) (d : Peer) → i < 32 → get_or (peers_at s at) i d ≡ peer_at s (at + 32 * i)
unfolding peers_at peer_at
peer-row s at i d h = ap (λ (l : List Peer). get_or l i d) (map-items peer_of 32 (value peer_f s) 32 at) ∙ item_at 32 (λ p. peer_of (value peer_f s p)) 32 at i d h

module _ (s : List ℕ) (p : ℕ) where
  pub ack_over : 4611686018427387904 < number_at 8 s (p + 8) → ack_fits (peer_at s p) ≡ false
  unfolding peer_at
  ack_over h = lt-leb _ _ h

  pub ack_under : number_at 8 s (p + 8) ≤ 4611686018427387904 → ack_fits (peer_at s p) ≡ true
  unfolding peer_at
  ack_under h = le-leb _ _ h

  pub row_over : (q : ℕ) → number_at 8 s q ≤ number_at 8 s p → row_below (peer_at s p) (peer_at s q) ≡ false
  unfolding peer_at
  row_over q h = le-ltb _ _ h

  pub row_under : (q : ℕ) → number_at 8 s p < number_at 8 s q → row_below (peer_at s p) (peer_at s q) ≡ true
  unfolding peer_at
  row_under q h = lt-ltb _ _ h

  -- ---- the parts of a shard

  pub len_is : (held_row_at s p).key.collection.len ≡ number_at 8 s p
  unfolding held_row_at
  len_is = refl

  pub slot_is : (held_row_at s p).slot ≡ number_at 8 s (p + 48)
  unfolding held_row_at
  slot_is = refl

  pub stored_is : (held_row_at s p).stored ≡ number_at 8 s (p + 56)
  unfolding held_row_at
  stored_is = refl

  pub last-is : (held_row_at s p).held.last ≡ number_at 8 s (p + 72)
  unfolding held_row_at
  last-is = let q : p + 64 + 8 ≡ p + 72 = omega arith in ap (number_at 8 s) q

  pub holders-is : (held_row_at s p).held.holders ≡ number_at 8 s (p + 80)
  unfolding held_row_at
  holders-is = let q : p + 64 + 16 ≡ p + 80 = omega arith in ap (number_at 8 s) q

  pub count-is : (held_row_at s p).held.count ≡ number_at 8 s (p + 88)
  unfolding held_row_at
  count-is = let q : p + 64 + 24 ≡ p + 88 = omega arith in ap (number_at 8 s) q

  pub peers-is : (held_row_at s p).held.peers ≡ peers_at s (p + 256)
  unfolding held_row_at peers_at
  peers-is = let q : p + 64 + 192 ≡ p + 256 = omega arith in ap (λ (j : ℕ). map peer_of (value (rep 32 peer_f) s j)) q

  pub below-is : (q : ℕ) → held_row_below (held_row_at s p) (held_row_at s q) ≡ key_below (view_key (key_at s p)) (view_key (key_at s q))
  unfolding held_row_at key_at
  below-is q = refl

  pub other-is : (k : Key) → other_key k (held_row_at s p) ≡ not (same_key (view_key (key_at s p)) k)
  unfolding held_row_at key_at
  other-is k = refl

  pub slot-on : (slot : ℕ) → number_at 8 s (p + 48) ≡ slot → on_slot slot (held_row_at s p) ≡ true
  unfolding held_row_at
  slot-on slot h = eq-eqb _ _ h

  pub slot_off : (slot : ℕ) → (number_at 8 s (p + 48) ≡ slot → ⊥) → on_slot slot (held_row_at s p) ≡ false
  unfolding held_row_at
  slot_off slot h = ne_eqb _ _ h

-- ---- the shards of a header

use_most : (c : ℕ) → in_use 8 c ≤ 8
use_most c = by_case (leb c 8) (λ e. rw e (leb-true c 8 e)) (λ e. rw e (omega arith))

pub held_long : (s : List ℕ) → length (node_at s).held ≡ 8
unfolding node_at rows_at
held_long s = let m = use_most (number_at 8 s 24) in rw (length-append, length-items, length-replicate) (omega arith)

pub counted : (s : List ℕ) → (node_at s).count ≡ number_at 8 s 24
unfolding node_at
counted s = refl

pub row_at : (s : List ℕ) (count : ℕ) → Counts s count → (i : ℕ) (d : HeldRow) → i < count → get_or (node_at s).held i d ≡ held_row_at s (48 + 1280 * i)
unfolding node_at rows_at
row_at s count p i d h =
    let u : in_use 8 (number_at 8 s 24) ≡ count = rw p.2 (rw (le-leb count 8 p.1)) in
    rw u (item_then count (held_row_at s) 1280 48 i d _ h)
