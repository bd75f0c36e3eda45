-- The peers of a row changed where they stand: one put in, each of them, those of the holders that are new. Assumes nothing.
use Prim.Native.Nat.{ℕ, ◌+◌, ◌*◌, ◌≤◌, ◌<◌}
use mathlib.Core.Path.{◌≡◌, refl, sym, ap, subst, ◌∙◌}
use mathlib.Core.Bool.{Bool}
use mathlib.Core.List.{List, ◌∷◌, ◌++◌, map}
use lib.ListN.{length, get_or, take, drop, set}
use lib.Seq.{get_or-drop, drop-drop, drop-set-lt}
use native.Mathlib.Omega.{arith}
use Rattle.spec.specs.Lists.{lead}
use Rattle.spec.specs.declared.Peer.{Peer}
use Rattle.node_shard.specs.View.{insert_at, no_peer}
use Rattle.node_shard.proofs.Loops.{map_on, carry_on, carried}
use Rattle.node_header.specs.declared.HeldRow.{HeldRow}
use Rattle.image_header_row.specs.Rows.{peer_at, peers_at, held_row_at}
use Rattle.image_header_check.proofs.Rows.{peers-is, peers_long, peer-row}
use Rattle.image_header_set.specs.Row.{RowBecomes, peer_set}
use Rattle.image_header_set.proofs.SetLaws.{row-then, row_as}
use Rattle.std.specs.Prelude.{Option, Some, None}
use Rattle.calls_show_row.specs.Peers.{peers_set, peers_in, AtMost32, PeersBecome}

-- of a number of at most 32, or of none
pub at_most_then : (o : Option ℕ) {P Q : ℕ → Type 0} → ((n : ℕ) → P n → Q n) → AtMost32 o P → AtMost32 o Q
at_most_then None f p = f 33 p
at_most_then (Some n) f p = (p.0, f n p.1)

pub at_most_at : (P : ℕ → Type 0) (o : Option ℕ) (n : ℕ) → o ≡ Some n → AtMost32 o P → (n ≤ 32) × P n
at_most_at P o n e p = subst (λ (q : Option ℕ). AtMost32 q P) e p

module _ (s : List ℕ) (row : ℕ) where
  pub peers-full : length (peers_in s row) ≡ 32
  peers-full = ap (λ (l : List Peer). length l) (peers-is s row) ∙ peers_long s (row + 256)

  -- the i-th peer
  pub peer_in : (i : ℕ) → i < 32 → peer_at s (row + 256 + 32 * i) ≡ get_or (peers_in s row) i no_peer
  peer_in i lt = sym (ap (λ (l : List Peer). get_or l i no_peer) (peers-is s row) ∙ peer-row s (row + 256) i no_peer lt)

  -- a place found among them
  pub place_in : (p : Peer → Bool) (n at : ℕ) → at ≡ lead p (take n (peers_at s (row + 256))) → at ≡ lead p (take n (peers_in s row))
  place_in p n at e = e ∙ ap (λ (l : List Peer). lead p (take n l)) (sym (peers-is s row))

-- ---- of a row nothing but its peers changed

-- the image s became m, in which the row has other peers in its array
abbrev pub Only : (s m : List ℕ) → (row : ℕ) → Type 0
Only s m row = RowBecomes s m row (peers_set (held_row_at s row) (peers_in m row))

pub only_none : (s : List ℕ) (row : ℕ) → Only s s row
only_none s row = record { outside = record { long = refl; front = refl; back = refl }; row = refl }

pub only_then : (s m t : List ℕ) (row : ℕ) → Only s m row → Only m t row → Only s t row
only_then s m t row a b = row_as (ap (λ (x : HeldRow). peers_set x (peers_in t row)) a.row) (row-then a b)

-- one peer stored
module _ (m t : List ℕ) (row i : ℕ) (p : Peer) (b : RowBecomes m t row (peer_set (held_row_at m row) i p)) where
  pub set_in : peers_in t row ≡ set (peers_in m row) i p
  set_in = ap (λ (x : HeldRow). x.held.peers) b.row

  pub only_one : Only m t row
  only_one = row_as (ap (peers_set (held_row_at m row)) (sym set_in)) b

-- ---- one peer put in, those behind it carried on

module _ (s : List ℕ) (row to : ℕ) (x : Peer) where
  -- those before place i are where they belong, and `carry` is the next
  abbrev pub Carried : List ℕ → ℕ → Peer → Type 0
  Carried m i carry = Only s m row × (take i (peers_in m row) ++ (carry ∷ drop i (peers_in m row)) ≡ take to (peers_in s row) ++ (x ∷ drop to (peers_in s row)))

  pub carry_start : Carried s to x
  carry_start = (only_none s row, refl)

  pub carry_step : (m t : List ℕ) (i : ℕ) (carry p : Peer) → i < 32 → Carried m i carry → p ≡ peer_at m (row + 256 + 32 * i)
      → RowBecomes m t row (peer_set (held_row_at m row) i carry) → Carried t (i + 1) p
  carry_step m t i carry p lt d e b =
      let l = peers_in m row in
      let n = peers-full m row in
      let q : p ≡ get_or l i no_peer = e ∙ peer_in m row i lt in (
        only_then s m t row d.0 (only_one m t row i carry b),
        ap (λ (k : List Peer). take (i + 1) k ++ (p ∷ drop (i + 1) k)) (set_in m t row i carry b)
            ∙ ap (λ (y : Peer). take (i + 1) (set l i carry) ++ (y ∷ drop (i + 1) (set l i carry))) q
            ∙ carry_on l i carry no_peer (omega arith) ∙ d.1,
      )

  pub carry_end : (t : List ℕ) (i count : ℕ) (carry : Peer) → Carried t i carry → i ≡ count + 1 → to ≤ count → count < 32
      → PeersBecome s t row (count + 1) (insert_at (take count (peers_in s row)) to x)
  carry_end t i count carry d e le lt =
      let a = peers-full s row in
      let b = peers-full t row in
      record { becomes = d.0; rows = carried (peers_in s row) (peers_in t row) to count i carry x d.1 e le (omega arith) (omega arith) }

-- ---- each of the peers in use changed

module _ (s : List ℕ) (row : ℕ) (f : Peer → Peer) where
  -- i of them are
  abbrev pub Changed : List ℕ → ℕ → Type 0
  Changed m i = Only s m row × (take i (peers_in m row) ≡ map f (take i (peers_in s row))) × (drop i (peers_in m row) ≡ drop i (peers_in s row))

  pub change-start : Changed s 0
  change-start = (only_none s row, refl, refl)

  pub change-step : (m t : List ℕ) (i : ℕ) (p q : Peer) → i < 32 → Changed m i → p ≡ peer_at m (row + 256 + 32 * i) → q ≡ f p
      → RowBecomes m t row (peer_set (held_row_at m row) i q) → Changed t (i + 1)
  change-step m t i p q lt d e z b =
      let a = peers-full s row in
      let n = peers-full m row in
      let j : i + 0 ≡ i = omega arith in
      let same : get_or (peers_in m row) i no_peer ≡ get_or (peers_in s row) i no_peer =
      rw j at (sym (get_or-drop i (peers_in m row) 0 no_peer) ∙ ap (λ (l : List Peer). get_or l 0 no_peer) d.2 ∙ get_or-drop i (peers_in s row) 0 no_peer) in (
        only_then s m t row d.0 (only_one m t row i q b),
        ap (take (i + 1)) (set_in m t row i q b)
            ∙ map_on f (peers_in s row) (peers_in m row) i no_peer q d.1 (z ∙ ap f (e ∙ peer_in m row i lt ∙ same)) (omega arith) (omega arith),
        ap (drop (i + 1)) (set_in m t row i q b)
            ∙ drop-set-lt (i + 1) (peers_in m row) i q (omega arith)
            ∙ sym (drop_more (peers_in m row) i) ∙ ap (drop 1) d.2 ∙ drop_more (peers_in s row) i,
      )
    where
      drop_more : (l : List Peer) (i : ℕ) → drop 1 (drop i l) ≡ drop (i + 1) l
      drop_more l i = drop-drop 1 i l

  pub change-end : (t : List ℕ) (i count : ℕ) → Changed t i → i ≡ count → PeersBecome s t row count (map f (take count (peers_in s row)))
  change-end t i count d e = record { becomes = d.0; rows = rw e at d.1 }
