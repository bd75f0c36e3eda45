-- Rows in the canonical form (specs/Tidy.antt): they fit their types, they are read as before, and they are the rows of the specification's shards in
-- their slots. Assumes nothing.
use Prim.Native.Nat.{ℕ}
use mathlib.Core.Path.{◌≡◌, refl, ap}
use mathlib.Core.List.{List, [], ◌∷◌, map}
use lib.ListN.{length, take, length-map}
use native.Mathlib.Omega.{arith}
use Rattle.spec.specs.Layout.Format.{All}
use Rattle.spec.specs.declared.Peer.{Peer}
use Rattle.map_tables.specs.Names.{view_key}
use Rattle.node_shard.specs.declared.Held.{Held}
use Rattle.node_header.specs.View.{Stores, view_held_row}
use Rattle.node_header.specs.declared.HeldRow.{HeldRow}
use Rattle.image_parts.specs.Shape.{Good, rep}
use Rattle.image_parts.specs.Parts.{no_replica}
use Rattle.image_parts.specs.Canon.{padded}
use Rattle.image_parts.proofs.Canon.{take-padded, view-key}
use Rattle.image_parts.proofs.Tidied.{take_within, padded-fits, replicas-fit, key_fits}
use Rattle.image_header_row.specs.Rows.{no_peer, peer_f, peer_value, held_f, held_value, held_row_f, held_row_value}
use Rattle.image_header_row.specs.Tidy.{tidy_held, tidy_held_row}
use Rattle.image_header.specs.Becomes.{Counted, image_held_row, image_rows}

-- ---- a row whose numbers and arrays are those of its types

abbrev pub HeldRowFits : HeldRow → Type 0
HeldRowFits x = Good held_row_f (held_row_value x)

peers-fit : (n : ℕ) (ps : List Peer) → Good (rep 32 peer_f) (map peer_value ps) → Good (rep 32 peer_f) (map peer_value (padded 32 no_peer (take n ps)))
peers-fit = padded-fits peer_f peer_value 32 no_peer ((((omega arith, omega arith), omega arith), omega arith), omega arith)

held_fits : (h : Held) → Good held_f (held_value h) → Good held_f (held_value (tidy_held h))
unfolding tidy_held
held_fits h (((((((((epoch, last), holders), count), metric), own), unused), role), replicas), peers) =
    let a : length h.replicas ≡ 8 = rw length-map at replicas.0 in
    let b : length h.peers ≡ 32 = rw length-map at peers.0 in
    let c = take_within h.holders h.replicas in
    let d = take_within h.count h.peers in (
      ((((((((epoch, last), omega arith), omega arith), metric), own), unused), role), replicas-fit h.holders h.replicas replicas),
      peers-fit h.count h.peers peers,
    )

kept-fits : (x : HeldRow) → HeldRowFits x → HeldRowFits (tidy_held_row x)
unfolding tidy_held_row
kept-fits x ((((key, unused), slot), stored), held) = ((((key_fits x.key key, unused), slot), stored), held_fits x.held held)

pub all_fit : (xs : List HeldRow) → All HeldRowFits xs → All HeldRowFits (map tidy_held_row xs)
all_fit [] p = tt
all_fit (x ∷ xs) p = (kept-fits x p.0, all_fit xs p.1)

-- ---- what a row is read as

module _ (st : Stores) where
  view-kept : (x : HeldRow) → view_held_row st (tidy_held_row x) ≡ view_held_row st x
  unfolding tidy_held_row tidy_held
  view-kept x =
      rw (
        view-key (view_key x.key),
        take-padded 8 no_replica (take x.held.holders x.held.replicas),
        take-padded 32 no_peer (take x.held.count x.held.peers),
      )

  pub view-tidied : (xs : List HeldRow) → map (view_held_row st) (map tidy_held_row xs) ≡ map (view_held_row st) xs
  view-tidied [] = refl
  view-tidied (x ∷ xs) = rw (view-kept x, view-tidied xs)

pub slots-tidied : (xs : List HeldRow) → map (λ (x : HeldRow). x.slot) (map tidy_held_row xs) ≡ map (λ (x : HeldRow). x.slot) xs
unfolding tidy_held_row
slots-tidied [] = refl
slots-tidied (x ∷ xs) = ap (λ (l : List ℕ). x.slot ∷ l) (slots-tidied xs)

-- ---- the specification's shards in their slots

module _ (st : Stores) (counted : Counted st) where
  image_kept : (x : HeldRow) → image_held_row (view_held_row st x) x.slot ≡ tidy_held_row x
  unfolding tidy_held_row tidy_held
  image_kept x = rw (st.long x.slot x.held.last, counted x.slot x.held.last x.stored)

  pub image_rows_lem : (xs : List HeldRow) → image_rows (map (view_held_row st) xs) (map (λ (x : HeldRow). x.slot) xs) ≡ map tidy_held_row xs
  image_rows_lem [] = refl
  image_rows_lem (x ∷ xs) = rw (image_kept x, image_rows_lem xs)
