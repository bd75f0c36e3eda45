-- One pass over the ids in sync of a shard, in its bytes. Assumes nothing.
use Prim.Native.Nat.{ℕ, ◌+◌, ◌-◌, ◌*◌, ◌≤◌, ◌<◌}
use mathlib.Core.Path.{◌≡◌, sym, ap, ◌∙◌}
use mathlib.Core.Bool.{Bool, true, false}
use mathlib.Core.List.{List}
use lib.ListN.{length, get_or, take}
use native.Mathlib.Omega.{arith}
use Rattle.spec.specs.Layout.Format.{number_at}
use Rattle.spec.specs.Map.Change.{holds, id_below}
use Rattle.spec.specs.declared.DataNodeId.{DataNodeId}
use Rattle.spec.specs.declared.Replica.{Replica}
use Rattle.image_parts.specs.Codes.{id_of}
use Rattle.image_parts.specs.Parts.{replicas_at}
use Rattle.image_map_row.specs.Rows.{shard_at}
use Rattle.map_check.specs.Rows.{follows, is_held, in_sync_fits}
use Rattle.map_check.proofs.Scan.{Rest, rest-on, rest_stop, rest_end, and_swap}
use Rattle.image_map_check.proofs.RowLaws.{replicas-is, ids-is, ids_long, id-row}

module _ (s : List ℕ) (at : ℕ) where
  -- the ids that are left
  abbrev pub Synced : ℕ → ℕ → Type 0
  Synced i last =
      in_sync_fits (shard_at s at).replicas (shard_at s at).insync
      ≡ Rest id_below (is_held (shard_at s at).replicas) (take (shard_at s at).insync.count (shard_at s at).insync.items) i last

  pub synced_start : Synced 0 0
  synced_start = and_swap _ _

  module _ (held count : ℕ) (he : held ≡ (shard_at s at).replicas.count) (ce : count ≡ (shard_at s at).insync.count) (few : count ≤ 8) (i last : ℕ)
      (q : last ≡ i - 1) (inv : Synced i last) where
    abbrev rows : List DataNodeId
    rows = (shard_at s at).insync.items

    abbrev among : DataNodeId → Bool
    among d = holds d.0 (take held (replicas_at s (at + 80)))

    long : (shard_at s at).insync.count ≤ length rows
    long = let n : length rows ≡ 8 = ap (λ (l : List DataNodeId). length l) (ids-is s at) ∙ ids_long s (at + 208) in omega arith

    row : (j : ℕ) → j < 8 → get_or rows j (id_of 0) ≡ id_of (number_at 8 s (at + 208 + 8 * j))
    row j h = ap (λ (l : List DataNodeId). get_or l j (id_of 0)) (ids-is s at) ∙ id-row s (at + 208) j (id_of 0) h

    holders : take (shard_at s at).replicas.count (shard_at s at).replicas.items ≡ take held (replicas_at s (at + 80))
    holders = ap (λ (n : ℕ). take n (shard_at s at).replicas.items) (sym he) ∙ ap (take held) (replicas-is s at)

    module _ (lt : i < count) (a b : ℕ) (ea : a ≡ number_at 8 s (at + 208 + 8 * last)) (eb : b ≡ number_at 8 s (at + 208 + 8 * i)) (r : Bool)
        (f : r ≡ follows id_below among i (id_of a) (id_of b)) where
      same : follows id_below (is_held (shard_at s at).replicas) i (get_or rows last (id_of 0)) (get_or rows i (id_of 0)) ≡ r
      same =
          ap (λ (p : DataNodeId → Bool). follows id_below p i (get_or rows last (id_of 0)) (get_or rows i (id_of 0)))
          (ap (λ (l : List Replica). λ (d : DataNodeId). holds d.0 l) holders)
          ∙ ap (λ (x : DataNodeId). follows id_below among i x (get_or rows i (id_of 0))) (row last (omega arith) ∙ ap id_of (sym ea))
          ∙ ap (λ (x : DataNodeId). follows id_below among i (id_of a) x) (row i (omega arith) ∙ ap id_of (sym eb))
          ∙ sym f

      pub synced_stop : r ≡ false → false ≡ in_sync_fits (shard_at s at).replicas (shard_at s at).insync
      synced_stop e = sym (rest_stop id_below (is_held (shard_at s at).replicas) rows (shard_at s at).insync.count long i last q inv (id_of 0) (omega arith) (same ∙ e))

      pub synced_on : r ≡ true → Synced (i + 1) i
      synced_on e = rest-on id_below (is_held (shard_at s at).replicas) rows (shard_at s at).insync.count long i last q inv (id_of 0) (omega arith) (same ∙ e)

    pub synced_end : count ≤ i → true ≡ in_sync_fits (shard_at s at).replicas (shard_at s at).insync
    synced_end h = sym (rest_end id_below (is_held (shard_at s at).replicas) rows (shard_at s at).insync.count long i last q inv (omega arith))
