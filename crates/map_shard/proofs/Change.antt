-- What a change that is taken leaves room for. Assumes nothing.
use mathlib.Core.Path.{◌≡◌, refl}
use mathlib.Core.Bool.{Bool, true, false, cond}
use Prim.Native.Nat.{ℕ, ◌≤◌, ◌<◌}
use native.Mathlib.Omega.{arith}
use lib.ListN.{length}
use lib.Dec.{leb}
use borrow.Author.Tests.{leb-false, leb-true, le-leb}
use Rattle.spec.specs.Lists.{put}
use Rattle.spec.specs.Limits.{max_replicas}
use Rattle.spec.specs.Refusals.{already_held, no_room}
use Rattle.spec.specs.Map.Tables.{ShardInfo, refused}
use Rattle.spec.specs.Map.Change.{add, expand, accepts, rejects, decide_change, holds, id_below}
use Rattle.spec.specs.Map.WellFormed.{shard_fits}
use Rattle.spec.specs.declared.DataNodeId.{DataNodeId}
use Rattle.spec_laws.proofs.Lists.{and_left, and_right, and_true}
use Rattle.spec_laws.proofs.Rising.{put-rising}
use Rattle.spec_laws.proofs.Map.Rows.{every-put}
use Rattle.spec_laws.proofs.Map.Orders.{ids}
use Rattle.spec_laws.proofs.Map.Sets.{few_in_sync}
use Rattle.spec_laws.proofs.Map.Shards.{expand_taken}
use Rattle.spec_laws.proofs.Map.WellFormed.{shard-parts}
use Rattle.map_tables.specs.declared.ShardRow.{ShardRow}
use Rattle.map_tables.specs.Counted.{Sized, row_counted}

-- Add: a place for one more replica
pub add_room : (s : ShardInfo) (n i : ℕ) → decide_change s (add n i) ≡ accepts → length s.replicas < 8
unfolding decide_change
add_room s n i = go (holds n s.replicas) (leb max_replicas (length s.replicas)) refl
  where
    go : (p q : Bool) → leb max_replicas (length s.replicas) ≡ q → cond p (rejects (already_held n)) (cond q (refused no_room) accepts) ≡ accepts
        → length s.replicas < 8
    go true q e d = let z : ◌≡◌ {A = ℕ} 0 1 = cc in absurd (omega arith)
    go false true e d = let z : ◌≡◌ {A = ℕ} 0 1 = cc in absurd (omega arith)
    go false false e d = leb-false max_replicas (length s.replicas) e

-- Expand: a place for one more id, since no more are in sync than hold
pub expand_room : (s : ShardInfo) (n : DataNodeId) → shard_fits s ≡ true → decide_change s (expand n.0) ≡ accepts
    → length (put id_below n s.insync) ≤ 8
expand_room s n f d =
    let p = shard-parts s f in
    omega (
      arith,
      few_in_sync (put id_below n s.insync) s.replicas (put-rising id_below ids n s.insync p.2)
          (every-put (λ (d : DataNodeId). holds d.0 s.replicas) id_below n s.insync (expand_taken s n.0 d).0 p.3),
      p.1,
    )

-- the counts of a row, as facts
pub sized : (s : ShardRow) → row_counted s ≡ true → Sized s
sized s e =
    record { held = leb-true _ 8 (and_left (leb s.replicas.count 8) _ e); synced = leb-true _ 8 (and_right (leb s.replicas.count 8) _ e) }

pub counted : (s : ShardRow) → Sized s → row_counted s ≡ true
counted s h = and_true _ _ (le-leb _ 8 h.held) (le-leb _ 8 h.synced)
