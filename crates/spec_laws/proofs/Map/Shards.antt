-- Laws of the commands with a shard (paper 01, 'Who is turned down'): when Promote, Shrink and Expand are taken, what they make of the shard
-- they name, and that they leave every other alone. Assumes nothing.
use mathlib.Core.Path.{◌≡◌, refl, sym, ap, ◌∙◌, subst}
use mathlib.Core.Bool.{Bool, true, false, cond}
use mathlib.Core.List.{List, [], ◌∷◌}
use mathlib.Core.Option.{Option, none, some}
use Prim.Native.Nat.{ℕ, ◌+◌, ◌<◌, ◌≤◌}
use native.Mathlib.Omega.{arith}
use lib.Dec.{eqb}
use borrow.Author.Tests.{eqb-true, eqb-false, eq-eqb, ne_eqb}
use Rattle.spec.specs.Keys.{Key, same_key}
use Rattle.spec.specs.Limits.{max_u64}
use Rattle.spec.specs.Lists.{put}
use Rattle.spec.specs.Refusals.{not_in_sync, last_epoch, shrinks_primary, already_in_sync, not_held}
use Rattle.spec.specs.Map.Tables.{ShardInfo, Outcome, applied, rejected, Map, Answer, outcome, refused}
use Rattle.spec.specs.Map.Change.{Change, add, remove, promote, shrink, expand, accepts, rejects, decide_change, changed, holds, in_sync, is_primary, without, deposed, id_below, node_id}
use Rattle.spec.specs.Map.Apply.{decide, commit, change_answer, change_shard, shard_at, is_shard, sets_version}
use Rattle.spec.specs.Layout.Request.{Command, add_replica, remove_replica, promote_primary, shrink_in_sync, expand_in_sync}
use Rattle.spec_laws.proofs.Lists.{by-test, not_both}
use Rattle.spec_laws.proofs.Map.Rows.{find-update, find-other, find_true}
use Rattle.spec_laws.proofs.Map.Sets.{out_of_without}
use Rattle.spec_laws.proofs.Map.Orders.{same_key_lem, key-same}

-- the command that asks for a change
abbrev pub command_of : Key → (epoch : ℕ) → Change → Command
command_of k e (add n i) = add_replica k n i e
command_of k e (remove n) = remove_replica k n e
command_of k e (promote n) = promote_primary k n e
command_of k e (shrink n) = shrink_in_sync k n e
command_of k e (expand n) = expand_in_sync k n e

-- a change keeps the key
pub changed-key : (s : ShardInfo) (c : Change) → (changed s c).key ≡ s.key
unfolding changed
changed-key s (add n i) = refl
changed-key s (remove n) = refl
changed-key s (promote n) = refl
changed-key s (shrink n) = refl
changed-key s (expand n) = refl

module _ (m : Map) (k : Key) (e : ℕ) where
  pub decide-change : (c : Change) → decide m (command_of k e c) ≡ change_answer k e c (shard_at m.shards k)
  unfolding decide
  decide-change (add n i) = refl
  decide-change (remove n) = refl
  decide-change (promote n) = refl
  decide-change (shrink n) = refl
  decide-change (expand n) = refl

  pub commit-change : (c : Change) → commit m (command_of k e c) ≡ change_shard m k c
  unfolding commit
  commit-change (add n i) = refl
  commit-change (remove n) = refl
  commit-change (promote n) = refl
  commit-change (shrink n) = refl
  commit-change (expand n) = refl

  pub change_sets_version : (c : Change) → sets_version (command_of k e c) ≡ true
  change_sets_version (add n i) = refl
  change_sets_version (remove n) = refl
  change_sets_version (promote n) = refl
  change_sets_version (shrink n) = refl
  change_sets_version (expand n) = refl

  -- a shard that is there, at the epoch named: the change's own list decides
  pub change-at : (c : Change) (s : ShardInfo) → shard_at m.shards k ≡ some s → s.epoch ≡ e → decide m (command_of k e c) ≡ decide_change s c
  unfolding change_answer
  change-at c s at q = decide-change c ∙ rw (at, eq-eqb s.epoch e q)

  -- a change is taken only of a shard that is there, at the epoch named
  pub change-taken : (c : Change) → decide m (command_of k e c) ≡ accepts
      → (s : ShardInfo) × (shard_at m.shards k ≡ some s) × (s.epoch ≡ e) × (decide_change s c ≡ accepts)
  unfolding change_answer
  change-taken c h = go (shard_at m.shards k) refl (sym (decide-change c) ∙ h)
    where
      go : (o : Option ShardInfo) → shard_at m.shards k ≡ o → change_answer k e c o ≡ accepts
          → (s : ShardInfo) × (shard_at m.shards k ≡ some s) × (s.epoch ≡ e) × (decide_change s c ≡ accepts)
      go none f a = let z : ◌≡◌ {A = ℕ} 0 1 = cc in absurd (omega arith)
      go (some s) f a =
          by-test
          (λ (v : Answer). v ≡ accepts
          → (s : ShardInfo) × (shard_at m.shards k ≡ some s) × (s.epoch ≡ e) × (decide_change s c ≡ accepts))
          (eqb s.epoch e)
          (λ q b. (s, f, eqb-true s.epoch e q, b))
          (λ q b. let z : ◌≡◌ {A = ℕ} 0 1 = cc in absurd (omega arith))
          a

-- ---- what a change that is taken makes of the map

module _ (m : Map) (k : Key) (c : Change) where
  keeps-key : (s : ShardInfo) → is_shard k s ≡ true → is_shard k (changed s c) ≡ true
  keeps-key s e = ap (λ (j : Key). same_key j k) (changed-key s c) ∙ e

  -- the shard it names
  pub changed-at : (s : ShardInfo) → shard_at m.shards k ≡ some s → shard_at (change_shard m k c).shards k ≡ some (changed s c)
  unfolding change_shard shard_at
  changed-at s at =
      find-update (is_shard k) (λ s. changed s c) m.shards s (keeps-key s (find_true (is_shard k) m.shards s at)) at

  -- every other shard
  pub others-at : (j : Key) → (j ≡ k → ⊥) → shard_at (change_shard m k c).shards j ≡ shard_at m.shards j
  unfolding change_shard shard_at
  others-at j ne = find-other (is_shard k) (λ s. changed s c) (is_shard j) off (λ s e. off (changed s c) (keeps-key s e)) m.shards
    where
      off : (s : ShardInfo) → is_shard k s ≡ true → is_shard j s ≡ false
      off s e = go (is_shard j s) refl
        where
          go : (t : Bool) → is_shard j s ≡ t → t ≡ false
          go true f = absurd (ne (sym (same_key_lem s.key j f) ∙ same_key_lem s.key k e))
          go false f = refl

  pub change-keeps : ((change_shard m k c).version ≡ m.version) × ((change_shard m k c).nodes ≡ m.nodes)
      × ((change_shard m k c).collections ≡ m.collections) × ((change_shard m k c).sessions ≡ m.sessions)
  unfolding change_shard
  change-keeps = (refl, refl, refl, refl)

-- ---- which changes are taken

module _ (s : ShardInfo) (n : ℕ) where
  pub promote-accepts : in_sync n s.insync ≡ true → (s.epoch ≡ max_u64 → ⊥) → decide_change s (promote n) ≡ accepts
  unfolding decide_change
  promote-accepts p q = rw (p, ne_eqb s.epoch max_u64 q)

  pub promote-taken : decide_change s (promote n) ≡ accepts → (in_sync n s.insync ≡ true) × (s.epoch ≡ max_u64 → ⊥)
  unfolding decide_change
  promote-taken = go (in_sync n s.insync) (eqb s.epoch max_u64) refl refl
    where
      go : (p q : Bool) → in_sync n s.insync ≡ p → eqb s.epoch max_u64 ≡ q
          → cond p (cond q (refused last_epoch) accepts) (rejects (not_in_sync n)) ≡ accepts
          → (in_sync n s.insync ≡ true) × (s.epoch ≡ max_u64 → ⊥)
      go true true p q h = let z : ◌≡◌ {A = ℕ} 0 1 = cc in absurd (omega arith)
      go true false p q h = (p, eqb-false s.epoch max_u64 q)
      go false t p q h = let z : ◌≡◌ {A = ℕ} 0 1 = cc in absurd (omega arith)

  pub shrink_accepts : is_primary n s.primary ≡ false → in_sync n s.insync ≡ true → decide_change s (shrink n) ≡ accepts
  unfolding decide_change
  shrink_accepts p q = rw (p, q)

  pub shrink_taken : decide_change s (shrink n) ≡ accepts → (is_primary n s.primary ≡ false) × (in_sync n s.insync ≡ true)
  unfolding decide_change
  shrink_taken = go (is_primary n s.primary) (in_sync n s.insync)
    where
      go : (p q : Bool) → cond p (rejects shrinks_primary) (cond q accepts (rejects (not_in_sync n))) ≡ accepts → (p ≡ false) × (q ≡ true)
      go true q h = let z : ◌≡◌ {A = ℕ} 0 1 = cc in absurd (omega arith)
      go false true h = (refl, refl)
      go false false h = let z : ◌≡◌ {A = ℕ} 0 1 = cc in absurd (omega arith)

  pub expand_accepts : holds n s.replicas ≡ true → in_sync n s.insync ≡ false → decide_change s (expand n) ≡ accepts
  unfolding decide_change
  expand_accepts p q = rw (p, q)

  pub expand_taken : decide_change s (expand n) ≡ accepts → (holds n s.replicas ≡ true) × (in_sync n s.insync ≡ false)
  unfolding decide_change
  expand_taken = go (holds n s.replicas) (in_sync n s.insync)
    where
      go : (p q : Bool) → cond p (cond q (rejects (already_in_sync n)) accepts) (rejects (not_held n)) ≡ accepts → (p ≡ true) × (q ≡ false)
      go true true h = let z : ◌≡◌ {A = ℕ} 0 1 = cc in absurd (omega arith)
      go true false h = (refl, refl)
      go false q h = let z : ◌≡◌ {A = ℕ} 0 1 = cc in absurd (omega arith)

-- ---- what they make of the shard

module _ (s : ShardInfo) (n : ℕ) where
  pub promoted : ((changed s (promote n)).epoch ≡ s.epoch + 1) × ((changed s (promote n)).primary ≡ some n)
      × ((changed s (promote n)).replicas ≡ s.replicas) × ((changed s (promote n)).insync ≡ deposed n s.primary s.insync)
  unfolding changed
  promoted = (refl, refl, refl, refl)

  pub shrunk : ((changed s (shrink n)).epoch ≡ s.epoch) × ((changed s (shrink n)).primary ≡ s.primary)
      × ((changed s (shrink n)).replicas ≡ s.replicas) × ((changed s (shrink n)).insync ≡ without n s.insync)
  unfolding changed
  shrunk = (refl, refl, refl, refl)

  pub expanded : ((changed s (expand n)).epoch ≡ s.epoch) × ((changed s (expand n)).primary ≡ s.primary)
      × ((changed s (expand n)).replicas ≡ s.replicas) × ((changed s (expand n)).insync ≡ put id_below (node_id n) s.insync)
  unfolding changed
  expanded = (refl, refl, refl, refl)

  -- 'Near misses': a removed replica is not in sync any more
  pub removed-out : in_sync n (changed s (remove n)).insync ≡ false
  unfolding changed
  removed-out = out_of_without n s.insync
