-- Paper 01, 'Place' (state.rs, replacement): the node that it names is alive, holds nothing of the shard and is the lightest such, ties
-- broken by the lowest id. It names nobody only for a shard that the map lacks or that every live node holds. Assumes nothing.
use Prim.Native.Nat.{ℕ}
use native.Mathlib.Omega.{arith}
use mathlib.Core.Path.{◌≡◌, refl, subst}
use mathlib.Core.Bool.{Bool, true, false, not}
use mathlib.Core.Option.{Option, none, some}
use Rattle.spec.specs.Lists.{◌and◌}
use Rattle.spec.specs.Keys.{Key}
use Rattle.spec.specs.Map.Tables.{NodeInfo, ShardInfo, Map}
use Rattle.spec.specs.Map.Change.{holds}
use Rattle.spec.specs.Map.Apply.{shard_at}
use Rattle.spec.specs.Map.Place.{Load, lightest, replicas_of, loads_of, nobody, replaced_by, replaced_with, replace_in, replacement}
use Rattle.spec.specs.Map.Lightest.{is_live, Lightest, WellReplaced}
use Rattle.spec.specs.Map.WellFormed.{well_formed_map}
use Rattle.spec_laws.proofs.Lists.{and_true, and_left, and_right}
use Rattle.spec_laws.proofs.Map.WellFormed.{map-parts}
use Rattle.spec_laws.proofs.Map.Lightest.{Has, loaded, loads_on, OfNode, on-has, has_on, is-lightest, nobody_may}

module _ (m : Map) (h : well_formed_map m ≡ true) (s : ShardInfo) where
  abbrev load : ℕ → ℕ
  load n = replicas_of n m.shards

  abbrev may : ℕ → Bool
  may n = not (holds n s.replicas)

  abbrev passes : NodeInfo → Bool
  passes i = i.alive and may i.node

  into : (i : NodeInfo) → Has i m.nodes → i.alive ≡ true → may i.node ≡ true → Has (loaded load i) (loads_on passes load m.nodes)
  into i t a b = on-has passes load m.nodes i t (and_true _ _ a b)

  from : (v : Load) → Has v (loads_on passes load m.nodes)
      → (i : NodeInfo) × (Has i m.nodes) × (i.alive ≡ true) × (may i.node ≡ true) × (v ≡ loaded load i)
  from v t =
      let r : OfNode passes load m.nodes v = has_on passes load m.nodes v t in
      (r.0, r.1, and_left r.0.alive _ r.2, and_right r.0.alive _ r.2, r.3)

  by-lightest : (o : Option Load) → lightest (loads_on passes load m.nodes) ≡ o → (n : ℕ) → replaced_with o ≡ replaced_by n → WellReplaced m s n
  by-lightest none q n e = absurd (let z : ◌≡◌ {A = ℕ} 0 1 = cc in omega arith)
  by-lightest (some x) q n e =
      let same : x.node ≡ n = cc in
      subst (λ (k : ℕ). Lightest m load may k) same
      (is-lightest m (map-parts m h).0.1 load may (loads_on passes load m.nodes) into from x q)

  held_by_all : (o : Option Load) → lightest (loads_on passes load m.nodes) ≡ o → replaced_with o ≡ nobody → (k : ℕ) → is_live m k ≡ true
      → may k ≡ true → ⊥
  held_by_all none q e k a b = nobody_may m (map-parts m h).0.1 load may (loads_on passes load m.nodes) into from q k a b
  held_by_all (some x) q e k a b = let z : ◌≡◌ {A = ℕ} 0 1 = cc in omega arith

-- the node that is named
pub replaced-well : (m : Map) (k : Key) (n : ℕ) → well_formed_map m ≡ true → replacement m k ≡ replaced_by n
    → (s : ShardInfo) × (shard_at m.shards k ≡ some s) × WellReplaced m s n
unfolding replacement replace_in loads_of
replaced-well m k n h = go (shard_at m.shards k) refl
  where
    go : (o : Option ShardInfo) → shard_at m.shards k ≡ o → replace_in m o ≡ replaced_by n
        → (s : ShardInfo) × (shard_at m.shards k ≡ some s) × WellReplaced m s n
    go none q e = absurd (let z : ◌≡◌ {A = ℕ} 0 1 = cc in omega arith)
    go (some s) q e = (s, q, by-lightest m h s (lightest (loads_on (passes m h s) (load m h s) m.nodes)) refl n e)

-- nobody
pub nobody_else : (m : Map) (k : Key) (s : ShardInfo) → well_formed_map m ≡ true → replacement m k ≡ nobody → shard_at m.shards k ≡ some s
    → (n : ℕ) → is_live m n ≡ true → holds n s.replicas ≡ true
unfolding replacement replace_in loads_of
nobody_else m k s h e q n a = go (holds n s.replicas) refl
  where
    left : replaced_with (lightest (loads_on (passes m h s) (load m h s) m.nodes)) ≡ nobody
    left = rw q at e

    go : (b : Bool) → holds n s.replicas ≡ b → holds n s.replicas ≡ true
    go true w = w
    go false w = absurd (held_by_all m h s (lightest (loads_on (passes m h s) (load m h s) m.nodes)) refl left n a (rw w))
