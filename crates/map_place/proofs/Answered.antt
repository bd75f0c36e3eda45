-- Laws of the answers: 24 first, then the order in which place decides. Assumes nothing.
use mathlib.Core.Path.{◌≡◌, refl, sym, ap, ◌∙◌}
use mathlib.Core.Bool.{Bool, true, false, cond}
use mathlib.Core.List.{List, []}
use mathlib.Core.Option.{Option}
use Prim.Native.Nat.{ℕ, ◌≤◌, ◌<◌}
use native.Mathlib.Omega.{arith}
use lib.ListN.{length}
use borrow.Author.Tests.{lt-ltb, le-ltb}
use Rattle.spec.specs.Lists.{◌and◌, ◌or◌, any}
use Rattle.spec.specs.Refusals.{malformed, no_room}
use Rattle.spec.specs.Map.Tables.{NodeInfo, Spec, ShardInfo}
use Rattle.spec.specs.Map.Change.{holds}
use Rattle.spec.specs.Map.Apply.{shard_at}
use Rattle.spec.specs.Map.Place as place
use Rattle.spec.specs.Map.Place.{Load, nowhere, placed_on, not_placed, place_on, place_shards, loads_of, not_replaced, replace_in}
use Rattle.spec.specs.Map.Calls.{place_call, replacement_call}
use Rattle.spec.specs.Map.WellFormed.{well_formed_map}
use Rattle.map_tables.specs.Names.{view_key}
use Rattle.map_tables.specs.View.{view_map, view_spec, view_nodes, view_shards}
use Rattle.map_tables.specs.declared.ShardKey.{ShardKey}
use Rattle.map_tables.specs.declared.ShardMap.{ShardMap}
use Rattle.map_tables.specs.declared.Spec as spec
use Rattle.map_check.specs.Lent.{counted, well_formed_lent}
use Rattle.map_place.specs.Answers.{place_lent, replacement_lent}
use Rattle.map_place.specs.Read.{may_take, free_loads}
use Rattle.map_place.proofs.Collecting.{collect-same}

-- ---- 24

module _ {ℓ} {A : Type ℓ} (x y : A) where
  pub refused-first : (a b : Bool) → a and b ≡ false → cond a (cond b x y) y ≡ y
  unfolding ◌and◌
  refused-first true b e = rw e
  refused-first false b e = refl

  pub taken-first : (a b : Bool) → a and b ≡ true → cond a (cond b x y) y ≡ x
  unfolding ◌and◌
  taken-first true b e = rw e
  taken-first false b e = absurd (let z : ◌≡◌ {A = ℕ} 0 1 = cc in omega arith)

-- the loads of the live nodes, where nobody holds anything that is asked for
pub live_loads_lem : (m : ShardMap) → free_loads [] (view_shards m.shards) (view_nodes m.nodes) ≡ loads_of (λ i. i.alive) (view_map m)
unfolding loads_of ◌and◌ holds any
live_loads_lem m = collect-same (may_take []) (λ (i : NodeInfo). i.alive) _ _ (λ i. nobody_holds i) (λ i. refl) (view_nodes m.nodes)
  where
    and_on : (t : Bool) → t and true ≡ t
    and_on true = refl
    and_on false = refl

    nobody_holds : (i : NodeInfo) → may_take [] i ≡ i.alive
    nobody_holds i = and_on i.alive

module _ (m : ShardMap) (s : spec.Spec) where
  pub place_24 : well_formed_lent m ≡ false → place_lent m s ≡ not_placed malformed
  unfolding place_lent place_call well_formed_lent
  place_24 e = refused-first _ _ (counted m) (well_formed_map (view_map m)) e

  -- on the live nodes with their loads
  pub place-on : well_formed_lent m ≡ true → place_lent m s ≡ place_on (view_spec s) (free_loads [] (view_shards m.shards) (view_nodes m.nodes))
  unfolding place_lent place_call well_formed_lent place.place
  place-on e = taken-first _ _ (counted m) (well_formed_map (view_map m)) e ∙ ap (place_on (view_spec s)) (sym (live_loads_lem m))

module _ (m : ShardMap) (k : ShardKey) where
  pub replace_24 : well_formed_lent m ≡ false → replacement_lent m k ≡ not_replaced malformed
  unfolding replacement_lent replacement_call well_formed_lent
  replace_24 e = refused-first _ _ (counted m) (well_formed_map (view_map m)) e

  pub replace-on : well_formed_lent m ≡ true → (o : Option ShardInfo) → shard_at (view_shards m.shards) (view_key k) ≡ o
      → replacement_lent m k ≡ replace_in (view_map m) o
  unfolding replacement_lent replacement_call well_formed_lent place.replacement
  replace-on e o q = taken-first _ _ (counted m) (well_formed_map (view_map m)) e ∙ ap (replace_in (view_map m)) q

-- ---- none, then 23, then a placement

module _ (s : Spec) (l : List Load) where
  pub too_few : length l < s.replication → place_on s l ≡ nowhere
  unfolding place_on
  too_few h = rw (lt-ltb (length l) s.replication h)

  module _ (enough : s.replication ≤ length l) where
    pub many_lists : 16 < s.shards → place_on s l ≡ not_placed no_room
    unfolding place_on ◌or◌
    many_lists h = rw (le-ltb (length l) s.replication enough, lt-ltb 16 s.shards h)

    module _ (fits : s.shards ≤ 16) where
      pub long_lists : 8 < s.replication → place_on s l ≡ not_placed no_room
      unfolding place_on ◌or◌
      long_lists h = rw (le-ltb (length l) s.replication enough, le-ltb 16 s.shards fits, lt-ltb 8 s.replication h)

      pub placed_on_lem : s.replication ≤ 8 → place_on s l ≡ placed_on (place_shards s.shards s.replication l)
      unfolding place_on ◌or◌
      placed_on_lem h = rw (le-ltb (length l) s.replication enough, le-ltb 16 s.shards fits, le-ltb 8 s.replication h)
