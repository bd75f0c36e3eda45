-- How the code's loads are read as those of `spec`'s Place, and the steps in which they are made. Definitions only.
use Rattle.std.specs.Prelude.{ℕ, ◌+◌, ◌≤◌, ◌≡◌, Bool, true, cond, not, List, [], ◌∷◌, map, length, take, leb}
use Rattle.std.proofs.Math.Option.{Option, none, some}
use Rattle.spec.specs.Lists.{◌and◌, every, collect}
use Rattle.spec.specs.Map.Tables.{NodeInfo, ShardInfo}
use Rattle.spec.specs.Map.Change.{holds}
use Rattle.spec.specs.Map.Place as place
use Rattle.spec.specs.Map.Apply.{update}
use Rattle.spec.specs.Map.Place.{replicas_of, lighter, is_listed, is_load, raised, Round, choose_node, choose_nodes}
use Rattle.spec.specs.declared.Replica.{Replica}
use Rattle.map_tables.specs.View.{view_list}
use Rattle.map_tables.specs.declared.NodeList.{NodeList}
use Rattle.map_place.specs.declared.Load.{Load}
use Rattle.map_place.specs.declared.Loads.{Loads}
use Rattle.std.specs.declared.option.Option as option
use Rattle.std.specs.Prelude.{None, Some}

abbrev pub view_load : Load → place.Load
view_load l = record { node = l.node.0; count = l.count }

-- a load of its two numbers
abbrev pub load_of : (id count : ℕ) → Load
load_of x y = record { node = record { 0 = x }; count = y }

-- ids and counts side by side
unfoldable pub pairs : (ids counts : List ℕ) → List Load
pairs [] ys = []
pairs (x ∷ xs) [] = []
pairs (x ∷ xs) (y ∷ ys) = load_of x y ∷ pairs xs ys

-- two arrays of 32, of which the first n places are in use
pub record Columns (ids counts : List ℕ) (n : ℕ) : Type 0 where
  pub named : length ids ≡ 32
  pub counted : length counts ≡ 32
  pub few : n ≤ 32

abbrev pub loads_in : (ids counts : List ℕ) → ℕ → List place.Load
loads_in ids counts n = map view_load (take n (pairs ids counts))

abbrev pub view_loads : Loads → List place.Load
view_loads t = loads_in t.ids t.counts t.count

-- no load is above k: what a count of replicas cannot reach
abbrev pub Light : ℕ → List place.Load → Type 0
Light k l = every (λ (x : place.Load). leb x.count k) l ≡ true

-- state.rs: a live node that is none of the holders
abbrev pub may_take : List Replica → NodeInfo → Bool
may_take rs i = i.alive and not (holds i.node rs)

-- the loads of the live nodes that hold nothing of a shard
abbrev pub free_loads : List Replica → List ShardInfo → List NodeInfo → List place.Load
free_loads rs ss ns = collect (may_take rs) (λ (i : NodeInfo). record { node = i.node; count = replicas_of i.node ss }) ns

-- ---- choosing

abbrev pub best_of : option.Option Load → Option place.Load
best_of None = none
best_of (Some l) = some (view_load l)

-- state.rs, min_by_key: the lighter of the best so far and the next
abbrev pub better : Option place.Load → place.Load → place.Load
better none y = y
better (some x) y = cond (lighter y x) y x

-- state.rs, place: not yet a node of the shard
abbrev pub unlisted : List ℕ → place.Load → Bool
unlisted ns l = not (is_listed ns l)

abbrev pub round_in : (ids counts : List ℕ) → ℕ → NodeList → Round
round_in ids counts n list = record { loads = loads_in ids counts n; nodes = view_list list }

-- one node more
pub record ChosenOne (ids counts after : List ℕ) (n : ℕ) (list r : NodeList) : Type 0 where
  pub round : round_in ids after n r ≡ choose_node (round_in ids counts n list)
  pub size : r.count ≤ list.count + 1
  pub long : length after ≡ 32

-- the nodes of one shard
pub record ChosenList (ids counts after : List ℕ) (n replication : ℕ) (r : NodeList) : Type 0 where
  pub round : round_in ids after n r ≡ choose_nodes replication (record { loads = loads_in ids counts n; nodes = [] })
  pub long : length after ≡ 32

-- one replica more on a node
pub record Raised (ids counts after : List ℕ) (n node : ℕ) : Type 0 where
  pub loads : loads_in ids after n ≡ update (is_load node) raised (loads_in ids counts n)
  pub long : length after ≡ 32
