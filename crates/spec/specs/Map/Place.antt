-- Paper 01, 'Who is turned down', Place (state.rs, place and replacement): where new replicas go. Definitions only.
use Rattle.std.specs.Prelude.{ℕ, zero, suc, ◌+◌, Bool, true, false, cond, not, List, [], ◌∷◌, ◌++◌, length, eqb, leb, ltb}
use Rattle.std.proofs.Math.Option.{Option, none, some}
use Rattle.spec.specs.Lists.{◌and◌, ◌or◌, any, filter, collect}
use Rattle.spec.specs.Limits.{max_lists, max_listed}
use Rattle.spec.specs.Keys.{Key}
use Rattle.spec.specs.Refusals.{Refusal, no_room}
use Rattle.spec.specs.Map.Tables.{NodeInfo, Spec, ShardInfo, Map}
use Rattle.spec.specs.Map.Change.{is_on, holds}
use Rattle.spec.specs.Map.Create.{Placement}
use Rattle.spec.specs.Map.Apply.{shard_at, update}
use Rattle.spec.specs.declared.Replica.{Replica}

-- state.rs: a node that may be chosen, with the number of replicas it has
pub record Load : Type 0 where
  pub node : ℕ
  pub count : ℕ

-- the replica records of a shard that name the node
unfoldable pub on_node : ℕ → List Replica → ℕ
on_node n rs = length (filter (is_on n) rs)

-- the replica records of all shards that name the node; a node listed twice in a shard counts twice
unfoldable pub replicas_of : ℕ → List ShardInfo → ℕ
replicas_of n [] = 0
replicas_of n (s ∷ ss) = on_node n s.replicas + replicas_of n ss

-- state.rs: the loads of the nodes that pass
unfoldable pub loads_of : (NodeInfo → Bool) → Map → List Load
loads_of p m = collect p (λ i. record { node = i.node; count = replicas_of i.node m.shards }) m.nodes

-- state.rs, min_by_key: fewer replicas first, then the lower id
unfoldable pub lighter : Load → Load → Bool
lighter a b = ltb a.count b.count or (eqb a.count b.count and ltb a.node b.node)

-- state.rs, min_by_key: the lightest so far, held against the rest
unfoldable pub lightest_from : Load → List Load → Load
lightest_from x [] = x
lightest_from x (y ∷ ys) = lightest_from (cond (lighter y x) y x) ys

-- state.rs, min_by_key: the first in that order
unfoldable pub lightest : List Load → Option Load
lightest [] = none
lightest (x ∷ xs) = some (lightest_from x xs)

-- the nodes chosen so far for a shard, with the loads that follow
pub record Round : Type 0 where
  pub loads : List Load
  pub nodes : List ℕ

-- the load of that node
abbrev pub is_load : ℕ → Load → Bool
is_load n l = eqb l.node n

-- state.rs, place: the shard has the node already
abbrev pub is_listed : List ℕ → Load → Bool
is_listed ns l = any (eqb l.node) ns

-- state.rs, place: one replica more
abbrev pub raised : Load → Load
raised l = record { node = l.node; count = l.count + 1 }

-- one node more. There always is one: the loads are at least as many as the replication
unfoldable pub chosen_of : Round → Option Load → Round
chosen_of r none = r
chosen_of r (some l) = record { loads = update (is_load l.node) raised r.loads; nodes = r.nodes ++ (l.node ∷ []) }

-- state.rs, place: the lightest that the shard does not have yet
unfoldable pub choose_node : Round → Round
choose_node r = chosen_of r (lightest (filter (λ l. not (is_listed r.nodes l)) r.loads))

-- state.rs, place: one node for every replica of a shard
unfoldable pub choose_nodes : ℕ → Round → Round
choose_nodes zero r = r
choose_nodes (suc n) r = choose_nodes n (choose_node r)

-- state.rs, place: each shard in turn
unfoldable pub place_shards : (shards replication : ℕ) → List Load → Placement
place_shards zero n loads = []
place_shards (suc s) n loads =
    let r = choose_nodes n (record { loads = loads; nodes = [] }) in
    r.nodes ∷ place_shards s n r.loads

-- the answer of place
pub data Placed : Type 0 where
  nowhere : Placed
  placed_on : Placement → Placed
  not_placed : Refusal → Placed

-- 'Place': none, then 23, then a placement on these loads
unfoldable pub place_on : Spec → List Load → Placed
place_on spec loads =
    cond (ltb (length loads) spec.replication) nowhere
    (cond (ltb max_lists spec.shards or ltb max_listed spec.replication) (not_placed no_room)
    (placed_on (place_shards spec.shards spec.replication loads)))

-- 'Place: none if fewer live nodes than replication; then 23 above 16 shards or 8 replicas'
unfoldable pub place : Map → Spec → Placed
place m spec = place_on spec (loads_of (λ i. i.alive) m)

-- the answer of replacement
pub data Replaced : Type 0 where
  nobody : Replaced
  replaced_by : (node : ℕ) → Replaced
  not_replaced : Refusal → Replaced

-- state.rs, replacement: the lightest, if there is one
abbrev pub replaced_with : Option Load → Replaced
replaced_with none = nobody
replaced_with (some l) = replaced_by l.node

-- state.rs, replacement: none if the map lacks the shard
unfoldable pub replace_in : Map → Option ShardInfo → Replaced
replace_in m none = nobody
replace_in m (some s) = replaced_with (lightest (loads_of (λ i. i.alive and not (holds i.node s.replicas)) m))

-- state.rs, replacement: the lightest live node that does not hold the shard; none if the map lacks the shard or such a node
unfoldable pub replacement : Map → Key → Replaced
replacement m k = replace_in m (shard_at m.shards k)
