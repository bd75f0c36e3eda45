-- What a walk over a map's shards promises: the shards held after are the definition's, in its order. Definitions only.
use Rattle.std.specs.Prelude.{ℕ, ◌≤◌, ◌<◌, Bool, true, false, ◌≡◌, List, map, length, take, get_or}
use Rattle.spec.specs.Lists.{any, rising}
use Rattle.spec.specs.Map.Create.{shard_below}
use Rattle.spec.specs.Node.Shown as show
use Rattle.map_tables.specs.declared.ShardMap.{ShardMap}
use Rattle.map_tables.specs.View.{view_map}
use Rattle.node_header.specs.declared.Node.{Node}
use Rattle.node_header.specs.View.{Stores, view_node}
use Rattle.node_header.specs.Formed.{held_row_below}
use Rattle.node_show.specs.Rows.{Taken, view_taken, held_row_of, SlotFrom}

-- the definition's shards held after
abbrev pub shards_after : Stores → Node → ShardMap → List show.Showing
shards_after s n m = show.showings (view_node s n) (view_map m) (view_map m).shards

-- every shard held after, in the map's order, or `full`: a ninth shard, or a 33rd worker
pub record Walked : Type 0 where
  pub full : Bool
  pub items : List Taken
  pub count : ℕ

pub record Walks (n : Node) (m : ShardMap) (r : Walked) : Type 0 where
  pub few : r.count ≤ 8
  pub long : r.count ≤ length r.items
  pub over : r.full ≡ true → (s : Stores) → show.too_many (shards_after s n m) ≡ true
  pub same : r.full ≡ false → (s : Stores) → shards_after s n m ≡ map (view_taken s) (take r.count r.items)
  pub fits : r.full ≡ false → (s : Stores) → any show.overworked (map (view_taken s) (take r.count r.items)) ≡ false
  pub rise : r.full ≡ false → rising shard_below (view_map m).shards ≡ true → rising held_row_below (map held_row_of (take r.count r.items)) ≡ true
  pub slots : (i : ℕ) (d : Taken) → i < r.count → SlotFrom n (get_or r.items i d).kept
