-- What is counted in a map's bytes, said of the map that they are read as. Definitions only.
use Rattle.std.specs.Prelude.{ℕ, ◌≤◌, ◌≡◌, List, length}
use Rattle.spec.specs.Layout.Format.{number_at}
use Rattle.spec.specs.Map.Place as place
use Rattle.spec.specs.Map.Place.{loads_of}
use Rattle.spec.specs.declared.Replica.{Replica}
use Rattle.map_tables.specs.Counted.{ShardsCounted}
use Rattle.map_tables.specs.View.{view_map, view_nodes, view_shards}
use Rattle.image_map.specs.Image.{nodes_at, shards_at, map_at}
use Rattle.map_place.specs.Read.{view_loads, Light, free_loads}
use Rattle.map_place.specs.declared.Loads.{Loads}

-- an image whose nodes and shards are within their arrays: what the test (24) leaves
pub record Used (s : List ℕ) : Type 0 where
  pub long : 26536 ≤ length s
  pub nodes : number_at 8 s 8 ≤ 32
  pub shards : ShardsCounted (shards_at s)

-- the loads of the live nodes
pub record Live (s : List ℕ) (r : Loads) : Type 0 where
  pub loads : view_loads r ≡ loads_of (λ i. i.alive) (view_map (map_at s))
  pub size : length (view_loads r) ≡ r.count
  pub count : r.count ≤ 32
  pub light : Light 512 (view_loads r)

-- the loads of the live nodes that are none of the holders
abbrev pub free_in : List ℕ → List Replica → List place.Load
free_in s rs = free_loads rs (view_shards (shards_at s)) (view_nodes (nodes_at s))
