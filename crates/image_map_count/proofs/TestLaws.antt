-- What a well-formed map's bytes say of a request: the name, and who is alive. Assumes nothing.
use Prim.Native.Nat.{ℕ, ◌+◌, ◌*◌, ◌≤◌, ◌<◌}
use mathlib.Core.Path.{◌≡◌, refl, sym, ap, ◌∙◌}
use mathlib.Core.Bool.{Bool, true, false}
use mathlib.Core.List.{List, map}
use native.Mathlib.Omega.{arith}
use lib.Dec.{ltb}
use lib.ListN.{length, take}
use borrow.Author.Tests.{ltb-true, ltb-false}
use Rattle.spec.specs.Keys.{Name, Key}
use Rattle.spec.specs.Lists.{any, find, rising}
use Rattle.spec.specs.Layout.Format.{number_at}
use Rattle.spec.specs.Map.Tables.{Collection}
use Rattle.spec.specs.Map.Apply.{is_shard}
use Rattle.spec.specs.Map.Create as model
use Rattle.spec.specs.Map.Create.{is_node, is_alive, is_named, has_collection, shard_below}
use Rattle.spec_laws.proofs.Map.WellFormed.{map-parts}
use Rattle.map_tables.specs.Counted.{TablesCounted}
use Rattle.map_tables.specs.Find.{first_at}
use Rattle.map_tables.specs.View.{view_node, view_nodes, view_collection, view_collections, view_shard, view_shards, view_map}
use Rattle.map_tables.proofs.Tables.{any_at, any_none, used-size}
use Rattle.map_check.proofs.Formed.{lent_tables, lent-formed}
use Rattle.image_parts.specs.Codes.{flag_of}
use Rattle.image_map_row.specs.Rows.{node_at, collection_at, shard_at}
use Rattle.image_map.specs.Image.{no_node, no_collection, no_shard, nodes_at, collections_at, shards_at, map_at}
use Rattle.image_map_check.proofs.RowLaws.{Rows, rows_long}
use Rattle.image_map_loads.proofs.Rows.{row-found, row_missed}
use Rattle.image_map_count.specs.Read.{Formed}
use Rattle.image_map_count.proofs.Room.{is_new}

-- 2, by the place where the name is found
pub taken : (name : Name) (cs : List Collection) (n at : ℕ) → length cs ≡ n → at ≡ first_at (is_named name) cs → ltb at n ≡ has_collection name cs
unfolding has_collection
taken name cs n at e f = go (ltb at n) refl
  where
    go : (b : Bool) → ltb at n ≡ b → ltb at n ≡ any (is_named name) cs
    go true t = t ∙ sym (any_at (is_named name) cs (omega (arith, ltb-true at n t)))
    go false t = t ∙ sym (any_none (is_named name) cs (omega (arith, ltb-false at n t)))

-- ---- a map in its bytes

rows-many : {A B : Type 0} (limit w at : ℕ) (get : ℕ → A) (blank : A) (n : ℕ) (v : A → B) → n ≤ limit → length (map v (take n (Rows limit w at get blank n))) ≡ n
rows-many limit w at get blank n v h = let q = rows_long limit w at get blank n h in used-size v (Rows limit w at get blank n) n (omega arith)

module _ (s : List ℕ) (f : Formed s) where
  tables : TablesCounted (map_at s)
  tables = lent_tables (map_at s) f.right

  pub nodes-few : number_at 8 s 8 ≤ 32
  unfolding map_at
  nodes-few = tables.nodes

  pub collections-few : number_at 8 s 16 ≤ 16
  unfolding map_at
  collections-few = tables.collections

  pub shards-few : number_at 8 s 24 ≤ 64
  unfolding map_at
  shards-few = tables.shards.count

  pub collections-many : length (view_map (map_at s)).collections ≡ number_at 8 s 16
  unfolding map_at
  collections-many = rows-many 16 56 3112 (collection_at s) no_collection (number_at 8 s 16) view_collection collections-few

  pub shards-many : length (view_map (map_at s)).shards ≡ number_at 8 s 24
  unfolding map_at
  shards-many = rows-many 64 272 4008 (shard_at s) no_shard (number_at 8 s 24) view_shard shards-few

  pub shards-rise : rising shard_below (view_map (map_at s)).shards ≡ true
  shards-rise = (map-parts (view_map (map_at s)) (lent-formed (map_at s) f.right)).2.1

  pub name-taken : (name : Name) (n at : ℕ) → n ≡ number_at 8 s 16 → at ≡ first_at (is_named name) (view_collections (collections_at s))
      → ltb at n ≡ has_collection name (view_map (map_at s)).collections
  unfolding map_at
  name-taken name n at e q = taken name (view_collections (collections_at s)) n at (collections-many ∙ sym e) q

  -- the shard of a key
  module _ (key : Key) (at : ℕ) (is : at ≡ first_at (is_shard key) (view_shards (shards_at s))) where
    pub shard-there : at < number_at 8 s 24 → is_new (find (is_shard key) (view_map (map_at s)).shards) ≡ 0
    unfolding map_at
    shard-there h = ap is_new (row-found 64 272 4008 (shard_at s) no_shard (number_at 8 s 24) view_shard shards-few (is_shard key) at is h)

    pub shard-new : number_at 8 s 24 ≤ at → is_new (find (is_shard key) (view_map (map_at s)).shards) ≡ 1
    unfolding map_at
    shard-new h = ap is_new (row_missed 64 272 4008 (shard_at s) no_shard (number_at 8 s 24) view_shard shards-few (is_shard key) at is h)

-- a node by its id
module _ (s : List ℕ) (few : number_at 8 s 8 ≤ 32) (id at : ℕ) (is : at ≡ first_at (is_node id) (view_nodes (nodes_at s))) where
  pub unknown_dead : number_at 8 s 8 ≤ at → false ≡ is_alive (model.node_at (view_nodes (nodes_at s)) id)
  unfolding model.node_at
  unknown_dead h = ap is_alive (sym (row_missed 32 96 40 (node_at s) no_node (number_at 8 s 8) view_node few (is_node id) at is h))

  pub known-alive : (b : Bool) (code : ℕ) → at < number_at 8 s 8 → b ≡ flag_of code → code ≡ number_at 4 s (40 + 96 * at + 16)
      → b ≡ is_alive (model.node_at (view_nodes (nodes_at s)) id)
  unfolding model.node_at node_at
  known-alive b code h e q = e ∙ ap flag_of q ∙ ap is_alive (sym (row-found 32 96 40 (node_at s) no_node (number_at 8 s 8) view_node few (is_node id) at is h))
