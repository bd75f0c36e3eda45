-- Drop's answer, and its two tables together. Assumes nothing.
use Prim.Native.Nat.{ℕ, ◌≤◌, ◌<◌}
use mathlib.Core.Path.{◌≡◌, refl, sym, ap, subst, ◌∙◌}
use mathlib.Core.Bool.{Bool, true, false, cond, not}
use mathlib.Core.List.{List, map}
use lib.ListN.{length}
use native.Mathlib.Omega.{arith}
use Rattle.spec.specs.Keys as keys
use Rattle.spec.specs.Keys.{same_name}
use Rattle.spec.specs.Lists.{filter}
use Rattle.spec.specs.Layout.Format.{number_at}
use Rattle.spec.specs.Map.Apply.{set_collections}
use Rattle.spec.specs.Map.Create.{has_collection, is_named}
use Rattle.spec.specs.Map.Tables as tables
use Rattle.spec_laws.proofs.Map.Rows.{length-filter}
use Rattle.map_tables.specs.Find.{first_at}
use Rattle.map_tables.specs.View.{view_collection, view_collections}
use Rattle.map_tables.specs.declared.CollectionRow.{CollectionRow}
use Rattle.map_tables.proofs.Tables.{any_at, any_none}
use Rattle.image_map_row.specs.Rows.{collection_at}
use Rattle.image_map.specs.Image.{no_collection, collections_at}
use Rattle.image_map_put.specs.Few.{Few}
use Rattle.image_map_put.specs.Rows.{read_as}
use Rattle.image_map_put.proofs.Tidy.{rows-used}
use Rattle.image_map_put.proofs.Whole.{collections_long, shards_long}
use Rattle.image_map_edit.specs.Becomes.{CollectionsBecome, ShardsBecome}
use Rattle.image_map_edit.specs.Edits.{After, Edits}
use Rattle.image_map_edit.proofs.Frames.{after-collections, edits_both}

-- a collection, by the place at which it was sought
module _ (s : List ℕ) (few : Few s) (name : keys.Name) (count place : ℕ) (counts : count ≡ number_at 8 s 16) (is : place ≡ first_at (is_named name) (view_collections (collections_at s))) where
  place_in : place ≡ first_at (is_named name) (read_as s).collections
  place_in = is ∙ ap (λ (l : List CollectionRow). first_at (is_named name) (map view_collection l)) (rows-used (number_at 8 s 16) (collection_at s) 56 3112 no_collection 16 few.collections)

  pub has_it : place < count → has_collection name (read_as s).collections ≡ true
  unfolding has_collection
  has_it h = let n = collections_long s few in let q = place_in in any_at (is_named name) (read_as s).collections (omega arith)

  pub has_not : count ≤ place → has_collection name (read_as s).collections ≡ false
  unfolding has_collection
  has_not h = let n = collections_long s few in let q = place_in in any_none (is_named name) (read_as s).collections (omega arith)

module _ (s t : List ℕ) (few : Few s) (name : keys.Name) where
  abbrev others : List tables.Collection
  others = filter (λ c. not (same_name c.name name)) (read_as s).collections

  abbrev rest : List tables.ShardInfo → List tables.ShardInfo
  rest l = filter (λ x. not (same_name x.key.collection name)) l

  module _ (b : CollectionsBecome s t others) where
    fewer : length others ≤ 16
    fewer = let n = collections_long s few in let f = few.collections in let k = length-filter (λ c. not (same_name c.name name)) (read_as s).collections in omega arith

    middle : After s t (set_collections (read_as s) others (read_as s).shards)
    middle = after-collections s t few others fewer b

    pub few-between : Few t
    few-between = middle.few

    pub both_dropped : (u : List ℕ) → ShardsBecome t u (rest (read_as t).shards) → Edits s u (set_collections (read_as s) others (rest (read_as s).shards))
    both_dropped u d =
        let same : (read_as t).shards ≡ (read_as s).shards = ap (λ (x : tables.Map). x.shards) middle.view in
        let n = shards_long s few in
        let f = few.shards in
        let k = length-filter (λ (x : tables.ShardInfo). not (same_name x.key.collection name)) (read_as s).shards in
        edits_both s t u few others fewer b (rest (read_as s).shards) (omega arith) (subst (λ (l : List tables.ShardInfo). ShardsBecome t u (rest l)) same d)
