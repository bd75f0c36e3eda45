-- A collection that is accepted: what is known of the map, and its two tables together. Assumes nothing.
use Prim.Native.Nat.{ℕ, ◌≤◌, ◌<◌}
use mathlib.Core.Path.{◌≡◌, refl, sym, ap, subst, ◌∙◌}
use mathlib.Core.Bool.{Bool, true, false}
use mathlib.Core.List.{List}
use lib.ListN.{length}
use native.Mathlib.Omega.{arith}
use Rattle.spec.specs.Keys.{Name}
use Rattle.spec.specs.Layout.Format.{number_at}
use Rattle.spec.specs.Lists.{put}
use Rattle.spec.specs.Refusals.{exists}
use Rattle.spec.specs.Map.Apply.{set_collections}
use Rattle.spec.specs.Map.Change.{accepts, rejects}
use Rattle.spec.specs.Map.Create.{Placement, collection_below, has_collection, with_shards, created_collections, created_shards, create_answer}
use Rattle.spec.specs.Map.Tables as tables
use Rattle.spec_laws.proofs.Map.Rows.{put-most}
use Rattle.spec_laws.proofs.Map.WellFormed.{create_room_lem}
use Rattle.map_create.proofs.Create.{exists_answer}
use Rattle.image_map_put.specs.Few.{Few}
use Rattle.image_map_put.specs.Rows.{read_as}
use Rattle.image_map_put.proofs.Whole.{collections_long}
use Rattle.image_map_edit.specs.Becomes.{CollectionsBecome, ShardsBecome}
use Rattle.image_map_edit.specs.Edits.{After, Edits}
use Rattle.image_map_edit.proofs.Frames.{after-collections, edits_both}

module _ (s : List ℕ) (few : Few s) (name : Name) (spec : tables.Spec) (p : Placement) (ok : create_answer (read_as s) name spec p ≡ accepts) where
  pub room-left : number_at 8 s 16 < 16
  room-left = let r = (create_room_lem (read_as s) name spec p ok).0 in let n = collections_long s few in omega arith

  pub not_there : has_collection name (read_as s).collections ≡ false
  not_there = go (has_collection name (read_as s).collections) refl
    where
      go : (b : Bool) → has_collection name (read_as s).collections ≡ b → has_collection name (read_as s).collections ≡ false
      go false e = e
      go true e =
          let w : rejects (exists name) ≡ accepts = sym (exists_answer (read_as s) name spec p e) ∙ ok in
          let z : ◌≡◌ {A = ℕ} 0 1 = cc in absurd (omega arith)

  abbrev row : tables.Collection
  row = record { name = name; spec = spec }

  module _ (t : List ℕ) (b : CollectionsBecome s t (put collection_below row (read_as s).collections)) where
    more : length (put collection_below row (read_as s).collections) ≤ 16
    more = let r = room-left in let n = collections_long s few in let k = put-most collection_below row (read_as s).collections in omega arith

    middle : After s t (set_collections (read_as s) (put collection_below row (read_as s).collections) (read_as s).shards)
    middle = after-collections s t few (put collection_below row (read_as s).collections) more b

    pub few-between : Few t
    few-between = middle.few

    same : with_shards (read_as t).shards (read_as t).nodes name 0 p ≡ created_shards (read_as s) name p
    unfolding created_shards
    same =
        ap (λ (x : tables.Map). with_shards x.shards x.nodes name 0 p) middle.view

    pub shards-fit : length (with_shards (read_as t).shards (read_as t).nodes name 0 p) ≤ 64
    shards-fit = let r = (create_room_lem (read_as s) name spec p ok).1 in let e = ap length same in omega arith

    pub both_created : (u : List ℕ) → ShardsBecome t u (with_shards (read_as t).shards (read_as t).nodes name 0 p)
        → Edits s u (set_collections (read_as s) (created_collections (read_as s) name spec) (created_shards (read_as s) name p))
    unfolding created_collections
    both_created u d =
        let r = (create_room_lem (read_as s) name spec p ok).1 in
        edits_both s t u few (put collection_below row (read_as s).collections) more b (created_shards (read_as s) name p) r (subst (ShardsBecome t u) same d)
