-- A well-formed map in its one form is well formed as a lent one: no count beside an array passes its limit (paper 01, 'Who is turned down',
-- 24). Assumes nothing.
use Prim.Native.Nat.{ℕ, ◌≤◌}
use mathlib.Core.Path.{◌≡◌, refl, ap, ◌∙◌}
use mathlib.Core.Bool.{Bool, true}
use mathlib.Core.List.{List, [], ◌∷◌, map}
use lib.ListN.{length, take, length-take}
use lib.Dec.{leb}
use native.Mathlib.Omega.{arith}
use borrow.Author.Tests.{leb-true, le-leb}
use Rattle.spec.specs.Lists.{◌and◌, every, rising}
use Rattle.spec.specs.Limits.{max_replicas}
use Rattle.spec.specs.Refusals as said
use Rattle.spec.specs.Map.Tables as tables
use Rattle.spec.specs.Map.Create.{collection_below, shard_below}
use Rattle.spec.specs.Map.Apply.{node_below, session_below}
use Rattle.spec.specs.Map.WellFormed.{name_fits, node_fits, collection_fits, shard_fits, rejection_fits, outcome_fits, session_fits, table_fits, well_formed_map}
use Rattle.spec_laws.proofs.Lists.{and_true, and_left, and_right}
use Rattle.spec_laws.proofs.Map.Rows.{every_tail, every_cons}
use Rattle.map_tables.specs.Counted.{row_counted, TablesCounted}
use Rattle.map_tables.specs.View.{view_shard, view_map}
use Rattle.map_tables.specs.declared.ShardRow.{ShardRow}
use Rattle.map_tables.specs.declared.ShardMap.{ShardMap}
use Rattle.map_check.specs.Rows.{node_counted, collection_counted, shard_counted, rejection_counted, outcome_counted, session_counted}
use Rattle.map_check.specs.Lent.{table_counted, nodes_counted, collections_counted, shards_counted, sessions_counted, counted, well_formed_lent}
use Rattle.image_parts.specs.Canon.{padded, image_key}
use Rattle.image_map.specs.Canon.{image_node, image_collection, image_shard, image_rejection, image_outcome, rejection_key, outcome_key, image_session}
use Rattle.image_map.specs.Image.{no_node, no_collection, no_shard, no_session, image_map}
use Rattle.image_map.proofs.Canon.{take-table, view-map}

-- ---- a table

module _ {A B : Type 0} (row : A → Bool) (image : B → A) where
  every_image : (fit : B → Bool) → ((y : B) → fit y ≡ true → row (image y) ≡ true) → (l : List B) → every fit l ≡ true → every row (map image l) ≡ true
  unfolding every
  every_image fit law [] h = refl
  every_image fit law (y ∷ l) h =
      let t = every_tail fit y l h in
      every_cons row (image y) (map image l) (law y t.0) (every_image fit law l t.1)

  table_counted_lem : (limit : ℕ) (past : A) (l : List B) → length l ≤ limit → every row (map image l) ≡ true
      → table_counted limit row (length l) (padded limit past (map image l)) ≡ true
  unfolding table_counted
  table_counted_lem limit past l few h =
      and_true (leb (length l) limit) _ (le-leb (length l) limit few) (ap (every row) (take-table image limit past l) ∙ h)

module _ {A : Type 0} (limit : ℕ) (lt : A → A → Bool) (row : A → Bool) (l : List A) (h : table_fits limit lt row l ≡ true) where
  fits-few : length l ≤ limit
  unfolding table_fits
  fits-few = leb-true (length l) limit (and_left (leb (length l) limit) _ h)

  fits-rows : every row l ≡ true
  unfolding table_fits
  fits-rows = and_right (rising lt l) _ (and_right (leb (length l) limit) _ h)

-- ---- shards: that the in_sync_lem ids are within their array is had of the table before

shard_in : (r : ShardRow) → row_counted r ≡ true → shard_fits (view_shard r) ≡ true → shard_counted (image_shard (view_shard r)) ≡ true
unfolding shard_fits
shard_in r c f =
    let s = view_shard r in
    let name = and_left (name_fits s.key.collection) _ f in
    let held = and_left (leb (length s.replicas) max_replicas) _ (and_right (name_fits s.key.collection) _ f) in
    let n : r.insync.count ≤ 8 = leb-true r.insync.count 8 (and_right (leb r.replicas.count 8) _ c) in
    let k : length s.insync ≤ 8 = omega (arith, length-take r.insync.count r.insync.items) in
    and_true (name_fits s.key.collection) _ name (and_true (leb (length s.replicas) 8) _ held (le-leb (length s.insync) 8 k))

shards_in : (rows : List ShardRow) → every row_counted rows ≡ true → every shard_fits (map view_shard rows) ≡ true
    → every shard_counted (map image_shard (map view_shard rows)) ≡ true
unfolding every
shards_in [] c f = refl
shards_in (r ∷ rows) c f =
    let a = every_tail row_counted r rows c in
    let b = every_tail shard_fits (view_shard r) (map view_shard rows) f in
    every_cons shard_counted (image_shard (view_shard r)) (map image_shard (map view_shard rows)) (shard_in r a.0 b.0) (shards_in rows a.1 b.1)

-- ---- sessions

rejection_in : (r : said.Rejection) → rejection_fits r ≡ true → rejection_counted (image_rejection r) (image_key (rejection_key r)).collection ≡ true
rejection_in said.older h = refl
rejection_in (said.exists n) h = h
rejection_in said.zero_spec h = refl
rejection_in said.placement_mismatch h = refl
rejection_in (said.not_alive n) h = refl
rejection_in (said.no_collection n) h = h
rejection_in (said.known_incarnation n i) h = refl
rejection_in (said.not_at_incarnation n i) h = refl
rejection_in (said.no_shard k) h = h
rejection_in (said.other_epoch k own given) h = h
rejection_in (said.already_held n) h = refl
rejection_in said.removes_primary h = refl
rejection_in (said.not_held n) h = refl
rejection_in (said.not_in_sync n) h = refl
rejection_in said.shrinks_primary h = refl
rejection_in (said.already_in_sync n) h = refl

outcome_in : (o : tables.Outcome) → outcome_fits o ≡ true → outcome_counted (image_outcome o) (image_key (outcome_key o)).collection ≡ true
outcome_in tables.applied h = refl
outcome_in (tables.rejected r) h = rejection_in r h

-- ---- the map

module _ (m : ShardMap) (c : TablesCounted m) (w : well_formed_map (view_map m) ≡ true) where
  abbrev x : tables.Map
  x = view_map m

  nodes-fit : table_fits 32 node_below node_fits x.nodes ≡ true
  unfolding well_formed_map
  nodes-fit = and_left (table_fits 32 node_below node_fits x.nodes) _ w

  more₁ : table_fits 16 collection_below collection_fits x.collections and table_fits 64 shard_below shard_fits x.shards
      and table_fits 64 session_below session_fits x.sessions ≡ true
  unfolding well_formed_map
  more₁ = and_right (table_fits 32 node_below node_fits x.nodes) _ w

  collections-fit : table_fits 16 collection_below collection_fits x.collections ≡ true
  collections-fit = and_left (table_fits 16 collection_below collection_fits x.collections) _ more₁

  more₂ : table_fits 64 shard_below shard_fits x.shards and table_fits 64 session_below session_fits x.sessions ≡ true
  more₂ = and_right (table_fits 16 collection_below collection_fits x.collections) _ more₁

  shards-fit : table_fits 64 shard_below shard_fits x.shards ≡ true
  shards-fit = and_left (table_fits 64 shard_below shard_fits x.shards) _ more₂

  sessions-fit : table_fits 64 session_below session_fits x.sessions ≡ true
  sessions-fit = and_right (table_fits 64 shard_below shard_fits x.shards) _ more₂

  nodes_in : nodes_counted (image_map x).nodes ≡ true
  nodes_in =
      table_counted_lem node_counted image_node 32 no_node x.nodes (fits-few 32 node_below node_fits x.nodes nodes-fit)
      (every_image node_counted image_node node_fits (λ y h. h) x.nodes (fits-rows 32 node_below node_fits x.nodes nodes-fit))

  collections_in : collections_counted (image_map x).collections ≡ true
  collections_in =
      table_counted_lem collection_counted image_collection 16 no_collection x.collections
      (fits-few 16 collection_below collection_fits x.collections collections-fit)
      (every_image collection_counted image_collection collection_fits (λ y h. h) x.collections (fits-rows 16 collection_below collection_fits x.collections collections-fit))

  shards-counted : shards_counted (image_map x).shards ≡ true
  shards-counted =
      table_counted_lem shard_counted image_shard 64 no_shard x.shards (fits-few 64 shard_below shard_fits x.shards shards-fit)
      (shards_in (take m.shards.count m.shards.items) c.shards.rows (fits-rows 64 shard_below shard_fits x.shards shards-fit))

  sessions_in : sessions_counted (image_map x).sessions ≡ true
  sessions_in =
      table_counted_lem session_counted image_session 64 no_session x.sessions (fits-few 64 session_below session_fits x.sessions sessions-fit)
      (every_image session_counted image_session session_fits (λ y h. outcome_in y.outcome h) x.sessions (fits-rows 64 session_below session_fits x.sessions sessions-fit))

  pub image_formed : well_formed_lent (image_map x) ≡ true
  unfolding well_formed_lent counted
  image_formed =
      and_true (counted (image_map x)) _
      (and_true (nodes_counted (image_map x).nodes) _ nodes_in
      (and_true (collections_counted (image_map x).collections) _ collections_in
      (and_true (shards_counted (image_map x).shards) _ shards-counted sessions_in)))
      (ap well_formed_map (view-map x) ∙ w)
