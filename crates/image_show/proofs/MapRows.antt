-- A map's rows in the bytes that it is read from, and a turn of the walk over them. Assumes nothing.
use Prim.Native.Nat.{ℕ, ◌+◌, ◌*◌, ◌≤◌, ◌<◌}
use mathlib.Core.Path.{◌≡◌, refl, sym, ap, subst, ◌∙◌}
use mathlib.Core.Bool.{Bool, true, false}
use mathlib.Core.List.{List}
use lib.ListN.{length, take, get_or, set}
use native.Mathlib.Omega.{arith}
use Rattle.spec.specs.Lists.{any}
use Rattle.spec.specs.Layout.Format.{number_at}
use Rattle.spec.specs.Map.Tables as tables
use Rattle.spec.specs.Node.Shown as show
use Rattle.map_tables.specs.declared.NodeRow.{NodeRow}
use Rattle.map_tables.specs.declared.ShardRow.{ShardRow}
use Rattle.map_tables.specs.declared.CollectionRow.{CollectionRow}
use Rattle.map_tables.specs.Counted.{Sized, TablesCounted}
use Rattle.map_tables.specs.View.{view_holders, view_shard, view_map}
use Rattle.map_tables.specs.declared.ShardMap.{ShardMap}
use Rattle.node_header.specs.declared.HeldRow.{HeldRow}
use Rattle.node_header.specs.declared.Node.{Node}
use Rattle.node_header.specs.View.{Stores, view_node}
use Rattle.image_map_row.specs.Rows as rows
use Rattle.image_map.specs.Image.{no_node, no_collection, no_shard, nodes_at, collections_at, map_at}
use Rattle.image_map_check.proofs.RowLaws.{rows_long, rows_row}
use Rattle.node_show_row.specs.Rows.{dead_at}
use Rattle.node_show.specs.declared.Start.{Start}
use Rattle.node_show.specs.declared.NodeShown.{NodeShown}
use Rattle.node_show.specs.declared.ShownAnswer.TheVariants as A
use Rattle.node_show.specs.Rows.{Taken, RowShown, listed_shown, ShowsListed}
use Rattle.node_show.specs.Shows.{TakesMap}
use Rattle.node_show.proofs.Walk.{Walking, walk_skip, walk_take, no_row, sized-at, unlisted, listed}

module _ (s : List ℕ) where
  pub version_is : (map_at s).version ≡ number_at 8 s 0
  unfolding map_at
  version_is = refl

  pub nodes-is : (map_at s).nodes ≡ nodes_at s
  unfolding map_at
  nodes-is = refl

  pub collections-many : (map_at s).collections.count ≡ number_at 8 s 16
  unfolding map_at
  collections-many = refl

  pub shards-many : (map_at s).shards.count ≡ number_at 8 s 24
  unfolding map_at
  shards-many = refl

  -- the rows in use are in the arrays
  pub nodes-fit : (nodes_at s).count ≤ 32 → (nodes_at s).count ≤ length (nodes_at s).items
  nodes-fit h = let l = rows_long 32 96 40 (rows.node_at s) no_node (number_at 8 s 8) h in omega arith

  pub collections-fit : (collections_at s).count ≤ 16 → (collections_at s).count ≤ length (collections_at s).items
  collections-fit h = let l = rows_long 16 56 3112 (rows.collection_at s) no_collection (number_at 8 s 16) h in omega arith

  pub shards-fit : (map_at s).shards.count ≤ 64 → (map_at s).shards.count ≤ length (map_at s).shards.items
  unfolding map_at
  shards-fit h = let l = rows_long 64 272 4008 (rows.shard_at s) no_shard (number_at 8 s 24) h in omega arith

  -- and where each stands
  pub node_row : (nodes_at s).count ≤ 32 → (i : ℕ) (d : NodeRow) → i < (nodes_at s).count → get_or (nodes_at s).items i d ≡ rows.node_at s (40 + 96 * i)
  node_row h i d lt = rows_row 32 96 40 (rows.node_at s) no_node (number_at 8 s 8) h i d lt

  pub collection-row : (collections_at s).count ≤ 16 → (i : ℕ) (d : CollectionRow) → i < (collections_at s).count
      → get_or (collections_at s).items i d ≡ rows.collection_at s (3112 + 56 * i)
  collection-row h i d lt = rows_row 16 56 3112 (rows.collection_at s) no_collection (number_at 8 s 16) h i d lt

  pub shard-row : (map_at s).shards.count ≤ 64 → (i : ℕ) (d : ShardRow) → i < (map_at s).shards.count
      → get_or (map_at s).shards.items i d ≡ rows.shard_at s (4008 + 272 * i)
  unfolding map_at
  shard-row h i d lt = rows_row 64 272 4008 (rows.shard_at s) no_shard (number_at 8 s 24) h i d lt

-- ---- a turn of the walk

module _ (n : Node) (s : List ℕ) (counted : TablesCounted (map_at s)) (out : List Taken) (count i : ℕ)
    (w : Walking n (map_at s).shards.items (map_at s).shards.count (map_at s).collections out count i) (h : i < (map_at s).shards.count)
    (row : ShardRow) (row_is : row ≡ rows.shard_at s (4008 + 272 * i)) where
  abbrev Next : List Taken → (count i : ℕ) → Type 0
  Next o c j = Walking n (map_at s).shards.items (map_at s).shards.count (map_at s).collections o c j

  abbrev there : ShardRow
  there = get_or (map_at s).shards.items i no_row

  fits : (map_at s).shards.count ≤ length (map_at s).shards.items
  fits = shards-fit s counted.shards.count

  here : row ≡ there
  here = row_is ∙ sym (shard-row s counted.shards.count i no_row h)

  pub row_sized : Sized row
  row_sized = subst Sized (sym here) (sized-at (map_at s).shards counted.shards fits i h no_row)

  pub turn_unlisted : any (show.listed_as n.id.0 n.incarnation) (view_holders row.replicas) ≡ false → Next out count (i + 1)
  turn_unlisted u =
      walk_skip n (map_at s).shards.items (map_at s).shards.count (map_at s).collections out count i w fits h no_row
      (λ st m e. unlisted st n m there (ap (λ (x : ShardRow). any (show.listed_as n.id.0 n.incarnation) (view_holders x.replicas)) (sym here) ∙ u))

  module _ (l : any (show.listed_as n.id.0 n.incarnation) (view_holders row.replicas) ≡ true) (r : RowShown)
      (shows : ShowsListed n (collections_at s) row r) where
    shown : ShowsListed n (map_at s).collections there r
    unfolding map_at
    shown = subst (λ (x : ShardRow). ShowsListed n (collections_at s) x r) here shows

    on_list : (st : Stores) (m : tables.Map) → show.show_shard (view_node st n) m (view_shard there) ≡ listed_shown st n m there
    on_list st m =
        listed st n m there (ap (λ (x : ShardRow). any (show.listed_as n.id.0 n.incarnation) (view_holders x.replicas)) (sym here) ∙ l)

    pub turn_skip : r.skip ≡ true → Next out count (i + 1)
    turn_skip q =
        walk_skip n (map_at s).shards.items (map_at s).shards.count (map_at s).collections out count i w fits h no_row
        (λ st m e. on_list st m ∙ shown.skips q st m e)

    module _ (q : r.skip ≡ false) (few : count ≤ 8) (long : length out ≡ 8) where
      module _ (f : r.full ≡ false) where
        pub turn_take : count < 8 → Next (set out count r.taken) (count + 1) (i + 1)
        turn_take room =
            walk_take n (map_at s).shards.items (map_at s).shards.count (map_at s).collections out count i w fits h no_row (omega arith) r.taken
            (λ st m e. on_list st m ∙ (shown.takes q f st m e).is)
            (λ st. (shown.takes q f st (view_map (map_at s)) refl).fits)
            (shown.slot q) (shown.key q)

-- ---- the nodes

pub dead-is : (s : List ℕ) (id incarnation : ℕ) (b : Bool) → b ≡ any (dead_at id incarnation) (take (nodes_at s).count (nodes_at s).items)
    → b ≡ any (dead_at id incarnation) (take (map_at s).nodes.count (map_at s).nodes.items)
unfolding map_at
dead-is s id incarnation b e = e

-- ---- the node after, with the version that was read

abbrev shown_as : Node → (version : ℕ) → List Start → (count : ℕ) → List HeldRow → NodeShown
shown_as n version starts count held = record {
  answer = A.Shown;
  starts = starts;
  count = count;
  node = record { id = n.id; incarnation = n.incarnation; expiry = n.expiry; version = version; held = held; count = count };
}

pub versioned : (n : Node) (m : ShardMap) (version : ℕ) → m.version ≡ version → (starts : List Start) (count : ℕ) (held : List HeldRow)
    → TakesMap n m (shown_as n m.version starts count held) → TakesMap n m (shown_as n version starts count held)
versioned n m version e starts count held t = subst (λ (v : ℕ). TakesMap n m (shown_as n v starts count held)) e t
