-- A walk over the map's shards that finds those that are held, each as it is. Assumes nothing.
use Prim.Native.Nat.{ℕ, ◌+◌, ◌*◌, ◌≤◌, ◌<◌}
use mathlib.Core.Path.{◌≡◌, refl, sym, ap, subst, ◌∙◌}
use mathlib.Core.Bool.{Bool, true, false}
use mathlib.Core.List.{List, [], ◌∷◌, ◌++◌, map, append_assoc}
use mathlib.Core.Option.{Option, none, some}
use native.Mathlib.Omega.{arith}
use lib.ListN.{length, take, drop, get_or}
use Rattle.spec.specs.Lists.{any, lead}
use Rattle.spec.specs.Layout.Format.{number_at}
use Rattle.spec.specs.Node.Held as held
use Rattle.spec.specs.Node.Shards.{held_shard}
use Rattle.spec.specs.Node.Shown as show
use Rattle.spec.specs.declared.Metric.{Metric}
use Rattle.spec.specs.declared.Replica.{Replica}
use Rattle.map_tables.specs.declared.ShardRow.{ShardRow}
use Rattle.map_tables.specs.declared.ShardMap.{ShardMap}
use Rattle.map_tables.specs.Names.{view_key, view_name}
use Rattle.map_tables.specs.Counted.{Sized, TablesCounted}
use Rattle.map_tables.specs.View.{view_holders, view_shard, view_map}
use Rattle.node_shard.specs.declared.Held.{Held}
use Rattle.node_shard.proofs.Loops.{used-next, used_over, take_next}
use Rattle.node_header.specs.declared.HeldRow.{HeldRow}
use Rattle.node_header.specs.declared.Node.{Node}
use Rattle.node_header.specs.View.{Stores, view_held_row, view_node, used, other_key, no_held_row}
use Rattle.node_header.proofs.Shards.{shard_some}
use Rattle.image_map_row.specs.Rows as rows
use Rattle.image_map.specs.Image.{map_at}
use Rattle.node_show.specs.Walks.{shards_after}
use Rattle.node_show.proofs.Walk.{no_row, sized-at, unlisted, listed}
use Rattle.image_show.proofs.MapRows.{shards-fit, shard-row}
use Rattle.image_header_row.specs.Rows.{held_row_at}
use Rattle.image_header.specs.Image.{node_at}
use Rattle.image_header_check.specs.Rows.{Counts}
use Rattle.image_header_check.proofs.Rows.{counted}
use Rattle.image_header_set.proofs.Place.{in_array, place_is, place_in, held-is}
use Rattle.image_show.specs.Quiet.{QuietRow, QuietMap}

abbrev still_as : Stores → HeldRow → show.Showing
still_as s x = show.still (view_held_row s x)

still-all : (s : Stores) (l : List HeldRow) → map show.still (map (view_held_row s) l) ≡ map (still_as s) l
still-all s [] = refl
still-all s (x ∷ l) = ap (λ (r : List show.Showing). still_as s x ∷ r) (still-all s l)

map-append : {A B : Type 0} (f : A → B) (l m : List A) → map f (l ++ m) ≡ map f l ++ map f m
map-append f [] m = refl
map-append {B = B} f (x ∷ l) m = ap (λ (r : List B). f x ∷ r) (map-append f l m)

append-nil : {A : Type 0} (l : List A) → l ++ [] ≡ l
append-nil [] = refl
append-nil {A} (x ∷ l) = ap (λ (r : List A). x ∷ r) (append-nil l)

module _ (n : Node) (m : List ℕ) where
  abbrev shards : List ShardRow
  shards = (map_at m).shards.items

  abbrev total : ℕ
  total = (map_at m).shards.count

  -- the shards held after are the first j of those before, and what the rows from i on give
  abbrev pub Quieting : (j i : ℕ) → Type 0
  Quieting j i = (s : Stores)
      → show.showings (view_node s n) (view_map (map_at m)) (map view_shard (take total shards))
      ≡ map (still_as s) (take j n.held) ++ show.showings (view_node s n) (view_map (map_at m)) (map view_shard (drop i (take total shards)))

  pub quiet_start : Quieting 0 0
  quiet_start s = refl

  module _ (tables : TablesCounted (map_at m)) (j i : ℕ) (w : Quieting j i) (h : i < total) (row : ShardRow) (is : row ≡ rows.shard_at m (4008 + 272 * i)) where
    abbrev there : ShardRow
    there = get_or shards i no_row

    abbrev rest : List ShardRow
    rest = drop (i + 1) (take total shards)

    fits : total ≤ length shards
    fits = shards-fit m tables.shards.count

    here : there ≡ row
    here = shard-row m tables.shards.count i no_row h ∙ sym is

    -- the definition's answer for the row
    abbrev shown : Stores → Option show.Showing
    shown s = show.show_shard (view_node s n) (view_map (map_at m)) (view_shard row)

    opened : (s : Stores) → show.showings (view_node s n) (view_map (map_at m)) (map view_shard (take total shards))
        ≡ map (still_as s) (take j n.held) ++ show.or_not (shown s) (show.showings (view_node s n) (view_map (map_at m)) (map view_shard rest))
    unfolding show.showings
    opened s =
        w s
        ∙ ap (λ (l : List ShardRow). map (still_as s) (take j n.held) ++ show.showings (view_node s n) (view_map (map_at m)) (map view_shard l))
        (used-next shards total i no_row fits h ∙ ap (λ (r : ShardRow). r ∷ rest) here)

    pub quiet_sized : Sized row
    quiet_sized = subst Sized here (sized-at (map_at m).shards tables.shards fits i h no_row)

    pub quiet_past : any (show.listed_as n.id.0 n.incarnation) (view_holders row.replicas) ≡ false → Quieting j (i + 1)
    quiet_past u s =
        opened s
        ∙ ap (λ (o : Option show.Showing). map (still_as s) (take j n.held) ++ show.or_not o (show.showings (view_node s n) (view_map (map_at m)) (map view_shard rest)))
        (unlisted s n (view_map (map_at m)) row u)

    module _ (l : any (show.listed_as n.id.0 n.incarnation) (view_holders row.replicas) ≡ true) (le : n.count ≤ length n.held) (lt : j < n.count)
        (place : j ≡ lead (other_key (view_key row.key)) (used n)) (q : QuietRow (get_or n.held j no_held_row).held n.id.0 row) where
      abbrev kept : HeldRow
      kept = get_or n.held j no_held_row

      by_metric : (s : Stores) (o : Option Metric) → show.show_listed n.id.0 (view_shard row) o (some (view_held_row s kept)) ≡ some (still_as s kept)
      unfolding show.show_listed
      by_metric s none = ap (λ (r : List Replica). some (show.still (record {
        key = (view_held_row s kept).key;
        replica = (view_held_row s kept).replica;
        holders = r;
        role = (view_held_row s kept).role;
        own = (view_held_row s kept).own;
        peers = (view_held_row s kept).peers;
      }))) (sym q.holders)
      by_metric s (some metric) = ap some (q.same (view_held_row s kept).key (view_held_row s kept).replica.log (view_held_row s kept).replica.vectors metric)

      found : (s : Stores) → shown s ≡ some (still_as s kept)
      found s =
          listed s n (view_map (map_at m)) row l
          ∙ ap (show.show_listed n.id.0 (view_shard row) (show.collection_metric (view_map (map_at m)) (view_name row.key.collection)))
          (shard_some s n (view_key row.key) le j place lt)
          ∙ by_metric s (show.collection_metric (view_map (map_at m)) (view_name row.key.collection))

      pub quiet_next : Quieting (j + 1) (i + 1)
      quiet_next s =
          let more = show.showings (view_node s n) (view_map (map_at m)) (map view_shard rest) in
          let one : map (still_as s) (take (j + 1) n.held) ≡ map (still_as s) (take j n.held) ++ (still_as s kept ∷ []) =
          ap (map (still_as s)) (take_next n.held j no_held_row (omega arith)) ∙ map-append (still_as s) (take j n.held) (kept ∷ []) in
          opened s
          ∙ ap (λ (o : Option show.Showing). map (still_as s) (take j n.held) ++ show.or_not o more) (found s)
          ∙ sym (append_assoc (map (still_as s) (take j n.held)) (still_as s kept ∷ []) more)
          ∙ ap (λ (r : List show.Showing). r ++ more) (sym one)

  pub quiet_end : TablesCounted (map_at m) → (j i : ℕ) → Quieting j i → total ≤ i → j ≡ n.count → QuietMap n (map_at m)
  quiet_end tables j i w h e = record {
    same = λ s. unfold show.showings in
        (w s
        ∙ ap (λ (l : List ShardRow). map (still_as s) (take j n.held) ++ show.showings (view_node s n) (view_map (map_at m)) (map view_shard l))
        (used_over shards total i (shards-fit m tables.shards.count) h)
        ∙ append-nil (map (still_as s) (take j n.held))
        ∙ ap (λ (k : ℕ). map (still_as s) (take k n.held)) e
        ∙ sym (still-all s (used n)));
  }

-- ---- and over the bytes of the header

module _ (s m : List ℕ) (count : ℕ) (counts : Counts s count) (tables : TablesCounted (map_at m)) where
  abbrev Next : (j i : ℕ) → Type 0
  Next j i = Quieting (node_at s) m j i

  same_count : (node_at s).count ≡ count
  same_count = counted s ∙ counts.2

  module _ (j i : ℕ) (w : Next j i) (h : i < (map_at m).shards.count) (row : ShardRow) (is : row ≡ rows.shard_at m (4008 + 272 * i)) (me own : ℕ)
      (id : me ≡ number_at 8 s 0) (incarnation : own ≡ number_at 8 s 8) where
    listed_same : any (show.listed_as (node_at s).id.0 (node_at s).incarnation) (view_holders row.replicas) ≡ any (show.listed_as me own) (view_holders row.replicas)
    unfolding node_at
    listed_same = rw (id, incarnation)

    me-is : me ≡ (node_at s).id.0
    unfolding node_at
    me-is = id

    pub turn_past : any (show.listed_as me own) (view_holders row.replicas) ≡ false → Next j (i + 1)
    turn_past u = quiet_past (node_at s) m tables j i w h row is (listed_same ∙ u)

    pub turn_on : any (show.listed_as me own) (view_holders row.replicas) ≡ true → j < count → (p : ℕ)
        → p ≡ lead (other_key (view_key row.key)) (take count (node_at s).held) → p ≡ j → QuietRow (held_row_at s (48 + 1280 * j)).held me row → Next (j + 1) (i + 1)
    turn_on l lt p e z q =
        quiet_next (node_at s) m tables j i w h row is (listed_same ∙ l) (in_array s count counts) (place_in s count counts j lt)
        (place_is s count counts (view_key row.key) j (sym z ∙ e))
        (subst (λ (x : ℕ). QuietRow (get_or (node_at s).held j no_held_row).held x row) me-is
        (subst (λ (x : Held). QuietRow x me row) (sym (held-is s count counts j lt)) q))

  pub turn_end : (j i : ℕ) → Next j i → (map_at m).shards.count ≤ i → j ≡ count → QuietMap (node_at s) (map_at m)
  turn_end j i w h e = quiet_end (node_at s) m tables j i w h (e ∙ sym same_count)
