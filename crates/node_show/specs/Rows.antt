-- What a map's rows promise of a shard that lists this node. Definitions only.
use Rattle.std.specs.Prelude.{ℕ, ◌<◌, ◌≤◌, Bool, true, false, ◌≡◌, List, map, take, get_or}
use Rattle.std.proofs.Math.Option.{Option, none, some}
use Rattle.spec.specs.Lists.{lead}
use Rattle.spec.specs.Limits.{max_held}
use Rattle.spec.specs.Keys as keys
use Rattle.spec.specs.Map.Tables as tables
use Rattle.spec.specs.Node.Shards.{held_shard}
use Rattle.spec.specs.Node.Shown as show
use Rattle.node_shard.specs.Shows.{worker_at}
use Rattle.map_tables.specs.declared.ShardRow.{ShardRow}
use Rattle.map_tables.specs.declared.Collections.{Collections}
use Rattle.map_tables.specs.Names.{view_name, view_key}
use Rattle.map_tables.specs.View.{view_shard, view_collections}
use Rattle.node_header.specs.declared.HeldRow.{HeldRow}
use Rattle.node_header.specs.declared.Node.{Node}
use Rattle.node_header.specs.View.{Stores, view_held_row, view_node, used, other_key, no_held_row}
use Rattle.node_show.specs.declared.Start.{Start}

-- ---- one shard after the map

-- a shard after the map, with the workers to start for it. One that begins has no slot yet: 8
pub record Taken : Type 0 where
  pub kept : HeldRow
  pub start : Start

-- one row of the map: the shard is not held after, a 33rd worker would be needed, or it is taken
pub record RowShown : Type 0 where
  pub skip : Bool
  pub full : Bool
  pub taken : Taken

abbrev pub view_start : Start → List show.Worker
view_start x = map (worker_at (view_key x.key) x.epoch.0 x.metric) (take x.peers.count x.peers.items)

abbrev pub view_taken : Stores → Taken → show.Showing
view_taken s x = record { held = view_held_row s x.kept; start = view_start x.start }

abbrev pub held_row_of : Taken → HeldRow
held_row_of x = x.kept

abbrev pub start_of : Taken → Start
start_of x = x.start

-- the place of a key's shard, or the count
abbrev pub place_of : Node → keys.Key → ℕ
place_of n k = lead (other_key k) (used n)

-- the slot of a shard held after: that of the same shard before, or none yet for one that begins
pub data SlotFrom (n : Node) (y : HeldRow) : Type 0 where
  opens : n.count ≤ place_of n (view_key y.key) → y.slot ≡ max_held → y.held.last ≡ 0 → y.stored ≡ 0 → SlotFrom n y
  stays : (q : ℕ) → q ≡ place_of n (view_key y.key) → q < n.count → (get_or n.held q no_held_row).slot ≡ y.slot
      → view_key (get_or n.held q no_held_row).key ≡ view_key y.key → SlotFrom n y

-- the definition's answer for a shard that lists this node
abbrev pub listed_shown : Stores → Node → tables.Map → ShardRow → Option show.Showing
listed_shown s n m row =
    show.show_listed n.id.0 (view_shard row) (show.collection_metric m (view_name row.key.collection)) (held_shard (view_node s n) (view_key row.key))

-- a 33rd worker for that shard
pub record Overworks (o : Option show.Showing) : Type 0 where
  pub showing : show.Showing
  pub is : o ≡ some showing
  pub over : show.overworked showing ≡ true

-- the shard is taken
pub record TakesRow (s : Stores) (o : Option show.Showing) (x : Taken) : Type 0 where
  pub is : o ≡ some (view_taken s x)
  pub fits : show.overworked (view_taken s x) ≡ false

-- of any map with these collections
pub record ShowsListed (n : Node) (t : Collections) (row : ShardRow) (r : RowShown) : Type 0 where
  pub skips : r.skip ≡ true → (s : Stores) (m : tables.Map) → m.collections ≡ view_collections t → listed_shown s n m row ≡ none
  pub over : r.skip ≡ false → r.full ≡ true → (s : Stores) (m : tables.Map) → m.collections ≡ view_collections t → Overworks (listed_shown s n m row)
  pub takes : r.skip ≡ false → r.full ≡ false → (s : Stores) (m : tables.Map) → m.collections ≡ view_collections t
      → TakesRow s (listed_shown s n m row) r.taken
  pub slot : r.skip ≡ false → SlotFrom n r.taken.kept
  pub key : r.skip ≡ false → view_key r.taken.kept.key ≡ view_key row.key
