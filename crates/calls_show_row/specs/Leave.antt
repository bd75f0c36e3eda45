-- A row of the header as a row of the map leaves it, and the workers that start: those of the peers that were not known. Definitions only.
use Rattle.std.specs.Prelude.{ℕ, ◌+◌, ◌*◌, ◌≤◌, ◌<◌, ◌≡◌, List, [], map, ltb, length, take}
use Rattle.spec.specs.Lists.{any}
use Rattle.spec.specs.Limits.{max_workers}
use Rattle.spec.specs.Node.Shown as show
use Rattle.spec.specs.declared.Metric.{Metric}
use Rattle.spec.specs.declared.Peer.{Peer}
use Rattle.map_tables.specs.declared.ShardRow.{ShardRow}
use Rattle.map_tables.specs.Names.{view_key}
use Rattle.map_tables.specs.View.{view_holders, view_in_sync}
use Rattle.node_shard.specs.Shows.{record_epoch}
use Rattle.node_header.specs.declared.HeldRow.{HeldRow}
use Rattle.node_header.specs.View.{Stores}
use Rattle.image_parts.specs.Shape.{Stored}
use Rattle.image_header_row.specs.Rows.{held_row_at}
use Rattle.image_header_set.specs.Row.{Outside, count_set}
use Rattle.calls_header.specs.Shows.{start_bytes}
use Rattle.calls_show_row.specs.Peers.{peers_set}
use Rattle.calls_show_row.specs.Row.{showing, Shows}
use Rattle.calls_show_row.specs.Set.{record_set}

-- the shard with other peers, n of them in use
abbrev pub rows_set : HeldRow → List Peer → ℕ → HeldRow
rows_set x l n = count_set (peers_set x l) n

-- x became y: its peers in use l, and what else f sets; of the peers in use before, r are known
pub record Grown (x y : HeldRow) (l : List Peer) (was : ℕ) (f : HeldRow → HeldRow) (r : ℕ) : Type 0 where
  pub known : r ≡ was
  pub is : y ≡ f (rows_set x y.held.peers y.held.count)
  pub rows : take y.held.count y.held.peers ≡ l
  pub few : y.held.count ≤ 32

-- .. of the row at a position; 33 where l has more than the row takes
pub record Grows (s t : List ℕ) (at : ℕ) (l : List Peer) (was : ℕ) (f : HeldRow → HeldRow) (r : ℕ) : Type 0 where
  pub most : r ≤ 33
  pub outside : Outside s t at 1280
  pub over : 32 < r → max_workers < length l
  pub fits : r ≤ 32 → Grown (held_row_at s at) (held_row_at t at) l was f r

-- a new record: a row for each other holder, and none known before
abbrev pub Rises : (s t : List ℕ) → (at me : ℕ) → ShardRow → ℕ → Type 0
Rises s t at me row r =
    Grows s t at (show.with_rows me (view_in_sync row.insync) (view_holders row.replicas) []) 0
    (λ x. record_set x row.epoch (any (show.is_node me) (view_in_sync row.insync))) r

-- a record that stays: the peers with those that are new, and the ack set as far as the map lists it
abbrev pub Stays : (s t : List ℕ) → (at me : ℕ) → ShardRow → ℕ → Type 0
Stays s t at me row r =
    Grows s t at
    (show.with_rows me [] (view_holders row.replicas)
    (map (show.retained (view_holders row.replicas)) (take (held_row_at s at).held.count (held_row_at s at).held.peers)))
    (held_row_at s at).held.count (λ x. x) r

-- the workers of the shard y for the peers that are not among the first r of `old`
abbrev pub starts_between : ℕ → (old : List Peer) → HeldRow → Metric → List show.Worker
starts_between r old y metric =
    show.starts (view_key y.key) (record_epoch y.held.role) metric (take r old) (take y.held.count y.held.peers)

-- the row at a position becomes what the map leaves of the shard; 33 where it needs a 33rd worker
pub record Leaves (s t : List ℕ) (at me : ℕ) (row : ShardRow) (r : ℕ) : Type 0 where
  pub most : r ≤ 33
  pub full : (st : Stores) (metric : Metric) → show.overworked (showing me row metric st (held_row_at s at)) ≡ ltb 32 r
  pub shows : r ≤ 32 → Shows s t at me row
  pub start : r ≤ 32 → (st : Stores) (metric : Metric)
      → (showing me row metric st (held_row_at s at)).start ≡ starts_between r (held_row_at s at).held.peers (held_row_at t at) metric

-- those workers are stored, and the next place is told
pub record PutsNew (p q : List ℕ) (to : ℕ) (l : List show.Worker) (r : ℕ) : Type 0 where
  pub stored : Stored p q to (start_bytes l) (54 * length l)
  pub next : r ≡ to + 54 * length l
  pub few : length l ≤ 32
