-- The peers of a held shard's row, changed where they stand. Definitions only.
use Rattle.std.specs.Prelude.{ℕ, ◌≤◌, ◌<◌, ◌≡◌, List, length, take, Option, Some, None}
use Rattle.spec.specs.Limits.{max_workers}
use Rattle.spec.specs.declared.Peer.{Peer}
use Rattle.node_shard.specs.View.{with_rows}
use Rattle.node_header.specs.declared.HeldRow.{HeldRow}
use Rattle.node_header.specs.View.{kept_as}
use Rattle.image_header_row.specs.Rows.{held_row_at}
use Rattle.image_header_set.specs.Row.{Outside, RowBecomes}

-- the shard with other rows of peers in its array
abbrev pub peers_set : HeldRow → List Peer → HeldRow
peers_set x l = kept_as x (with_rows x.held l)

-- the peers in the array of the row at a position
abbrev pub peers_in : List ℕ → ℕ → List Peer
peers_in s at = (held_row_at s at).held.peers

-- of the row at a position only peers are changed: the first n become l
pub record PeersBecome (s t : List ℕ) (at n : ℕ) (l : List Peer) : Type 0 where
  pub becomes : RowBecomes s t at (peers_set (held_row_at s at) (peers_in t at))
  pub rows : take n (peers_in t at) ≡ l

-- what holds of a number of at most 32; or of 33, where there is none since 32 are too few
abbrev pub AtMost32 : Option ℕ → (ℕ → Type 0) → Type 0
AtMost32 (Some n) P = (n ≤ 32) × P n
AtMost32 None P = P 33

-- .. r of them in use then, or 33 where l has more than the row takes
pub record PeersGrow (s t : List ℕ) (at : ℕ) (l : List Peer) (r : ℕ) : Type 0 where
  pub most : r ≤ 33
  pub outside : Outside s t at 1280
  pub fits : r ≤ 32 → PeersBecome s t at r l
  pub over : 32 < r → max_workers < length l
