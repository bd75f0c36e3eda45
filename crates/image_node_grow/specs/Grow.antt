-- What a call in place leaves of a held shard. Definitions only.
use Rattle.std.specs.Prelude.{ℕ, ◌+◌, List, get_or}
use Rattle.wire_read.specs.declared.OpPart.{OpPart}
use Rattle.node_header.specs.declared.HeldRow.{HeldRow}
use Rattle.node_header.specs.View.{no_held_row}
use Rattle.image_header.specs.Image.{node_at}
use Rattle.image_header.specs.Becomes.{HeaderWrites}
use Rattle.image_header_counts.specs.Counts.{with_counts}
use Rattle.image_node.specs.Lent.{begin_of}
use Rattle.image_store_append.specs.Put.{Grown, entry_by}

-- the row at a place of a header
abbrev pub row_in : List ℕ → ℕ → HeldRow
row_in h at = get_or (node_at h).held at no_held_row

-- the store of the shard at a place is one entry longer, under the shard's own epoch, and the header counts it
pub record Grows (h h' s t : List ℕ) (at : ℕ) (m : List ℕ) (o : OpPart) : Type 0 where
  pub rows : ℕ
  pub store : Grown s t (begin_of (row_in h at)) (row_in h at).held.last (entry_by (row_in h at).held.epoch.0 (row_in h at).held.last m o) rows
  pub header : HeaderWrites h h' (with_counts (node_at h) at ((row_in h at).held.last + 1) rows)
