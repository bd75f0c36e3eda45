-- A held shard's row with other numbers of entries and rows. Definitions only.
use Rattle.std.specs.Prelude.{ℕ, List, get_or, set}
use Rattle.node_shard.specs.declared.Held.{Held}
use Rattle.node_header.specs.declared.HeldRow.{HeldRow}
use Rattle.node_header.specs.declared.Node.{Node}
use Rattle.node_header.specs.View.{no_held_row, with_held_rows}
use Rattle.image_parts.specs.Shape.{items}
use Rattle.image_header_row.specs.Rows.{held_row_at}

abbrev pub last_as : Held → ℕ → Held
last_as h last = record {
  epoch = h.epoch;
  metric = h.metric;
  last = last;
  role = h.role;
  own = h.own;
  replicas = h.replicas;
  holders = h.holders;
  peers = h.peers;
  count = h.count;
}

abbrev pub counted : HeldRow → (last stored : ℕ) → HeldRow
counted x last stored = record { key = x.key; slot = x.slot; stored = stored; held = last_as x.held last }

abbrev pub rows_in : List ℕ → ℕ → List HeldRow
rows_in s count = items count (held_row_at s) 1280 48

-- the rows of a header, one of them so
abbrev pub counted_rows : List ℕ → (count row last stored : ℕ) → List HeldRow
counted_rows s count row last stored = set (rows_in s count) row (counted (get_or (rows_in s count) row no_held_row) last stored)

-- the header with these numbers of one shard: node_lent's `with_store`
abbrev pub with_counts : Node → (row last stored : ℕ) → Node
with_counts n row last stored = with_held_rows n (set n.held row (counted (get_or n.held row no_held_row) last stored))
