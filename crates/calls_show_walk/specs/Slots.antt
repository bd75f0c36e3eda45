-- The rows held after, put into a header: each shard in a slot of its own. Definitions only.
use Rattle.std.specs.Prelude.{ℕ, ◌+◌, ◌*◌, ◌≡◌, List, length, take, drop}
use Rattle.node_header.specs.declared.HeldRow.{HeldRow}
use Rattle.node_header.specs.declared.Node.{Node}
use Rattle.node_header.specs.View.{with_held_rows}
use Rattle.image_parts.specs.Shape.{items}
use Rattle.image_header_row.specs.Rows.{held_row_at}
use Rattle.image_header.specs.Image.{node_at}
use Rattle.image_header.specs.Becomes.{HeaderWrites}
use Rattle.image_header_check.specs.Rows.{Counts}
use Rattle.node_show_slots.specs.Slots.{Assigns}

-- the first `count` rows of a buffer of rows
abbrev pub rows_in : List ℕ → ℕ → List HeldRow
rows_in u count = items count (held_row_at u) 1280 0

-- of the header s of `count` shards those that had no slot have one in t, and nothing else is changed
pub record SlotsGiven (s t : List ℕ) (count : ℕ) : Type 0 where
  pub rows : List HeldRow
  pub node : node_at t ≡ with_held_rows (node_at s) rows
  pub assigns : Assigns (take count (node_at s).held) (take count rows)
  pub counts : Counts t count
  pub long : length t ≡ length s
  pub past : drop (48 + 1280 * count) t ≡ drop (48 + 1280 * count) s

-- the node n with other shards, under another version
abbrev pub holding : Node → List HeldRow → (count version : ℕ) → Node
holding n l count version = record {
  id = n.id;
  incarnation = n.incarnation;
  expiry = n.expiry;
  version = version;
  held = l;
  count = count;
}

-- the header s became t, in which the rows of the buffer u are held under that version
pub record HeaderTakes (s t u : List ℕ) (count version : ℕ) : Type 0 where
  pub plain : List HeldRow
  pub rows : List HeldRow
  pub is : take count plain ≡ rows_in u count
  pub assigns : Assigns (take count plain) (take count rows)
  pub writes : HeaderWrites s t (holding (node_at s) rows count version)
