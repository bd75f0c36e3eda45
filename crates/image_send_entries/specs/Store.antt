-- A store in its bytes as a worker sends it: the columns that the bytes are, and the runs of equal epochs. Definitions only.
use Rattle.std.specs.Prelude.{ℕ, ◌+◌, ◌*◌, ◌≤◌, ◌≡◌, Bool, true, cond, not, List, map, eqb, ltb, length}
use Rattle.spec.specs.Log.{End}
use Rattle.spec.specs.Layout.Format.{Bytes, number_at, concat_map, encode, ◌▸◌}
use Rattle.spec.specs.Layout.Parts.{u64, end_value}
use Rattle.log_store.specs.View.{Columns, log_of}
use Rattle.node_send_entries.specs.Sent.{Sendable}
use Rattle.image_store.specs.Image.{store_size, log_at}
use Rattle.image_store.specs.Read.{columns_at, all_readable}
use Rattle.image_node.specs.Lent.{no_lent_store}

-- the columns of the store of `count` entries that begins at `base`
abbrev pub store_columns : List ℕ → (base count : ℕ) → Columns
store_columns s base count = columns_at s base count no_lent_store.columns.floats

-- what the test of a store (24) says of its bytes
pub record Sends (s : List ℕ) (base count : ℕ) : Type 0 where
  pub stands : base + store_size ≤ length s
  pub bytes : Bytes s
  pub sendable : Sendable (store_columns s base count) count
  pub inside : all_readable s base count ≡ true
  pub log : log_of (store_columns s base count) count ≡ log_at s base count

-- entry i, of the first n, is the last of a run of equal epochs
abbrev pub ends_run : List ℕ → (base n i : ℕ) → Bool
ends_run s base n i = cond (ltb (i + 1) n) (not (eqb (number_at 8 s (base + i * 8)) (number_at 8 s (base + (i + 1) * 8)))) true

-- the bytes of an epoch table's pairs
abbrev pub pairs_bytes : List End → List ℕ
pairs_bytes t = concat_map (encode (u64 ▸ u64)) (map end_value t)
