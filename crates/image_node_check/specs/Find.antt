-- What the test of a lent state in place promises: the bytes lend no state, or one without the shard, or one with it. Definitions only.
use Rattle.std.specs.Prelude.{ℕ, ◌+◌, ◌≤◌, ◌<◌, ◌≡◌, true, List, length, get_or}
use Rattle.spec.specs.Keys.{Key}
use Rattle.node_header.specs.declared.HeldRow.{HeldRow}
use Rattle.node_header.specs.View.{no_held_row}
use Rattle.image_header.specs.Image.{node_at}
use Rattle.image_header_check.specs.Rows.{Counts}
use Rattle.node_lent.specs.Lend.{Absents, Found, Finds}
use Rattle.node_lent.specs.declared.Lent as found
use Rattle.node_lent.specs.declared.Lent.TheVariants as L
use Rattle.image_store.specs.Image.{store_size}
use Rattle.image_node.specs.Lent.{begin_of, lent_store_in, lends_state}
use Rattle.image_node.specs.State.{held_row_image}

module _ (h s : List ℕ) (k : Key) where
  -- the row at a place
  abbrev pub held_row_in : ℕ → HeldRow
  held_row_in at = get_or (node_at h).held at no_held_row

  -- the shard is not held
  pub record AbsentIn : Type 0 where
    pub lends : lends_state h s k ≡ true
    pub absent : Absents (node_at h) k (lent_store_in s (node_at h) k)

  -- it stands at this place, and its store passes the test
  pub record FoundIn (at : ℕ) : Type 0 where
    pub lends : lends_state h s k ≡ true
    pub found : Found (node_at h) k (lent_store_in s (node_at h) k) at
    pub counts : Counts h (node_at h).count
    pub slot : (held_row_in at).slot < 8
    pub room : begin_of (held_row_in at) + store_size ≤ length s
    pub well : held_row_image s (held_row_in at) ≡ true

  abbrev pub FindsIn : found.Lent → Type 0
  FindsIn L.Malformed = lends_state h s k ≡ true → Finds (node_at h) k (lent_store_in s (node_at h) k) L.Malformed
  FindsIn L.Absent = AbsentIn
  FindsIn (L.At at) = FoundIn at
