-- A CopyShard that was read, past 21 and 22, and what a batch leaves of a held shard. Definitions only.
use Rattle.std.specs.Prelude.{ℕ, ◌≡◌, true, List}
use Rattle.spec.specs.Lists.{every}
use Rattle.spec.specs.Keys.{Key}
use Rattle.spec.specs.Log.{Entry}
use Rattle.spec.specs.Node.Wire.{entry_in_domain}
use Rattle.wire_read.specs.declared.CopyPart.{CopyPart}
use Rattle.log_domain.specs.Parts.{entries_in}
use Rattle.map_names.specs.Texts.{key_in}
use Rattle.node_log_backup.specs.Backs.{IsCopy}
use Rattle.image_header.specs.Image.{node_at}
use Rattle.image_header.specs.Becomes.{HeaderWrites}
use Rattle.image_header_counts.specs.Counts.{with_counts}
use Rattle.image_node_grow.specs.Grow.{row_in}
use Rattle.image_node_batch.specs.Batch.{BatchStored}

-- its parts, and the key that it names
pub record Asked (m : List ℕ) (p : CopyPart) (k : Key) : Type 0 where
  pub read : IsCopy m p
  pub inside : every entry_in_domain (entries_in m p.entries) ≡ true
  pub named : k ≡ key_in m p.key

-- the store of the shard at a place holds the batch, its log has r entries, and the header counts them
pub record GrowsAll (h h' s u : List ℕ) (at : ℕ) (es : List Entry) (r : ℕ) : Type 0 where
  pub rows : ℕ
  pub store : BatchStored s u (row_in h at).slot (row_in h at).held.last (row_in h at).stored es (record { count = r; stored = rows })
  pub header : HeaderWrites h h' (with_counts (node_at h) at r rows)
