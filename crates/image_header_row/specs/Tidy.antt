-- A row in the canonical form in which it is written: the key's bytes, the replicas and the peers that are in use, how many they are, and
-- zeros in the places past them. Whatever the free places held is gone, and the row is read as before. Definitions only.
use Rattle.std.specs.Prelude.{length, take}
use Rattle.map_tables.specs.Names.{view_key}
use Rattle.node_shard.specs.declared.Held.{Held}
use Rattle.node_header.specs.declared.HeldRow.{HeldRow}
use Rattle.image_parts.specs.Parts.{no_replica}
use Rattle.image_parts.specs.Canon.{padded, image_key}
use Rattle.image_header_row.specs.Rows.{no_peer}

unfoldable pub tidy_held : Held → Held
tidy_held h = record {
  epoch = h.epoch;
  metric = h.metric;
  last = h.last;
  role = h.role;
  own = h.own;
  replicas = padded 8 no_replica (take h.holders h.replicas);
  holders = length (take h.holders h.replicas);
  peers = padded 32 no_peer (take h.count h.peers);
  count = length (take h.count h.peers);
}

unfoldable pub tidy_held_row : HeldRow → HeldRow
tidy_held_row x = record { key = image_key (view_key x.key); slot = x.slot; stored = x.stored; held = tidy_held x.held }
