use Rattle.image_map_row.specs.Rows.{in_sync_at}
use Rattle.image_map_row.proofs.shards.in_sync_at.Goals as goal

pub returns : goal.returns
unfolding in_sync_at
returns c = rw (c.ids_at-items.ensures, c.get8.ensures)
