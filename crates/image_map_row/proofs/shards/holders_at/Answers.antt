use Rattle.image_map_row.specs.Rows.{holders_at}
use Rattle.image_map_row.proofs.shards.holders_at.Goals as goal

pub returns : goal.returns
unfolding holders_at
returns c = rw (c.replicas_at-items.ensures, c.get8.ensures)
