use Rattle.image_map_row.specs.Rows.{collection_at}
use Rattle.image_parts.specs.Parts.{name_at}
use Rattle.image_map_row.proofs.collections.collection_at.Goals as goal

pub returns : goal.returns
unfolding collection_at name_at
returns c =
    rw (c.name_at-name.ensures, c.get4-dimension.ensures, c.metric_of-metric.ensures, c.get4.ensures, c.get4-2.ensures, c.get4-3.ensures)
