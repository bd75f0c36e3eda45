use mathlib.Core.Path.{◌∙◌, ap}
use Rattle.image_parts.specs.Codes.{flag_of}
use Rattle.image_map_row.specs.Rows.{node_at}
use Rattle.image_map_loads.proofs.live.is_alive.Goals as goal

pub returns : goal.returns
unfolding node_at
returns c = c.flag_of.ensures ∙ ap flag_of c.get4.ensures
