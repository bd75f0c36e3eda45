use mathlib.Core.Path.{◌∙◌}
use Rattle.map_tables.proofs.NameLaws.{below-bytes}
use Rattle.map_tables.proofs.names.name_below.Goals as goal

pub returns : goal.returns
returns c = below-bytes c.bytes_of.result.now c.bytes_of-2.result.now c.lt.result c.lt.ensures ∙ rw (c.bytes_of.ensures, c.bytes_of-2.ensures)
