use mathlib.Core.Path.{◌∙◌}
use Rattle.map_tables.proofs.NameLaws.{same-bytes}
use Rattle.map_tables.proofs.names.same_name.Goals as goal

pub returns : goal.returns
returns c = c.eq.ensures ∙ same-bytes c.bytes_of.result.now c.bytes_of-2.result.now ∙ rw (c.bytes_of.ensures, c.bytes_of-2.ensures)
