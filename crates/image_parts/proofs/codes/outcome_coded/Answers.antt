use mathlib.Core.Path.{◌∙◌}
use Rattle.image_parts.proofs.codes.outcome_coded.Goals as goal

pub returns-in-Applied : goal.returns-in-Applied
returns-in-Applied c = c.of.ensures ∙ rw c.in-Applied.is

pub returns-in-Rejected : goal.returns-in-Rejected
returns-in-Rejected c = c.rejection_coded.ensures ∙ rw c.in-Rejected.is
