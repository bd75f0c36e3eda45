use Rattle.calls_position.proofs.Pattern.{vectors-read}
use Rattle.host.proofs.position.catalogue_position_vector.Goals as goal

pub returns : goal.returns
returns c = vectors-read _ _ c.ranges.ra c.ranges.dec _ _ _ c.position_vector.ensures
