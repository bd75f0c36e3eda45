use Rattle.calls_position.proofs.Pattern.{divides_read}
use Rattle.host.proofs.position.catalogue_position_fields.Goals as goal

pub returns : goal.returns
returns c = divides_read _ _ c.ranges.ra c.ranges.dec _ _ _ c.position_fields.ensures
