use Rattle.image_parts.specs.Parts.{replica_at}
use Rattle.image_parts.proofs.replicas.replica_at.Goals as goal

pub returns : goal.returns
unfolding replica_at
returns c = rw (c.get8.ensures, c.get8-2.ensures)
