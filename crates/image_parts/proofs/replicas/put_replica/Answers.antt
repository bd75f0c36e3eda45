use Rattle.image_parts.specs.Parts.{replica_bytes}
use Rattle.image_parts.proofs.Images.{stored-then, stored-word}
use Rattle.image_parts.proofs.replicas.put_replica.Goals as goal

pub returns : goal.returns
unfolding replica_bytes
returns c =
    stored-then (stored-word 8 c.args.r.node.0 c.put8.ensures) (stored-word 8 c.args.r.incarnation c.put8-2.ensures)
