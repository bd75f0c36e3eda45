use Rattle.image_parts.proofs.Images.{stored-then, stored-word}
use Rattle.image_header_form.proofs.front.put_front.Goals as goal

pub returns : goal.returns
returns c =
    stored-then (stored-then (stored-then (stored-then (stored-then c.put_key.ensures (stored-word 4 0 c.put4.ensures)) c.put_counts.ensures) (stored-word 4 0 c.put4-2.ensures)) c.put_role.ensures) c.put_replicas.ensures
