use Rattle.image_parts.specs.Parts.{address_at}
use Rattle.image_parts.proofs.keys.address_at.Goals as goal

pub returns : goal.returns
unfolding address_at
returns c = rw (c.bytes_at-bytes.ensures, c.get8-len.ensures)
