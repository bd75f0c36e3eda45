use Rattle.image_parts.specs.Parts.{name_at}
use Rattle.image_parts.proofs.keys.name_at.Goals as goal

pub returns : goal.returns
unfolding name_at
returns c = rw (c.bytes_at-bytes.ensures, c.get8-len.ensures)
