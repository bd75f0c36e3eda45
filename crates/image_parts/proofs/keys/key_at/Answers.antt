use Rattle.image_parts.specs.Parts.{key_at, name_at}
use Rattle.image_parts.proofs.keys.key_at.Goals as goal

pub returns : goal.returns
unfolding key_at name_at
returns c = rw (c.name_at-name.ensures, c.get4-shard.ensures)
