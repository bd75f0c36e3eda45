use Rattle.image_parts.specs.Parts.{no_key}
use Rattle.image_parts.proofs.keys.no_key.Goals as goal

pub returns : goal.returns
unfolding no_key
returns c = rw c.no_name-name.ensures
