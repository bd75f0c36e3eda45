use Rattle.image_parts.specs.Parts.{key_bytes, name_bytes}
use Rattle.image_parts.proofs.Images.{stored-then, stored-word}
use Rattle.image_parts.proofs.keys.put_key.Goals as goal

pub returns : goal.returns
unfolding key_bytes name_bytes
returns c = stored-then c.put_name.ensures (stored-word 4 c.args.k.shard c.put4.ensures)
