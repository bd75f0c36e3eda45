use mathlib.Core.Path.{refl}
use Rattle.map_words.proofs.parts.put_words.Goals as goal

pub returns : goal.returns
returns c = record { bytes = c.put_bytes.ensures; place = refl; within = c.requires }
