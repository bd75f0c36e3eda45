use mathlib.Core.Path.{ap}
use Rattle.spec.specs.Keys.{Name}
use Rattle.map_names.proofs.key_of.Goals as goal

pub load_name-name-requires : goal.load_name-name-requires
load_name-name-requires c = record { short = c.requires.0; inside = c.requires.1 }

pub returns : goal.returns
returns c = ap (λ (n : Name). record { collection = n; shard = c.args.p.shard }) c.load_name-name.ensures.0
