use native.Mathlib.Omega.{arith}
use mathlib.Core.Path.{◌∙◌}
use Rattle.wire_put.proofs.Writes.{text-short}
use Rattle.calls_parts.proofs.KeyLaws.{all_named}
use Rattle.calls_parts.proofs.named.key_named.Goals as goal

pub key_of-requires : goal.key_of-requires
key_of-requires c = (text-short 32 c.args.name.now c.requires, omega arith)

pub returns : goal.returns
returns c = c.key_of.ensures ∙ all_named c.args.name.now c.args.shard
