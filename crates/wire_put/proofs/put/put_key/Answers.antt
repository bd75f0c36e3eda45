use mathlib.Core.Path.{◌∙◌}
use Rattle.wire_put.proofs.Writes.{key-put}
use Rattle.wire_put.proofs.put.put_key.Goals as goal

pub returns : goal.returns
returns c =
    c.put4.ensures ∙ (rw c.put_text.ensures (key-put c.args.out.now c.args.at c.args.name.now c.args.shard c.requires.1))
