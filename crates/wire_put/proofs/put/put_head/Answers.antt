use mathlib.Core.Path.{◌∙◌}
use Rattle.wire_put.proofs.Writes.{head-put}
use Rattle.wire_put.proofs.put.put_head.Goals as goal

pub returns : goal.returns
returns c =
    c.put8.ensures
    ∙ (rw (c.put_key.ensures, c.put_byte.ensures) (head-put c.args.out.now c.args.c c.args.name.now c.args.shard c.args.epoch c.requires.1))
