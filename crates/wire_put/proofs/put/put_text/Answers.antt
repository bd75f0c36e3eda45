use mathlib.Core.Path.{◌∙◌}
use Rattle.wire_put.proofs.Writes.{text-put}
use Rattle.wire_put.proofs.put.put_text.Goals as goal

pub returns : goal.returns
returns c =
    c.put_zeros.ensures
    ∙ (rw (c.put_bytes.ensures, c.put_byte.ensures) (text-put c.args.out.now c.args.at c.args.c c.args.v.now))
