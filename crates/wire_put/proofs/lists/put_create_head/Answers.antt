use mathlib.Core.Path.{◌∙◌}
use Rattle.wire_put.proofs.Placed.{head-put}
use Rattle.wire_put.proofs.lists.put_create_head.Goals as goal

pub returns : goal.returns
returns c =
    let a = c.args in
    c.put_byte-2.ensures
    ∙ (rw (c.put4-3.ensures, c.put4-2.ensures, c.put_byte.ensures, c.metric_code.ensures, c.put4.ensures, c.put_text.ensures)
    (head-put a.name.now a.dimension a.metric a.shards a.replication a.n a.out.now c.requires.1))
