use mathlib.Core.Path.{◌∙◌}
use mathlib.Core.List.{[]}
use Rattle.wire_write.proofs.Writes.{delete_put}
use Rattle.image_send_entries.proofs.entries.put_delete.Goals as goal

pub returns : goal.returns
returns c = let a = c.args in c.put8.ensures ∙ (rw c.put_byte.ensures (delete_put a.out.now a.at a.id []))
