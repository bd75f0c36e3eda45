use native.Mathlib.Omega.{arith}
use Rattle.image_parts.proofs.Images.{stored-word}
use Rattle.image_header_set.proofs.SetLaws.{count_set_lem}
use Rattle.calls_show_row.proofs.set.set_count.Goals as goal

pub returns : goal.returns
returns c =
    let a = c.args in count_set_lem a.out.now _ a.at c.requires a.count (omega arith) (stored-word 8 a.count c.put8.ensures)
