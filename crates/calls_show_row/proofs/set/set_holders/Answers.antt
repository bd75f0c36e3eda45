use native.Mathlib.Omega.{arith}
use Rattle.image_parts.proofs.Images.{stored-word}
use Rattle.image_parts.proofs.Types.{replicas_good}
use Rattle.calls_show_row.proofs.SetLaws.{holders-set}
use Rattle.calls_show_row.proofs.set.set_holders.Goals as goal

pub returns : goal.returns
returns c =
    let a = c.args in let g = c.well_formed in holders-set a.out.now _ _ a.at a.list c.requires (omega arith) (replicas_good a.list.items _ g.1.1.0.1.1.0) (stored-word 8 a.list.count c.put8.ensures) c.put_replicas.ensures
