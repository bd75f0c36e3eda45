use native.Mathlib.Omega.{arith}
use Rattle.image_parts.proofs.Images.{stored-word, stored_as_lem}
use Rattle.image_parts.proofs.Types.{key_good}
use Rattle.image_header_begin.proofs.RowLaws.{begun-set}
use Rattle.image_header_begin.proofs.rows.set_begun.Goals as goal

pub returns : goal.returns
returns c =
    let a = c.args in begun-set a.out.now _ _ _ _ _ a.row a.key a.slot a.epoch a.metric c.requires (key_good a.key _ c.well_formed.1.1.0) (omega arith) c.put_key.ensures (stored-word 8 a.slot c.put8.ensures) (stored-word 8 0 c.put8-2.ensures) (stored_as_lem 4 _ _ c.metric_code.ensures c.put4.ensures) c.set_aligned.ensures
