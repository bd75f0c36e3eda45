use native.Mathlib.Omega.{arith}
use Rattle.image_parts.proofs.Images.{stored-word}
use Rattle.image_header_set.proofs.SetLaws.{aligned-set}
use Rattle.image_header_set.proofs.set.set_aligned.Goals as goal

pub returns : goal.returns
returns c =
    let a = c.args in aligned-set a.out.now _ _ _ _ a.row a.epoch a.last a.stored c.requires (omega arith) (omega arith) (omega arith) (stored-word 8 a.stored c.put8.ensures) (stored-word 8 a.epoch c.put8-2.ensures) (stored-word 8 a.last c.put8-3.ensures) c.step_down.ensures
