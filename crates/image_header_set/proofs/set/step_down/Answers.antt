use Rattle.image_parts.proofs.Images.{stored-word}
use Rattle.image_header_set.proofs.SetLaws.{stepped_down_lem}
use Rattle.image_header_set.proofs.set.step_down.Goals as goal

pub returns : goal.returns
returns c =
    let a = c.args in stepped_down_lem a.out.now _ _ _ a.row c.requires c.put_role.ensures (stored-word 8 0 c.put8.ensures) c.set_own.ensures
