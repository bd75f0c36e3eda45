use Rattle.image_parts.proofs.Images.{stored_as_lem}
use Rattle.image_parts.specs.Codes.{flag_code}
use Rattle.image_header_set.proofs.SetLaws.{own-set}
use Rattle.image_header_set.proofs.set.set_own.Goals as goal

pub returns : goal.returns
returns c =
    let a = c.args in own-set a.out.now _ a.row c.requires a.own (stored_as_lem 4 _ (flag_code a.own) c.flag_code.ensures c.put4.ensures)
