use native.Mathlib.Omega.{arith}
use mathlib.Core.Path.{sym, ◌∙◌}
use Rattle.image_parts.proofs.Images.{stored-word}
use Rattle.image_header_check.proofs.Rows.{last-is}
use Rattle.calls_show_row.proofs.SetLaws.{record_set_lem}
use Rattle.calls_show_row.proofs.set.set_record.Goals as goal

pub returns : goal.returns
returns c =
    let a = c.args in record_set_lem a.out.now _ _ _ a.at a.epoch (record { 0 = c.get8.result }) a.own c.requires (omega arith) (omega arith) (c.get8.ensures ∙ sym (last-is a.out.now a.at)) (stored-word 8 a.epoch.0 c.put8.ensures) c.put_role.ensures c.set_own.ensures
