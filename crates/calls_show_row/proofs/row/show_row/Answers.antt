use Rattle.calls_show_row.proofs.RowLaws.{known-is}
use Rattle.calls_show_row.proofs.row.show_row.Goals as goal

pub leave-was-requires : goal.leave-was-requires
leave-was-requires c = c.requires.0

pub returns : goal.returns
returns c =
    let a = c.args in let w = c.leave-was.ensures in let k = known-is a.out.now _ a.at a.me a.row c.leave-was.result w c.requires.1 in k.3.shows k.2
