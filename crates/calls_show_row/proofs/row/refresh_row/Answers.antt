use Rattle.calls_show_row.proofs.LeaveLaws.{refreshes}
use Rattle.calls_show_row.proofs.row.refresh_row.Goals as goal

pub set_holders-requires : goal.set_holders-requires
set_holders-requires c = c.requires.room

pub returns : goal.returns
returns c = let a = c.args in refreshes a.out.now _ a.at a.row c.set_holders.ensures
