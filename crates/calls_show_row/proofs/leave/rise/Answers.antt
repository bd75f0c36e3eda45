use native.Mathlib.Omega.{arith}
use Rattle.calls_show_row.proofs.Grow.{rise_over, rise-fits}
use Rattle.calls_show_row.proofs.leave.rise.Goals as goal

pub grow-requires : goal.grow-requires
grow-requires c = (c.requires.room, omega arith, c.requires.sized.held, c.requires.sized.synced)

pub returns-in_err-n : goal.returns-in_err-n
returns-in_err-n c =
    let a = c.args in rw c.from_residual.ensures (rise_over a.out.now _ a.at a.me a.row 33 c.in_err-n.ensures (omega arith))

pub set_count-requires : goal.set_count-requires
set_count-requires c = let l = c.grow.auto.out in let r = c.requires.room in omega arith

pub in_nodes-requires : goal.in_nodes-requires
in_nodes-requires c = c.requires.sized.synced

pub set_record-requires : goal.set_record-requires
set_record-requires c = let l = c.grow.auto.out in let k = c.set_count.auto.out in let r = c.requires.room in omega arith

pub returns : goal.returns
returns c =
    let a = c.args in (omega arith, rise-fits a.out.now _ a.at a.me a.row c.in_ok-n.n c.in_ok-n.ensures.1 _ _ c.in_nodes.result c.in_ok-n.ensures.0 c.set_count.ensures c.set_record.ensures c.in_nodes.ensures)
