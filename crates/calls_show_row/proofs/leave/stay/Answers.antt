use native.Mathlib.Omega.{arith}
use Rattle.calls_show_row.proofs.Grow.{stay_over, stay_fits}
use Rattle.calls_show_row.proofs.leave.stay.Goals as goal

pub overflow_add-at : goal.overflow_add-at
overflow_add-at c = let r = c.requires.room in omega arith

pub get8-was-requires : goal.get8-was-requires
get8-was-requires c = let r = c.requires.room in omega arith

pub retain-requires : goal.retain-requires
retain-requires c =
    let p = c.requires.peers in let e = c.get8-was.ensures in (c.requires.room, omega arith, c.requires.sized.held)

pub grow-requires : goal.grow-requires
grow-requires c =
    let p = c.requires.peers in let e = c.get8-was.ensures in let r = c.requires.room in let k = c.retain.auto.out in (omega arith, omega arith, c.requires.sized.held, omega arith)

pub returns-in_err-n : goal.returns-in_err-n
returns-in_err-n c =
    let a = c.args in rw c.from_residual.ensures (stay_over a.out.now _ _ a.at a.me a.row c.get8-was.result 33 c.get8-was.ensures c.retain.ensures c.in_err-n.ensures (omega arith))

pub set_count-requires : goal.set_count-requires
set_count-requires c = let l = c.grow.auto.out in let k = c.retain.auto.out in let r = c.requires.room in omega arith

pub returns : goal.returns
returns c =
    let a = c.args in let p = c.requires.peers in let e = c.get8-was.ensures in
    (omega arith, stay_fits a.out.now _ _ a.at a.me a.row c.get8-was.result c.in_ok-n.n c.get8-was.ensures c.retain.ensures c.in_ok-n.ensures.1 _ c.in_ok-n.ensures.0 (omega arith) c.set_count.ensures)
