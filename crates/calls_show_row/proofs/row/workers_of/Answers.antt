use native.Mathlib.Omega.{arith}
use Prim.Native.Nat.{ℕ}
use lib.ListN.{length-replicate}
use Rattle.calls_show_row.proofs.RowLaws.{copy_ready, needs_full, needs_some, after-few}
use Rattle.calls_show_row.proofs.row.workers_of.Goals as goal

pub copy_row-requires : goal.copy_row-requires
copy_row-requires c = (length-replicate {A = ℕ} 1280 0, c.requires.room)

pub leave-requires : goal.leave-requires
leave-requires c =
    let a = c.args in let k = c.copy_row.auto.out in let z = length-replicate {A = ℕ} 1280 0 in copy_ready a.s.now a.at a.me a.row _ c.copy_row.ensures (omega arith) c.requires

pub returns-in_err-was : goal.returns-in_err-was
returns-in_err-was c =
    let a = c.args in rw c.from_residual.ensures (needs_full a.s.now a.at a.me a.row _ c.copy_row.ensures _ 33 c.in_err-was.ensures (omega arith))

pub get8-n-requires : goal.get8-n-requires
get8-n-requires c =
    let k = c.copy_row.auto.out in let l = c.leave.auto.out in let z = length-replicate {A = ℕ} 1280 0 in omega arith

pub overflow_add-at : goal.overflow_add-at
overflow_add-at c = let r = c.requires.room in omega arith

pub count_new-requires : goal.count_new-requires
count_new-requires c =
    let a = c.args in let k = c.copy_row.auto.out in let l = c.leave.auto.out in let z = length-replicate {A = ℕ} 1280 0 in let r = c.requires.room in let e = c.get8-n.ensures in let f = after-few a.s.now a.at a.me a.row _ c.copy_row.ensures _ c.in_ok-was.was' c.in_ok-was.ensures.1 c.in_ok-was.ensures.0 in (omega arith, c.in_ok-was.ensures.0, omega arith, omega arith)

pub returns : goal.returns
returns c =
    let a = c.args in needs_some a.s.now a.at a.me a.row _ c.copy_row.ensures _ c.in_ok-was.was' c.in_ok-was.ensures.1 c.in_ok-was.ensures.0 c.get8-n.result c.count_new.result c.get8-n.ensures c.count_new.ensures
