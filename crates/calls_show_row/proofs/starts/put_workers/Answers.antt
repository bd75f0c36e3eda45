use native.Mathlib.Omega.{arith}
use Prim.Native.Nat.{ℕ}
use lib.ListN.{length-replicate}
use mathlib.Core.Path.{refl}
use Rattle.calls_show_row.specs.Leave.{Leaves}
use Rattle.calls_show_row.proofs.PeerLaws.{at_most_at}
use Rattle.calls_show_row.proofs.RowLaws.{known-is, copy_ready, copy_few, room-new, puts-all}
use Rattle.calls_show_row.proofs.starts.put_workers.Goals as goal

pub copy_row-requires : goal.copy_row-requires
copy_row-requires c = (length-replicate {A = ℕ} 1280 0, c.requires.0.room)

pub leave-requires : goal.leave-requires
leave-requires c =
    let a = c.args in let k = c.copy_row.auto.out in let z = length-replicate {A = ℕ} 1280 0 in copy_ready a.s.now a.at a.me a.row _ c.copy_row.ensures (omega arith) c.requires.0

pub overflow_add-at : goal.overflow_add-at
overflow_add-at c = let r = c.requires.0.room in omega arith

pub unwrap-was-requires : goal.unwrap-was-requires
unwrap-was-requires c =
    let a = c.args in
    let k = known-is _ _ 0 a.me a.row c.leave.result c.leave.ensures (copy_few a.s.now a.at a.me a.row _ c.copy_row.ensures c.requires.1) in rw k.1 refl

pub put_new-requires : goal.put_new-requires
put_new-requires c =
    let a = c.args in let k = c.copy_row.auto.out in let l = c.leave.auto.out in let z = length-replicate {A = ℕ} 1280 0 in let r = c.requires.0.room in
    let w = at_most_at (Leaves c.copy_row.new.out c.leave.new.out 0 a.me a.row) c.leave.result _ c.unwrap-was.ensures c.leave.ensures in
    (omega arith, w.0, omega arith, (w.1.shows w.0).peers, c.requires.2.low, room-new a.s.now a.at a.me a.row _ c.copy_row.ensures _ c.unwrap-was.result w.1 w.0 a.metric a.starts.now a.to c.requires.2)

pub returns : goal.returns
returns c =
    let a = c.args in
    let w = at_most_at (Leaves c.copy_row.new.out c.leave.new.out 0 a.me a.row) c.leave.result _ c.unwrap-was.ensures c.leave.ensures in
    puts-all a.s.now a.at a.me a.row _ c.copy_row.ensures _ c.unwrap-was.result w.1 w.0 a.metric a.starts.now _ a.to c.put_new.result c.put_new.ensures
